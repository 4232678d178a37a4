-- What returns and panics leave, once the frames are there.
use Rattle.std.proofs.Common.{◌≡◌, ℕ, zero, suc, ◌<◌, ◌≤◌, true, false, List, [], ◌∷◌, length, take, drop, Some, None, refl, slice_get, sym, ap, ◌∙◌, arith}
use Rattle.std.proofs.lemmas.Option.{same_Some}
use Rattle.std.specs.Prelude.{if◌then◌else◌}
use Rattle.go_meaning.specs.declared.act.Act.TheVariants as act
use Rattle.go_meaning.specs.declared.event.End.TheVariants as ends
use Rattle.go_meaning.specs.declared.config.Deferred.{Deferred}
use Rattle.go_meaning.specs.declared.config.Frame.{Frame}
use Rattle.go_meaning.specs.declared.config.Config.{Config}
use Rattle.go_meaning.specs.Programs.{Parts}
use Rattle.go_meaning.specs.Moves.{Move, moved, running, over, return_from, unwind, put}
use Rattle.go_step.specs.Puts.{put_frames}
use Rattle.go_step.specs.Calls.{HasValues, HasDeferred, HasNone, deferred_by, deferred_move, DeliversFrames, UnwindsFrames}

none_of : (f top : Frame) → Some f ≡ Some top → length top.deferred ≡ 0 → f.deferred ≡ []
none_of f top h n = empty f.deferred (ap (λ (g : Frame). length g.deferred) (same_Some f top h) ∙ n)
  where
    empty : (ds : List Deferred) → length ds ≡ 0 → ds ≡ []
    empty [] e = refl
    empty (d ∷ ds) e = absurd (omega (arith, e))

by_return : (P : Parts) (c : Config) (i : ℕ) (f : Frame) (fs : List Frame) (n : ℕ) (ds : List Deferred) → 0 < length ds → Some (return_from P c i f fs n ds) ≡ deferred_by P c f fs ds
by_return P c i f fs n [] h = absurd (omega arith)
by_return P c i f fs n (d ∷ ds) h = refl

pub return_runs : (P : Parts) (c d : Config) (i n : ℕ) (fs gs : List Frame) → HasDeferred fs → deferred_move P c fs ≡ Some (moved d (running gs)) → put_frames P c i fs (act.Returns n) ≡ Some (moved d (running gs))
unfolding put
return_runs P c d i n [] gs h e = absurd h
return_runs P c d i n (f ∷ fs) gs h e = by_return P c i f fs n f.deferred h ∙ e

pub return_delivers : (P : Parts) (c : Config) (i n : ℕ) (fs gs : List Frame) → HasNone fs → DeliversFrames n fs gs → put_frames P c i fs (act.Returns n) ≡ Some (moved c (running gs))
unfolding put
return_delivers P c i n [] gs h e = absurd e
return_delivers P c i n (f ∷ []) gs h e = absurd e
return_delivers P c i n (f ∷ g ∷ fs) gs h e = ap (λ ds. Some (return_from P c i f (g ∷ fs) n ds)) h ∙ ap (λ l. Some (moved c (running l))) (sym e)

pub return_ends : (P : Parts) (c : Config) (i n : ℕ) (fs : List Frame) (top : Frame) → slice_get fs 0 ≡ Some top → length top.deferred ≡ 0 → length fs ≤ 1 → put_frames P c i fs (act.Returns n) ≡ Some (moved (over i c) (running []))
unfolding put
return_ends P c i n [] top h n0 e = absurd cc
return_ends P c i n (f ∷ []) top h n0 e = ap (λ ds. Some (return_from P c i f [] n ds)) (none_of f top h n0)
return_ends P c i n (f ∷ g ∷ fs) top h n0 e = absurd (omega arith)

by_unwind : (P : Parts) (c : Config) (f : Frame) (fs : List Frame) (m : List ℕ) (ds : List Deferred) → 0 < length ds → Some (unwind P c f fs m ds) ≡ deferred_by P c f fs ds
by_unwind P c f fs m [] h = absurd (omega arith)
by_unwind P c f fs m (d ∷ ds) h = refl

pub unwind_runs : (P : Parts) (c d : Config) (i : ℕ) (m : List ℕ) (fs gs : List Frame) → HasDeferred fs → deferred_move P c fs ≡ Some (moved d (running gs)) → put_frames P c i fs (act.Unwinds m) ≡ Some (moved d (running gs))
unfolding put
unwind_runs P c d i m [] gs h e = absurd h
unwind_runs P c d i m (f ∷ fs) gs h e = by_unwind P c f fs m f.deferred h ∙ e

pub unwind_goes_on : (P : Parts) (c : Config) (i : ℕ) (m : List ℕ) (fs gs : List Frame) → HasNone fs → UnwindsFrames m fs gs → put_frames P c i fs (act.Unwinds m) ≡ Some (moved c (running gs))
unfolding put
unwind_goes_on P c i m [] gs h e = absurd e
unwind_goes_on P c i m (f ∷ []) gs h e = absurd e
unwind_goes_on P c i m (f ∷ g ∷ fs) gs h e = ap (λ ds. Some (unwind P c f (g ∷ fs) m ds)) h ∙ ap (λ l. Some (moved c (running l))) (sym e)

pub unwind_ends : (P : Parts) (c : Config) (i : ℕ) (m : List ℕ) (fs : List Frame) (top : Frame) → slice_get fs 0 ≡ Some top → length top.deferred ≡ 0 → length fs ≤ 1 → put_frames P c i fs (act.Unwinds m) ≡ Some (moved (record c { end = Some (ends.Panic m) }) (running []))
unfolding put
unwind_ends P c i m [] top h n0 e = absurd cc
unwind_ends P c i m (f ∷ []) top h n0 e = ap (λ ds. Some (unwind P c f [] m ds)) (none_of f top h n0)
unwind_ends P c i m (f ∷ g ∷ fs) top h n0 e = absurd (omega arith)
