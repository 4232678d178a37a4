-- What a started goroutine leaves.
use Rattle.std.proofs.Common.{◌≡◌, ℕ, ◌<◌, ◌≤◌, Bool, true, false, List, [], ◌∷◌, ◌++◌, length, reverse, take, drop, Option, Some, None, slice_get, refl, sym, ap, ◌∙◌, subst}
use Rattle.std.proofs.lemmas.Option.{same_Some}
use Rattle.std.proofs.lemmas.List.{append-nil}
use Rattle.std.proofs.Math.Seq.{set-append_seam}
use Rattle.std.specs.Prelude.{option_map, slice_set, if◌then◌else◌}
use Rattle.std.specs.Prelude.{Ok}
use Rattle.std.proofs.lemmas.Bool.{lt-ltb, le-ltb}
use Rattle.go_meaning.specs.declared.act.Act.TheVariants as act
use Rattle.go_meaning.specs.declared.event.End.TheVariants as ends
use Rattle.go_meaning.specs.declared.config.Frame.{Frame}
use Rattle.go_meaning.specs.declared.config.Config.{Config}
use Rattle.go_meaning.specs.Programs.{Parts, function_at}
use Rattle.go_meaning.specs.Moves.{Move, Taken, running, taken, spawn, started, stopped, goroutine_limit, put}
use Rattle.go_step.specs.Puts.{consumed, put_frames}
use Rattle.go_step.specs.Goroutines.{JoinsFrames, BearsGoroutine, SpawnsFrames}
use Rattle.go_step.proofs.Calling.{if_true, if_false, taken_is}

pub last_set : {A : Type 0} (xs : List A) (hole x : A) (n : ℕ) → n ≡ length xs → slice_set (xs ++ hole ∷ []) n x ≡ xs ++ x ∷ []
last_set xs hole x n e = ap (λ k. slice_set (xs ++ hole ∷ []) k x) e ∙ set-append_seam xs hole [] x

pub spawn_joins : (P : Parts) (c d : Config) (i : ℕ) (fs gs : List Frame) (g n : ℕ) (top : Frame) → n ≡ (function_at P g).params → slice_get fs 0 ≡ Some top → n ≤ length top.stack → length c.goroutines < goroutine_limit → BearsGoroutine g n c fs d → SpawnsFrames n fs gs → JoinsFrames P c i fs (act.Spawns g) (Ok true) d gs
unfolding put
spawn_joins P c d i [] gs g n top e at has room bears is = absurd cc
spawn_joins P c d i (f ∷ fs) gs g n top e at has room bears is =
    let same : top ≡ f = same_Some top f (sym at) in
    let within : n ≤ length f.stack = subst (λ (t : Frame). n ≤ length t.stack) same has in
    let m : Move = record { world = c; after = running (consumed n f ∷ fs); born = started g (reverse (take n f.stack)) ∷ [] } in
    let puts : put_frames P c i (f ∷ fs) (act.Spawns g) ≡ Some m =
    ap (option_map (spawn c f fs (drop 1 f.control) g)) (ap (λ k. taken k f.stack) (sym e) ∙ taken_is n f.stack within)
    ∙ ap Some (if_true _ m _ (lt-ltb (length c.goroutines) goroutine_limit room)) in
    (m, puts, ap running (sym is), bears)

pub stop_joins : (P : Parts) (c : Config) (i : ℕ) (fs : List Frame) (g n : ℕ) (top : Frame) → n ≡ (function_at P g).params → slice_get fs 0 ≡ Some top → n ≤ length top.stack → goroutine_limit ≤ length c.goroutines → JoinsFrames P c i fs (act.Spawns g) (Ok true) (record c { end = Some ends.GoroutineLimit }) fs
unfolding put
stop_joins P c i [] g n top e at has full = absurd cc
stop_joins P c i (f ∷ fs) g n top e at has full =
    let same : top ≡ f = same_Some top f (sym at) in
    let within : n ≤ length f.stack = subst (λ (t : Frame). n ≤ length t.stack) same has in
    let m : Move = stopped c f fs ends.GoroutineLimit in
    let puts : put_frames P c i (f ∷ fs) (act.Spawns g) ≡ Some m =
    ap (option_map (spawn c f fs (drop 1 f.control) g)) (ap (λ k. taken k f.stack) (sym e) ∙ taken_is n f.stack within)
    ∙ ap Some (if_false _ _ m (le-ltb (length c.goroutines) goroutine_limit full)) in
    (m, puts, refl, ap (λ l. record c { end = Some ends.GoroutineLimit; goroutines = l }) (sym (append-nil c.goroutines)))
