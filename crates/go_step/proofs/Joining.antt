-- A goroutine that was taken out while its act was done.
use Rattle.std.proofs.Common.{◌≡◌, ℕ, ◌<◌, ◌≤◌, Bool, true, false, List, [], ◌∷◌, ◌++◌, length, Option, Some, None, slice_get, refl, sym, ap, ◌∙◌, arith, subst, length-set, length-append}
use Rattle.std.specs.Prelude.{slice_set, option_map, Result, Ok, Err, drop}
use Rattle.std.specs.declared.alloc.AllocError.{AllocError}
use Rattle.std.proofs.lemmas.Option.{same_Some, slice_get_within}
use Rattle.std.proofs.lemmas.List.{append-nil, set-set, set-append_left}
use Rattle.go_meaning.specs.declared.value.Value.{Value}
use Rattle.go_meaning.specs.declared.act.Act.{Act}
use Rattle.go_meaning.specs.declared.act.Act.TheVariants as act
use Rattle.go_meaning.specs.declared.config.Call.{Call}
use Rattle.go_meaning.specs.declared.config.Frame.{Frame}
use Rattle.go_meaning.specs.declared.config.Goroutine.{Goroutine}
use Rattle.go_meaning.specs.declared.config.Config.{Config}
use Rattle.go_meaning.specs.Programs.{Parts}
use Rattle.go_meaning.specs.Moves.{Move, moved, running}
use Rattle.go_meaning.specs.Fitting.{IsFitting}
use Rattle.go_meaning.specs.Steps.{arrive}
use Rattle.go_step.specs.Puts.{put_frames}
use Rattle.go_step.specs.Goroutines.{holed, holed_move, joined, JoinsFrames, put_goroutine, put_goroutine_by, put_at, FitsFrames, FitsBy, FitsGoroutine, Leads}
use Rattle.go_step.proofs.Holes.{put_holed}
use Rattle.go_step.proofs.Restored.{restored}

-- no goroutine is started
pub puts_join : (P : Parts) (c d : Config) (i : ℕ) (fs gs : List Frame) (a : Act) → put_frames P c i fs a ≡ Some (moved d (running gs)) → JoinsFrames P c i fs a (Ok true) d gs
puts_join P c d i fs gs a e = (moved d (running gs), e, refl, ap (λ l. holed l d) (sym (append-nil d.goroutines)))

frames_holed : (P : Parts) (c : Config) (hs : List Goroutine) (i : ℕ) (fs : List Frame) (a : Act) → length hs ≡ length c.goroutines → put_frames P (holed hs c) i fs a ≡ option_map (holed_move hs) (put_frames P c i fs a)
frames_holed P c hs i [] a n = refl
frames_holed P c hs i (f ∷ fs) a n = put_holed P c hs i f fs (drop 1 f.control) a n

by_goroutine : (P : Parts) (c : Config) (i : ℕ) (a : Act) (go : Goroutine) → slice_get c.goroutines i ≡ Some go → go.begin ≡ None → put_goroutine P c i a (slice_get c.goroutines i) ≡ put_frames P c i go.frames a
by_goroutine P c i a go at none = ap (put_goroutine P c i a) at ∙ ap (λ b. put_goroutine_by P c i b go.frames a) none

-- the goroutine comes back to its place
back : (gs born : List Goroutine) (i : ℕ) (hole go : Goroutine) → i < length gs → slice_set (slice_set gs i hole ++ born) i go ≡ slice_set gs i go ++ born
back gs born i hole go h = set-append_left (slice_set gs i hole) born i go (omega (arith, length-set gs i hole)) ∙ ap (λ l. l ++ born) (set-set gs i hole go)

pub act_leads : (P : Parts) (c d : Config) (i : ℕ) (a : Act) (go hole : Goroutine) (fs : List Frame) → slice_get c.goroutines i ≡ Some go → go.begin ≡ None → JoinsFrames P (holed (slice_set c.goroutines i hole) c) i go.frames a (Ok true) d fs → put_at P c i a ≡ Some (holed (slice_set d.goroutines i (record go { frames = fs })) d)
act_leads P c d i a go hole fs at none joins =
    ap (option_map (arrive c i)) (by_goroutine P c i a go at none) ∙ by (put_frames P c i go.frames a) (sym (frames_holed P c (slice_set c.goroutines i hole) i go.frames a (length-set c.goroutines i hole)) ∙ joins.1)
  where
    within : i < length c.goroutines
    within = slice_get_within c.goroutines i go at

    come : (m : Move) → holed_move (slice_set c.goroutines i hole) m ≡ joins.0 → Some (arrive c i m) ≡ Some (holed (slice_set d.goroutines i (record go { frames = fs })) d)
    come m e =
        let world : d ≡ holed (slice_set c.goroutines i hole ++ m.born) m.world = joins.3 ∙ ap joined (sym e) in
        let after : m.after ≡ record go { frames = fs } = ap (λ (n : Move). n.after) e ∙ joins.2 ∙ ap (λ b. record { begin = b; frames = fs }) (sym none) in
        let row : slice_set d.goroutines i (record go { frames = fs }) ≡ slice_set c.goroutines i m.after ++ m.born =
        ap (λ (k : Config). slice_set k.goroutines i (record go { frames = fs })) world ∙ back c.goroutines m.born i hole (record go { frames = fs }) within ∙ ap (λ g. slice_set c.goroutines i g ++ m.born) (sym after) in
        ap Some (sym (ap (λ l. holed l d) row ∙ ap (holed (slice_set c.goroutines i m.after ++ m.born)) world))

    by : (o : Option Move) → option_map (holed_move (slice_set c.goroutines i hole)) o ≡ Some joins.0 → option_map (arrive c i) o ≡ Some (holed (slice_set d.goroutines i (record go { frames = fs })) d)
    by None e = absurd cc
    by (Some m) e = come m (same_Some (holed_move (slice_set c.goroutines i hole) m) joins.0 e)

pub act_none : (P : Parts) (c : Config) (i : ℕ) (a : Act) (go hole : Goroutine) → slice_get c.goroutines i ≡ Some go → go.begin ≡ None → put_frames P (holed (slice_set c.goroutines i hole) c) i go.frames a ≡ None → put_at P c i a ≡ None
act_none P c i a go hole at none e =
    ap (option_map (arrive c i)) (by_goroutine P c i a go at none) ∙ by (put_frames P c i go.frames a) (sym (frames_holed P c (slice_set c.goroutines i hole) i go.frames a (length-set c.goroutines i hole)) ∙ e)
  where
    by : (o : Option Move) → option_map (holed_move (slice_set c.goroutines i hole)) o ≡ None → option_map (arrive c i) o ≡ None
    by None e = refl
    by (Some m) e = absurd cc

-- without a step all is as it was
put_back : (c d : Config) (i : ℕ) (go hole : Goroutine) (fs : List Frame) → slice_get c.goroutines i ≡ Some go → d ≡ holed (slice_set c.goroutines i hole) c → fs ≡ go.frames → holed (slice_set d.goroutines i (record go { frames = fs })) d ≡ c
put_back c d i go hole fs at e f =
    ap (λ (k : Config). holed (slice_set k.goroutines i (record go { frames = fs })) k) e
    ∙ ap (λ l. holed (slice_set (slice_set c.goroutines i hole) i (record go { frames = l })) c) f
    ∙ ap (λ l. holed l c) (restored c.goroutines i hole go at)

pub act_answers : (P : Parts) (c d : Config) (i : ℕ) (a : Act) (go hole : Goroutine) (fs : List Frame) (r : Result Bool AllocError) → slice_get c.goroutines i ≡ Some go → go.begin ≡ None → JoinsFrames P (holed (slice_set c.goroutines i hole) c) i go.frames a r d fs → Leads (put_at P c i a) c r (holed (slice_set d.goroutines i (record go { frames = fs })) d)
act_answers P c d i a go hole fs (Ok true) at none j = act_leads P c d i a go hole fs at none j
act_answers P c d i a go hole fs (Ok false) at none j = (act_none P c i a go hole at none j.0, put_back c d i go hole fs at j.1 j.2)
act_answers P c d i a go hole fs (Err e) at none j = put_back c d i go hole fs at j.0 j.1

-- ---- what the frames of the goroutine fit

pub fits_begin : (a : Act) (c : Config) (o : Option Goroutine) (go : Goroutine) → o ≡ Some go → FitsGoroutine a c o → (go.begin ≡ None) × FitsFrames a c go.frames
fits_begin a c o go e h = by go.begin refl (subst (FitsGoroutine a c) e h)
  where
    by : (b : Option Call) → go.begin ≡ b → FitsBy a c go.begin go.frames → (go.begin ≡ None) × FitsFrames a c go.frames
    by None e h = (e, subst (λ (b : Option Call). FitsBy a c b go.frames) e h)
    by (Some call) e h = absurd (subst (λ (b : Option Call). FitsBy a c b go.frames) e h)

fits_act : (a : Act) (c : Config) (gs : List Goroutine) (st : List Value) → IsFitting a c st → IsFitting a (holed gs c) st
unfolding IsFitting
fits_act act.Stuck c gs st h = h
fits_act a c gs st h = h

pub fits_holed : (a : Act) (c : Config) (gs : List Goroutine) (fs : List Frame) → FitsFrames a c fs → FitsFrames a (holed gs c) fs
fits_holed a c gs [] h = absurd h
fits_holed a c gs (f ∷ fs) h = (h.0, fits_act a c gs f.stack h.1)

-- no goroutine goes
pub joins_length : (P : Parts) (c d : Config) (i : ℕ) (a : Act) (fs gs : List Frame) (r : Result Bool AllocError) → JoinsFrames P c i fs a r d gs → length c.goroutines ≤ length d.goroutines
joins_length P c d i a fs gs (Ok true) j =
    let same : Some j.0 ≡ Some (holed_move c.goroutines j.0) = sym j.1 ∙ frames_holed P c c.goroutines i fs a refl ∙ ap (option_map (holed_move c.goroutines)) j.1 in
    let world : j.0.world.goroutines ≡ c.goroutines = ap (λ (m : Move). m.world.goroutines) (same_Some j.0 (holed_move c.goroutines j.0) same) in
    omega (arith, ap (λ (k : Config). length k.goroutines) j.3, length-append j.0.world.goroutines j.0.born, ap length world)
joins_length P c d i a fs gs (Ok false) j = omega (arith, ap (λ (k : Config). length k.goroutines) j.1)
joins_length P c d i a fs gs (Err e) j = omega (arith, ap (λ (k : Config). length k.goroutines) j.0)
