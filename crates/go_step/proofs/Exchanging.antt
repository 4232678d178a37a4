-- The exchange of two goroutines.
use Rattle.std.proofs.Common.{◌≡◌, ℕ, zero, suc, ◌<◌, Bool, true, false, List, [], ◌∷◌, Option, Some, None, refl, sym, ap, ◌∙◌, subst, length, drop, slice_get, arith}
use Rattle.std.specs.Prelude.{◌≢◌, slice_set, option_map, is_some, if◌then◌else◌}
use Rattle.std.proofs.lemmas.Option.{slice_get_within}
use Rattle.std.proofs.lemmas.List.{set-set, set_comm}
use Rattle.go_meaning.specs.declared.value.Value.{Value}
use Rattle.go_meaning.specs.declared.item.Item.{Item}
use Rattle.go_meaning.specs.declared.config.Call.{Call}
use Rattle.go_meaning.specs.declared.config.Frame.{Frame}
use Rattle.go_meaning.specs.declared.config.Goroutine.{Goroutine}
use Rattle.go_meaning.specs.declared.config.Config.{Config}
use Rattle.go_meaning.specs.Programs.{Parts}
use Rattle.go_meaning.specs.Moves.{running}
use Rattle.go_meaning.specs.Steps.{arrive_both}
use Rattle.go_meaning.specs.Channels.{Side, Neither, Offers, Wants, Defaults, side_at, sides_of, partner_sides, exchange, is_direct}
use Rattle.go_step.specs.declared.parts.Offer.{Offer}
use Rattle.go_step.specs.declared.parts.Want.{Want}
use Rattle.go_step.specs.declared.parts.Part.{Part}
use Rattle.go_step.specs.declared.parts.Part.TheVariants as part
use Rattle.go_step.specs.Parts.{gone, took, part_side, frames_side, goroutine_side, goroutine_part, partner_part, FramesFit, BeginFits, GoroutineFits}
use Rattle.go_step.specs.Handing.{sent, gone_in, took_in, sent_in, gone_by, took_by, sent_by, exchange_by, both_at}
use Rattle.go_step.specs.declared.ways.Way.{Way}
use Rattle.go_step.specs.declared.ways.Way.TheVariants as way
use Rattle.go_step.specs.Ways.{way_of, meets}
use Rattle.go_step.proofs.Waits.{meet_ways}
use Rattle.go_step.proofs.Calling.{if_true, if_false}
use Rattle.go_step.proofs.Restored.{restored}
use Rattle.go_step.proofs.Sided.{sided, sided_none, partner_sided, partner_none}

-- ---- the frames that run

pub gone_top : (n : ℕ) (items : List Item) (fs one gs : List Frame) (f g hole : Frame) → fs ≡ f ∷ drop 1 fs → one ≡ hole ∷ drop 1 fs → g ≡ gone n items f → gs ≡ g ∷ drop 1 one → gs ≡ gone_in n items fs
gone_top n items fs one gs f g hole is a leaves b =
    b ∙ ap (λ l. g ∷ drop 1 l) a ∙ ap (λ h. h ∷ drop 1 fs) leaves ∙ sym (ap (gone_in n items) is)

pub took_top : (w : Want) (n : ℕ) (ss fs one gs : List Frame) (s f g hole : Frame) → ss ≡ s ∷ drop 1 ss → fs ≡ f ∷ drop 1 fs → one ≡ hole ∷ drop 1 fs → g ≡ took w.taking w.pops w.items f (sent n s) true → gs ≡ g ∷ drop 1 one → gs ≡ took_in w (sent_in n ss) fs
took_top w n ss fs one gs s f g hole from is a leaves b =
    b ∙ ap (λ l. g ∷ drop 1 l) a ∙ ap (λ h. h ∷ drop 1 fs) leaves
    ∙ sym (ap (λ l. took_in w (sent_in n l) fs) from ∙ ap (took_in w (sent n s)) is)

pub top_back : (fs one gs : List Frame) (f g hole : Frame) → fs ≡ f ∷ drop 1 fs → one ≡ hole ∷ drop 1 fs → g ≡ f → gs ≡ g ∷ drop 1 one → gs ≡ fs
top_back fs one gs f g hole is a same b = b ∙ ap (λ l. g ∷ drop 1 l) a ∙ ap (λ h. h ∷ drop 1 fs) same ∙ sym is

-- ---- the goroutines

pub get_other : {A : Type 0} (xs : List A) (i j : ℕ) (x : A) → i ≢ j → slice_get (slice_set xs i x) j ≡ slice_get xs j
get_other [] i j x h = refl
get_other (y ∷ xs) zero zero x h = absurd (h refl)
get_other (y ∷ xs) zero (suc j) x h = refl
get_other (y ∷ xs) (suc i) zero x h = refl
get_other (y ∷ xs) (suc i) (suc j) x h = get_other xs i j x (λ e. h (ap suc e))

pub fits_within : (p : Part) (gs : List Goroutine) (i : ℕ) → GoroutineFits p (slice_get gs i) → i < length gs
fits_within p gs i h = by (slice_get gs i) refl h
  where
    by : (o : Option Goroutine) → slice_get gs i ≡ o → GoroutineFits p o → i < length gs
    by None e h = absurd h
    by (Some go) e h = slice_get_within gs i go e

pub begun_by : (p : Part) (o : Option Goroutine) (go : Goroutine) → o ≡ Some go → GoroutineFits p o → go.begin ≡ None
begun_by p o go e h = by go.begin refl (subst (GoroutineFits p) e h)
  where
    by : (b : Option Call) → go.begin ≡ b → BeginFits p go.begin go.frames → go.begin ≡ None
    by None e h = e
    by (Some call) e h = absurd (subst (λ (b : Option Call). BeginFits p b go.frames) e h)

-- two are taken out, and come back in the other order
both_back : (gs one two three four : List Goroutine) (s r : ℕ) (a b hole hole2 : Goroutine) → s ≢ r → one ≡ slice_set gs s hole → two ≡ slice_set one r hole2 → three ≡ slice_set two r b → four ≡ slice_set three s a → four ≡ slice_set (slice_set gs s a) r b
both_back gs one two three four s r a b hole hole2 others e1 e2 e3 e4 =
    e4 ∙ ap (λ l. slice_set l s a) (e3 ∙ ap (λ l. slice_set l r b) e2 ∙ set-set one r hole2 b ∙ ap (λ l. slice_set l r b) e1)
    ∙ sym (set_comm (slice_set gs s hole) s r a b others) ∙ ap (λ l. slice_set l r b) (set-set gs s hole a)

pub goroutines_hand : (gs one two three four : List Goroutine) (s r : ℕ) (a : Offer) (w : Want) (from to hole hole2 : Goroutine) (fs ts : List Frame) → s ≢ r → GoroutineFits (part.Offers a) (slice_get gs s) → GoroutineFits (part.Wants w) (slice_get gs r) → slice_get gs s ≡ Some from → one ≡ slice_set gs s hole → slice_get one r ≡ Some to → two ≡ slice_set one r hole2 → fs ≡ gone_in a.pops a.items from.frames → ts ≡ took_in w (sent_in a.below from.frames) to.frames → three ≡ slice_set two r (record to { frames = ts }) → four ≡ slice_set three s (record from { frames = fs }) → four ≡ slice_set (slice_set gs s (gone_by a.pops a.items (slice_get gs s))) r (took_by w (sent_by a.below (slice_get gs s)) (slice_get gs r))
goroutines_hand gs one two three four s r a w from to hole hole2 fs ts others offer want ats e1 atr e2 gives takes e3 e4 =
    let there : slice_get gs r ≡ Some to = sym (ap (λ l. slice_get l r) e1 ∙ get_other gs s r hole others) ∙ atr in
    let sender : record from { frames = fs } ≡ gone_by a.pops a.items (slice_get gs s) =
    ap (λ o. record { begin = o; frames = fs }) (begun_by (part.Offers a) (slice_get gs s) from ats offer) ∙ ap running gives ∙ sym (ap (gone_by a.pops a.items) ats) in
    let receiver : record to { frames = ts } ≡ took_by w (sent_by a.below (slice_get gs s)) (slice_get gs r) =
    ap (λ o. record { begin = o; frames = ts }) (begun_by (part.Wants w) (slice_get gs r) to there want) ∙ ap running takes
    ∙ sym (ap (λ o. took_by w (sent_by a.below o) (slice_get gs r)) ats ∙ ap (took_by w (sent_in a.below from.frames)) there) in
    both_back gs one two three four s r (record from { frames = fs }) (record to { frames = ts }) hole hole2 others e1 e2 e3 e4
    ∙ ap (λ g. slice_set (slice_set gs s g) r (record to { frames = ts })) sender
    ∙ ap (slice_set (slice_set gs s (gone_by a.pops a.items (slice_get gs s))) r) receiver

pub goroutines_back : (gs one two three four : List Goroutine) (s r : ℕ) (from to hole hole2 : Goroutine) (fs ts : List Frame) → s ≢ r → slice_get gs s ≡ Some from → one ≡ slice_set gs s hole → slice_get one r ≡ Some to → two ≡ slice_set one r hole2 → fs ≡ from.frames → ts ≡ to.frames → three ≡ slice_set two r (record to { frames = ts }) → four ≡ slice_set three s (record from { frames = fs }) → four ≡ gs
goroutines_back gs one two three four s r from to hole hole2 fs ts others ats e1 atr e2 gives takes e3 e4 =
    let first : three ≡ one =
    e3 ∙ ap (λ l. slice_set l r (record to { frames = ts })) e2 ∙ ap (λ l. slice_set (slice_set one r hole2) r (record to { frames = l })) takes ∙ restored one r hole2 to atr in
    e4 ∙ ap (λ l. slice_set l s (record from { frames = fs })) (first ∙ e1) ∙ ap (λ l. slice_set (slice_set gs s hole) s (record from { frames = l })) gives ∙ restored gs s hole from ats

-- ---- parts that meet

-- an offer and a want go on if they name one channel
pub unmet_offer : (c : Config) (i j : ℕ) (a : Offer) (w : Want) → is_direct c a.channel w.channel ≡ false → exchange_by c i j (part.Offers a) (part.Wants w) ≡ None
unmet_offer c i j a w e = ap (option_map (arrive_both c i j)) (by (slice_get c.goroutines i) (slice_get c.goroutines j))
  where
    frames : (fs gs : List Frame) → exchange c (frames_side (part.Offers a) fs) (frames_side (part.Wants w) gs) ≡ None
    frames [] gs = refl
    frames (f ∷ fs) [] = refl
    frames (f ∷ fs) (g ∷ gs) = if_false (is_direct c a.channel w.channel) _ (let n : Option (Goroutine × Goroutine) = None in n) e

    by : (o p : Option Goroutine) → exchange c (goroutine_side (part.Offers a) o) (goroutine_side (part.Wants w) p) ≡ None
    by None p = refl
    by (Some go) None = none go.frames
      where
        none : (fs : List Frame) → exchange c (frames_side (part.Offers a) fs) Neither ≡ None
        none [] = refl
        none (f ∷ fs) = refl
    by (Some go) (Some to) = frames go.frames to.frames

pub unmet_want : (c : Config) (i j : ℕ) (a : Offer) (w : Want) → is_direct c a.channel w.channel ≡ false → exchange_by c i j (part.Wants w) (part.Offers a) ≡ None
unmet_want c i j a w e = ap (option_map (arrive_both c i j)) (by (slice_get c.goroutines i) (slice_get c.goroutines j))
  where
    frames : (fs gs : List Frame) → exchange c (frames_side (part.Wants w) fs) (frames_side (part.Offers a) gs) ≡ None
    frames [] gs = refl
    frames (f ∷ fs) [] = refl
    frames (f ∷ fs) (g ∷ gs) = if_false (is_direct c a.channel w.channel) _ (let n : Option (Goroutine × Goroutine) = None in n) e

    by : (o p : Option Goroutine) → exchange c (goroutine_side (part.Wants w) o) (goroutine_side (part.Offers a) p) ≡ None
    by None p = refl
    by (Some go) None = none go.frames
      where
        none : (fs : List Frame) → exchange c (frames_side (part.Wants w) fs) Neither ≡ None
        none [] = refl
        none (f ∷ fs) = refl
    by (Some go) (Some to) = frames go.frames to.frames

-- the goroutine with frames that fit
pub fitting : (p : Part) (o : Option Goroutine) → GoroutineFits p o → (f : Frame) × (fs : List Frame) × (o ≡ Some (running (f ∷ fs)))
fitting p None h = absurd h
fitting p (Some go) h = by go.begin go.frames refl refl h
  where
    by : (b : Option Call) (fs : List Frame) → go.begin ≡ b → go.frames ≡ fs → BeginFits p b fs → (f : Frame) × (fs : List Frame) × (Some go ≡ Some (running (f ∷ fs)))
    by (Some call) fs b e h = absurd h
    by None [] b e h = absurd h
    by None (f ∷ fs) b e h = (f, fs, ap (λ o. Some (record { begin = o; frames = go.frames })) b ∙ ap (λ l. Some (running l)) e)

pub met_offer : (c : Config) (i j : ℕ) (a : Offer) (w : Want) (gs : List Goroutine) → GoroutineFits (part.Offers a) (slice_get c.goroutines i) → GoroutineFits (part.Wants w) (slice_get c.goroutines j) → is_direct c a.channel w.channel ≡ true → gs ≡ slice_set (slice_set c.goroutines i (gone_by a.pops a.items (slice_get c.goroutines i))) j (took_by w (sent_by a.below (slice_get c.goroutines i)) (slice_get c.goroutines j)) → exchange_by c i j (part.Offers a) (part.Wants w) ≡ Some (record c { goroutines = gs })
met_offer c i j a w gs offer want met is =
    ap (option_map (arrive_both c i j)) (by (slice_get c.goroutines i) (slice_get c.goroutines j) offer want) ∙ ap (λ l. Some (record c { goroutines = l })) (sym is)
  where
    by : (o p : Option Goroutine) → GoroutineFits (part.Offers a) o → GoroutineFits (part.Wants w) p → exchange c (goroutine_side (part.Offers a) o) (goroutine_side (part.Wants w) p) ≡ Some (gone_by a.pops a.items o, took_by w (sent_by a.below o) p)
    by o p offer want =
        let from = fitting (part.Offers a) o offer in
        let to = fitting (part.Wants w) p want in
        subst (λ x. exchange c (goroutine_side (part.Offers a) x) (goroutine_side (part.Wants w) p) ≡ Some (gone_by a.pops a.items x, took_by w (sent_by a.below x) p)) (sym from.2)
        (subst (λ y. exchange c (goroutine_side (part.Offers a) (Some (running (from.0 ∷ from.1)))) (goroutine_side (part.Wants w) y) ≡ Some (gone_by a.pops a.items (Some (running (from.0 ∷ from.1))), took_by w (sent_by a.below (Some (running (from.0 ∷ from.1)))) y)) (sym to.2)
        (if_true (is_direct c a.channel w.channel) _ (let n : Option (Goroutine × Goroutine) = None in n) met))

pub met_want : (c : Config) (i j : ℕ) (a : Offer) (w : Want) (gs : List Goroutine) → i ≢ j → GoroutineFits (part.Wants w) (slice_get c.goroutines i) → GoroutineFits (part.Offers a) (slice_get c.goroutines j) → is_direct c a.channel w.channel ≡ true → gs ≡ slice_set (slice_set c.goroutines j (gone_by a.pops a.items (slice_get c.goroutines j))) i (took_by w (sent_by a.below (slice_get c.goroutines j)) (slice_get c.goroutines i)) → exchange_by c i j (part.Wants w) (part.Offers a) ≡ Some (record c { goroutines = gs })
met_want c i j a w gs others want offer met is =
    ap (option_map (arrive_both c i j)) (by (slice_get c.goroutines i) (slice_get c.goroutines j) want offer)
    ∙ ap (λ l. Some (record c { goroutines = l })) (set_comm c.goroutines i j (took_by w (sent_by a.below (slice_get c.goroutines j)) (slice_get c.goroutines i)) (gone_by a.pops a.items (slice_get c.goroutines j)) others ∙ sym is)
  where
    by : (o p : Option Goroutine) → GoroutineFits (part.Wants w) o → GoroutineFits (part.Offers a) p → exchange c (goroutine_side (part.Wants w) o) (goroutine_side (part.Offers a) p) ≡ Some (took_by w (sent_by a.below p) o, gone_by a.pops a.items p)
    by o p want offer =
        let to = fitting (part.Wants w) o want in
        let from = fitting (part.Offers a) p offer in
        subst (λ x. exchange c (goroutine_side (part.Wants w) x) (goroutine_side (part.Offers a) p) ≡ Some (took_by w (sent_by a.below p) x, gone_by a.pops a.items p)) (sym to.2)
        (subst (λ y. exchange c (goroutine_side (part.Wants w) (Some (running (to.0 ∷ to.1)))) (goroutine_side (part.Offers a) y) ≡ Some (took_by w (sent_by a.below y) (Some (running (to.0 ∷ to.1))), gone_by a.pops a.items y)) (sym from.2)
        (if_true (is_direct c a.channel w.channel) _ (let n : Option (Goroutine × Goroutine) = None in n) met))

-- no other parts do
abbrev pub IsUnmatched : Part → Part → Type 0
IsUnmatched (part.Offers a) (part.Wants w) = ⊥
IsUnmatched (part.Wants w) (part.Offers a) = ⊥
IsUnmatched p q = Unit {0}

part_way : Part → Way
part_way (part.Offers a) = way.Offers a.channel
part_way (part.Wants w) = way.Wants w.channel
part_way (part.Default e) = way.Default

has_frames : List Frame → Bool
has_frames [] = false
has_frames (f ∷ fs) = true

has_frame : Option Goroutine → Bool
has_frame None = false
has_frame (Some go) = has_frames go.frames

frames_way : (p : Part) (fs : List Frame) → way_of (frames_side p fs) ≡ (if has_frames fs then part_way p else way.Neither)
unfolding part_way has_frames
frames_way p [] = refl
frames_way (part.Offers a) (f ∷ fs) = refl
frames_way (part.Wants w) (f ∷ fs) = refl
frames_way (part.Default e) (f ∷ fs) = refl

goroutine_way : (p : Part) (o : Option Goroutine) → way_of (goroutine_side p o) ≡ (if has_frame o then part_way p else way.Neither)
unfolding has_frame
goroutine_way p None = refl
goroutine_way p (Some go) = frames_way p go.frames

meets_nothing : (c : Config) (w : Way) → meets c w way.Neither ≡ false
meets_nothing c way.Neither = refl
meets_nothing c (way.Offers o) = refl
meets_nothing c (way.Wants o) = refl
meets_nothing c way.Default = refl

parts_apart : (c : Config) (p q : Part) → IsUnmatched p q → meets c (part_way p) (part_way q) ≡ false
unfolding part_way
parts_apart c (part.Offers a) (part.Offers b) h = refl
parts_apart c (part.Offers a) (part.Wants w) h = absurd h
parts_apart c (part.Offers a) (part.Default e) h = refl
parts_apart c (part.Wants w) (part.Offers a) h = absurd h
parts_apart c (part.Wants w) (part.Wants v) h = refl
parts_apart c (part.Wants w) (part.Default e) h = refl
parts_apart c (part.Default e) q h = refl

ways_apart : (c : Config) (p q : Part) (b d : Bool) → IsUnmatched p q → meets c (if b then part_way p else way.Neither) (if d then part_way q else way.Neither) ≡ false
ways_apart c p q true true h = parts_apart c p q h
ways_apart c p q true false h = meets_nothing c (part_way p)
ways_apart c p q false d h = refl

no_pair : (o : Option (Goroutine × Goroutine)) → is_some o ≡ false → o ≡ None
no_pair None e = refl
no_pair (Some p) e = absurd cc

pub unmatched : (c : Config) (i j : ℕ) (p q : Part) → IsUnmatched p q → exchange_by c i j p q ≡ None
unmatched c i j p q h =
    let s : Side = goroutine_side p (slice_get c.goroutines i) in
    let t : Side = goroutine_side q (slice_get c.goroutines j) in
    ap (option_map (arrive_both c i j)) (no_pair (exchange c s t) (meet_ways c s t
    ∙ ap (λ w. meets c w (way_of t)) (goroutine_way p (slice_get c.goroutines i))
    ∙ ap (meets c (if has_frame (slice_get c.goroutines i) then part_way p else way.Neither)) (goroutine_way q (slice_get c.goroutines j))
    ∙ ways_apart c p q (has_frame (slice_get c.goroutines i)) (has_frame (slice_get c.goroutines j)) h))

-- ---- two goroutines

pub both_sided : (P : Parts) (c : Config) (i k j q : ℕ) (p r : Part) → goroutine_part P k (slice_get c.goroutines i) ≡ Some p → partner_part P q (slice_get c.goroutines j) ≡ Some r → exchange_by c i j p r ≡ both_at P c i k j q
both_sided P c i k j q p r e f =
    sym (ap (λ s. option_map (arrive_both c i j) (exchange c s (side_at (partner_sides (sides_of P (slice_get c.goroutines j))) q))) (sided P k (slice_get c.goroutines i) p e)
    ∙ ap (λ s. option_map (arrive_both c i j) (exchange c (goroutine_side p (slice_get c.goroutines i)) s)) (partner_sided P q (slice_get c.goroutines j) r f))

pub both_none : (P : Parts) (c : Config) (i k j q : ℕ) → goroutine_part P k (slice_get c.goroutines i) ≡ None → both_at P c i k j q ≡ None
both_none P c i k j q e = ap (λ s. option_map (arrive_both c i j) (exchange c s (side_at (partner_sides (sides_of P (slice_get c.goroutines j))) q))) (sided_none P k (slice_get c.goroutines i) e)

nobody : (c : Config) (s : Side) → exchange c s Neither ≡ None
nobody c Neither = refl
nobody c (Offers o v a p) = refl
nobody c (Wants o t) = refl
nobody c (Defaults a) = refl

pub both_no_partner : (P : Parts) (c : Config) (i k j q : ℕ) → partner_part P q (slice_get c.goroutines j) ≡ None → both_at P c i k j q ≡ None
both_no_partner P c i k j q e =
    ap (λ s. option_map (arrive_both c i j) (exchange c (side_at (sides_of P (slice_get c.goroutines i)) k) s)) (partner_none P q (slice_get c.goroutines j) e)
    ∙ ap (option_map (arrive_both c i j)) (nobody c (side_at (sides_of P (slice_get c.goroutines i)) k))
