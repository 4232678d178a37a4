-- Sends and receives without a partner.
use Rattle.std.proofs.Common.{◌≡◌, ℕ, zero, suc, ◌<◌, ◌≤◌, Bool, true, false, List, [], ◌∷◌, ◌++◌, Option, Some, None, refl, sym, ap, ◌∙◌, subst, length, drop, slice_get, arith}
use Rattle.std.specs.Prelude.{nat_lt, slice_set, option_map, Result, Ok, Err}
use Rattle.std.specs.declared.alloc.AllocError.{AllocError}
use Rattle.std.proofs.lemmas.Bool.{lt-ltb, le-ltb}
use Rattle.std.proofs.lemmas.List.{append-nil, set-set}
use Rattle.go_meaning.specs.declared.value.Value.{Value}
use Rattle.go_meaning.specs.declared.value.Channel.{Channel}
use Rattle.go_meaning.specs.declared.config.Call.{Call}
use Rattle.go_meaning.specs.declared.config.Frame.{Frame}
use Rattle.go_meaning.specs.declared.config.Goroutine.{Goroutine}
use Rattle.go_meaning.specs.declared.config.Config.{Config}
use Rattle.go_meaning.specs.Operations.{channel_at}
use Rattle.go_meaning.specs.Moves.{Move, moved, running, panicked}
use Rattle.go_meaning.specs.Steps.{arrive}
use Rattle.go_meaning.specs.Channels.{Side, send_closed, with_values, send, receive_from, receive, by_itself}
use Rattle.go_step.specs.declared.parts.Offer.{Offer}
use Rattle.go_step.specs.declared.parts.Want.{Want}
use Rattle.go_step.specs.declared.parts.Part.{Part}
use Rattle.go_step.specs.declared.parts.Part.TheVariants as part
use Rattle.go_step.specs.Puts.{panicking}
use Rattle.go_step.specs.Goroutines.{holed, Leads}
use Rattle.go_step.specs.Parts.{gone, took, part_side, frames_side, goroutine_side, FramesFit, BeginFits, GoroutineFits}
use Rattle.go_step.specs.Handing.{sent, pushed_at, PopsAt, TakesAt, GoesBy, FramesGo, lone_at}
use Rattle.go_step.proofs.Calling.{if_true, if_false}
use Rattle.go_step.proofs.Restored.{restored}

abbrev with_channels : Config → List Channel → Config
with_channels c cs = record c { channels = cs }

-- the channel that a part names
channel_of : (c : Config) (cs : List Channel) (o : Option ℕ) (k : ℕ) → o ≡ Some k → channel_at (with_channels c cs) o ≡ slice_get cs k
channel_of c cs o k e = ap (channel_at (with_channels c cs)) e

-- ---- sends

abbrev send_to : Config → List Channel → Offer → Frame → List Frame → Option Channel → Option Move
send_to c cs a f fs h = send (with_channels c cs) a.channel (sent a.below f) (running (gone a.pops a.items f ∷ fs)) (panicked f fs send_closed) h

pub sends_nil : (a : Offer) (cs : List Channel) (f : Frame) → a.channel ≡ None → GoesBy (part.Offers a) cs f (Ok false) cs f
sends_nil a cs f e = (λ c fs. ap (λ o. send_to c cs a f fs (channel_at (with_channels c cs) o)) e, refl, refl)

pub sends_nowhere : (a : Offer) (cs : List Channel) (f : Frame) (k : ℕ) → a.channel ≡ Some k → slice_get cs k ≡ None → GoesBy (part.Offers a) cs f (Ok false) cs f
sends_nowhere a cs f k e at = (λ c fs. ap (send_to c cs a f fs) (channel_of c cs a.channel k e ∙ at), refl, refl)

pub sends_closed : (a : Offer) (cs : List Channel) (f g : Frame) (k : ℕ) (ch : Channel) → a.channel ≡ Some k → slice_get cs k ≡ Some ch → ch.closed ≡ true → g ≡ panicking send_closed f → GoesBy (part.Offers a) cs f (Ok true) cs g
sends_closed a cs f g k ch e at closed is = λ c fs.
    let none : Option Move = None in
    ap (send_to c cs a f fs) (channel_of c cs a.channel k e ∙ at)
    ∙ if_true ch.closed (Some (moved (with_channels c cs) (panicked f fs send_closed))) _ closed
    ∙ ap (λ h. Some (moved (with_channels c cs) (running (h ∷ fs)))) (sym is)

pub sends_full : (a : Offer) (cs : List Channel) (f : Frame) (k : ℕ) (ch : Channel) → a.channel ≡ Some k → slice_get cs k ≡ Some ch → ch.closed ≡ false → ch.capacity ≤ length ch.values → GoesBy (part.Offers a) cs f (Ok false) cs f
sends_full a cs f k ch e at opened full = (λ c fs. none c fs, refl, refl)
  where
    none : (c : Config) (fs : List Frame) → by_itself (with_channels c cs) (part_side (part.Offers a) f fs) ≡ None
    none c fs =
        let no : Option Move = None in
        ap (send_to c cs a f fs) (channel_of c cs a.channel k e ∙ at)
        ∙ if_false ch.closed _ _ opened
        ∙ if_false (nat_lt (length ch.values) ch.capacity) _ no (le-ltb (length ch.values) ch.capacity full)

pub sends_room : (a : Offer) (cs ds : List Channel) (f g : Frame) (k : ℕ) (ch : Channel) → a.channel ≡ Some k → slice_get cs k ≡ Some ch → ch.closed ≡ false → length ch.values < ch.capacity → ds ≡ pushed_at cs k (sent a.below f) (slice_get cs k) → g ≡ gone a.pops a.items f → GoesBy (part.Offers a) cs f (Ok true) ds g
sends_room a cs ds f g k ch e at opened room is leaves = λ c fs.
    let no : Option Move = None in
    let values : List Value = ch.values ++ sent a.below f ∷ [] in
    let world : with_values (with_channels c cs) a.channel ch values ≡ with_channels c ds =
    ap (λ o. with_values (with_channels c cs) o ch values) e ∙ ap (with_channels c) (sym (is ∙ ap (pushed_at cs k (sent a.below f)) at)) in
    ap (send_to c cs a f fs) (channel_of c cs a.channel k e ∙ at)
    ∙ if_false ch.closed _ _ opened
    ∙ if_true (nat_lt (length ch.values) ch.capacity) _ no (lt-ltb (length ch.values) ch.capacity room)
    ∙ ap (λ d. Some (moved d (running (gone a.pops a.items f ∷ fs)))) world
    ∙ ap (λ h. Some (moved (with_channels c ds) (running (h ∷ fs)))) (sym leaves)

-- ---- receives

abbrev take_by : Want → Frame → List Frame → Value → Bool → Goroutine
take_by w f fs v ok = running (took w.taking w.pops w.items f v ok ∷ fs)

abbrev receive_at : Config → List Channel → Want → Frame → List Frame → Option Channel → Option Move
receive_at c cs w f fs h = receive (with_channels c cs) w.channel (take_by w f fs) h

pub takes_nil : (w : Want) (cs : List Channel) (f : Frame) → w.channel ≡ None → GoesBy (part.Wants w) cs f (Ok false) cs f
takes_nil w cs f e = (λ c fs. ap (λ o. receive_at c cs w f fs (channel_at (with_channels c cs) o)) e, refl, refl)

pub takes_nowhere : (w : Want) (cs : List Channel) (f : Frame) (k : ℕ) → w.channel ≡ Some k → slice_get cs k ≡ None → GoesBy (part.Wants w) cs f (Ok false) cs f
takes_nowhere w cs f k e at = (λ c fs. ap (receive_at c cs w f fs) (channel_of c cs w.channel k e ∙ at), refl, refl)

pub takes_oldest : (w : Want) (cs ds : List Channel) (f g : Frame) (k : ℕ) → w.channel ≡ Some k → TakesAt w cs k f ds g → GoesBy (part.Wants w) cs f (Ok true) ds g
takes_oldest w cs ds f g k e takes = by (slice_get cs k) refl takes.1
  where
    by : (h : Option Channel) → slice_get cs k ≡ h → PopsAt cs k h takes.0 ds → GoesBy (part.Wants w) cs f (Ok true) ds g
    by None at pops = absurd pops
    by (Some ch) at pops = λ c fs.
        let world : with_values (with_channels c cs) w.channel ch pops.0 ≡ with_channels c ds =
        ap (λ o. with_values (with_channels c cs) o ch pops.0) e ∙ ap (with_channels c) (sym pops.2) in
        ap (receive_at c cs w f fs) (channel_of c cs w.channel k e ∙ at)
        ∙ ap (receive_from (with_channels c cs) w.channel (take_by w f fs) ch) pops.1
        ∙ ap (λ d. Some (moved d (take_by w f fs takes.0 true))) world
        ∙ ap (λ h. Some (moved (with_channels c ds) (running (h ∷ fs)))) (sym takes.2)

-- a channel without values
empty_values : (vs : List Value) → length vs ≡ 0 → vs ≡ []
empty_values [] e = refl
empty_values (v ∷ vs) e = absurd (omega (arith, e))

pub takes_nothing : (w : Want) (cs : List Channel) (f : Frame) (k : ℕ) (ch : Channel) → w.channel ≡ Some k → slice_get cs k ≡ Some ch → length ch.values ≡ 0 → ch.closed ≡ false → GoesBy (part.Wants w) cs f (Ok false) cs f
takes_nothing w cs f k ch e at none opened = (λ c fs. stays c fs, refl, refl)
  where
    stays : (c : Config) (fs : List Frame) → by_itself (with_channels c cs) (part_side (part.Wants w) f fs) ≡ None
    stays c fs =
        let no : Option Move = None in
        ap (receive_at c cs w f fs) (channel_of c cs w.channel k e ∙ at)
        ∙ ap (receive_from (with_channels c cs) w.channel (take_by w f fs) ch) (empty_values ch.values none)
        ∙ if_false ch.closed _ no opened

pub takes_zero : (w : Want) (cs : List Channel) (f g : Frame) (k : ℕ) (ch : Channel) (v : Value) → w.channel ≡ Some k → slice_get cs k ≡ Some ch → length ch.values ≡ 0 → ch.closed ≡ true → v ≡ ch.zero → g ≡ took w.taking w.pops w.items f v false → GoesBy (part.Wants w) cs f (Ok true) cs g
takes_zero w cs f g k ch v e at none closed zeroed leaves = λ c fs.
    let no : Option Move = None in
    ap (receive_at c cs w f fs) (channel_of c cs w.channel k e ∙ at)
    ∙ ap (receive_from (with_channels c cs) w.channel (take_by w f fs) ch) (empty_values ch.values none)
    ∙ if_true ch.closed _ no closed
    ∙ ap (λ x. Some (moved (with_channels c cs) (take_by w f fs x false))) (sym zeroed)
    ∙ ap (λ h. Some (moved (with_channels c cs) (running (h ∷ fs)))) (sym leaves)

-- ---- all frames

pub frames_go : (p : Part) (cs ds : List Channel) (fs one gs : List Frame) (f g hole : Frame) (r : Result Bool AllocError) → fs ≡ f ∷ drop 1 fs → one ≡ hole ∷ drop 1 fs → GoesBy p cs f r ds g → gs ≡ g ∷ drop 1 one → FramesGo p cs fs r ds gs
frames_go p cs ds fs one gs f g hole (Ok true) is a goes b = λ c.
    ap (λ l. by_itself (with_channels c cs) (frames_side p l)) is ∙ goes c (drop 1 fs)
    ∙ ap (λ l. Some (moved (with_channels c ds) (running l))) (sym (b ∙ ap (λ l. g ∷ drop 1 l) a))
frames_go p cs ds fs one gs f g hole (Ok false) is a goes b =
    (λ c. ap (λ l. by_itself (with_channels c cs) (frames_side p l)) is ∙ goes.0 c (drop 1 fs), goes.1, b ∙ ap (λ l. g ∷ drop 1 l) a ∙ ap (λ h. h ∷ drop 1 fs) goes.2 ∙ sym is)
frames_go p cs ds fs one gs f g hole (Err e) is a goes b =
    (goes.0, b ∙ ap (λ l. g ∷ drop 1 l) a ∙ ap (λ h. h ∷ drop 1 fs) goes.1 ∙ sym is)

-- ---- the goroutine

fits_begin : (p : Part) (o : Option Goroutine) (go : Goroutine) → o ≡ Some go → GoroutineFits p o → (go.begin ≡ None) × FramesFit p go.frames
fits_begin p o go e h = by go.begin refl (subst (GoroutineFits p) e h)
  where
    by : (b : Option Call) → go.begin ≡ b → BeginFits p go.begin go.frames → (go.begin ≡ None) × FramesFit p go.frames
    by None e h = (e, subst (λ (b : Option Call). BeginFits p b go.frames) e h)
    by (Some call) e h = absurd (subst (λ (b : Option Call). BeginFits p b go.frames) e h)

pub fits_frames : (p : Part) (o : Option Goroutine) (go : Goroutine) → o ≡ Some go → GoroutineFits p o → FramesFit p go.frames
fits_frames p o go e h = (fits_begin p o go e h).1

pub goroutine_goes : (p : Part) (c : Config) (i : ℕ) (go hole : Goroutine) (one two : List Goroutine) (ds : List Channel) (gs : List Frame) (r : Result Bool AllocError) → slice_get c.goroutines i ≡ Some go → GoroutineFits p (slice_get c.goroutines i) → one ≡ slice_set c.goroutines i hole → FramesGo p c.channels go.frames r ds gs → two ≡ slice_set one i (record go { frames = gs }) → Leads (lone_at c i p) c r (record c { channels = ds; goroutines = two })
goroutine_goes p c i go hole one two ds gs (Ok true) at fits a goes b =
    let begun = (fits_begin p (slice_get c.goroutines i) go at fits).0 in
    let same : record go { frames = gs } ≡ running gs = ap (λ o. record { begin = o; frames = gs }) begun in
    let row : slice_set c.goroutines i (running gs) ++ [] ≡ two =
    append-nil (slice_set c.goroutines i (running gs)) ∙ ap (slice_set c.goroutines i) (sym same) ∙ sym (set-set c.goroutines i hole (record go { frames = gs })) ∙ ap (λ l. slice_set l i (record go { frames = gs })) (sym a) ∙ sym b in
    ap (λ o. option_map (arrive c i) (by_itself c (goroutine_side p o))) at ∙ ap (option_map (arrive c i)) (goes c)
    ∙ ap (λ l. Some (record c { channels = ds; goroutines = l })) row
goroutine_goes p c i go hole one two ds gs (Ok false) at fits a goes b = (
  ap (λ o. option_map (arrive c i) (by_itself c (goroutine_side p o))) at ∙ ap (option_map (arrive c i)) (goes.0 c),
  ap (λ l. record c { channels = l; goroutines = two }) goes.1 ∙ ap (λ l. holed l c) (b ∙ ap (λ l. slice_set l i (record go { frames = gs })) a ∙ ap (λ l. slice_set (slice_set c.goroutines i hole) i (record go { frames = l })) goes.2 ∙ restored c.goroutines i hole go at),
)
goroutine_goes p c i go hole one two ds gs (Err e) at fits a goes b =
    ap (λ l. record c { channels = l; goroutines = two }) goes.0 ∙ ap (λ l. holed l c) (b ∙ ap (λ l. slice_set l i (record go { frames = gs })) a ∙ ap (λ l. slice_set (slice_set c.goroutines i hole) i (record go { frames = l })) goes.1 ∙ restored c.goroutines i hole go at)
