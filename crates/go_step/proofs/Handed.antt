-- Room that is made for what is sent and received, and what is left once it is used.
use Rattle.std.proofs.Common.{◌≡◌, ℕ, zero, suc, ◌<◌, ◌≤◌, Bool, true, false, List, [], ◌∷◌, ◌++◌, Option, Some, None, refl, sym, ap, ◌∙◌, length, take, drop, slice_get, subst, arith, length-append}
use Rattle.std.specs.Prelude.{slice_set}
use Rattle.std.proofs.lemmas.List.{set-set}
use Rattle.go_meaning.specs.declared.value.Value.{Value}
use Rattle.go_meaning.specs.declared.value.Value.TheVariants as value
use Rattle.go_meaning.specs.declared.value.Channel.{Channel}
use Rattle.go_meaning.specs.declared.item.Item.{Item}
use Rattle.go_meaning.specs.declared.config.Frame.{Frame}
use Rattle.go_meaning.specs.Moves.{set_slot}
use Rattle.go_step.specs.declared.parts.Taking.{Taking}
use Rattle.go_step.specs.declared.parts.Taking.TheVariants as taking
use Rattle.go_step.specs.Parts.{gone, took}
use Rattle.go_step.specs.Handing.{tucked, prepared, untucked, restored, finished, pushed_at, PopsAt}
use Rattle.go_step.proofs.Restored.{restored as element_restored}

-- ---- items under the head

pub tucks : (old one two three items more : List Item) (head hole : Item) → old ≡ head ∷ drop 1 old → one ≡ hole ∷ drop 1 old → more ≡ hole ∷ items → two ≡ more ++ drop 1 one → three ≡ head ∷ drop 1 two → three ≡ tucked items old
tucks old one two three items more head hole o a m b d =
    d ∙ ap (λ l. head ∷ drop 1 l) (b ∙ ap (λ l. l ++ drop 1 one) m ∙ ap (λ l. hole ∷ items ++ drop 1 l) a) ∙ ap (λ l. take 1 l ++ items ++ drop 1 old) (sym o)

drop_none : {A : Type 0} (k : ℕ) → drop {A = A} k [] ≡ []
drop_none zero = refl
drop_none (suc k) = refl

drop_one : {A : Type 0} (k : ℕ) (x : A) (xs : List A) → drop 1 (drop k (x ∷ xs)) ≡ drop k xs
drop_one zero x xs = refl
drop_one {A = A} (suc k) x [] = ap (drop 1) (drop_none {A = A} k)
drop_one (suc k) x (y ∷ xs) = drop_one k y xs

pub untucks : (old one two three : List Item) (k : ℕ) (head hole : Item) → old ≡ head ∷ drop 1 old → one ≡ hole ∷ drop 1 old → two ≡ drop k one → three ≡ head ∷ drop 1 two → three ≡ untucked k old
untucks old one two three k head hole o a b d =
    d ∙ ap (λ l. head ∷ drop 1 l) (b ∙ ap (drop k) a) ∙ ap (λ l. head ∷ l) (drop_one k hole (drop 1 old)) ∙ ap (λ l. take 1 l ++ drop k (drop 1 old)) (sym o)

drop_all_of : {A : Type 0} (xs ys : List A) (k : ℕ) → k ≡ length xs → drop k (xs ++ ys) ≡ ys
drop_all_of [] ys zero e = refl
drop_all_of [] ys (suc k) e = absurd (omega arith)
drop_all_of (x ∷ xs) ys zero e = absurd (omega arith)
drop_all_of (x ∷ xs) ys (suc k) e = drop_all_of xs ys k (omega (arith, e))

pub untucked_is : (items is : List Item) (k : ℕ) → 0 < length is → k ≡ length items → untucked k (tucked items is) ≡ is
untucked_is items [] k h e = absurd (omega arith)
untucked_is items (head ∷ rest) k h e = ap (λ l. head ∷ l) (drop_all_of items rest k e)

pub tucked_rest : (items is : List Item) → 0 < length is → drop 1 (tucked items is) ≡ items ++ drop 1 is
tucked_rest items [] h = absurd (omega arith)
tucked_rest items (head ∷ rest) h = refl

pub tucked_length : (items is : List Item) → 0 < length is → length items < length (tucked items is)
tucked_length items [] h = absurd (omega arith)
tucked_length items (head ∷ rest) h = omega (arith, length-append items rest)

-- ---- what a receive leaves

finished_on : (t : Taking) (n k : ℕ) (items : List Item) (f : Frame) (v : Value) (ok : Bool) (head : Item) (rest : List Item) → k ≡ length items → finished t n k v ok (prepared items (record f { control = head ∷ rest })) ≡ took t n items (record f { control = head ∷ rest }) v ok
finished_on taking.Nothing n k items f v ok head rest e = refl
finished_on taking.One n k items f v ok head rest e = refl
finished_on taking.Both n k items f v ok head rest e = refl
finished_on (taking.Loop t) n k items f v true head rest e = refl
finished_on (taking.Loop t) n k items f v false head rest e = ap (λ l. record f { stack = drop n f.stack; control = l }) (drop_all_of items rest k e)

finished_by : (t : Taking) (n k : ℕ) (items : List Item) (f : Frame) (v : Value) (ok : Bool) (is : List Item) → f.control ≡ is → 0 < length is → k ≡ length items → finished t n k v ok (prepared items f) ≡ took t n items f v ok
finished_by t n k items f v ok [] c h e = absurd (omega arith)
finished_by t n k items f v ok (head ∷ rest) c h e =
    ap (λ l. finished t n k v ok (prepared items (record f { control = l }))) c
    ∙ finished_on t n k items f v ok head rest e
    ∙ ap (λ l. took t n items (record f { control = l }) v ok) (sym c)

pub finished_is : (t : Taking) (n k : ℕ) (items : List Item) (f : Frame) (v : Value) (ok : Bool) → 0 < length f.control → k ≡ length items → finished t n k v ok (prepared items f) ≡ took t n items f v ok
finished_is t n k items f v ok h e = finished_by t n k items f v ok f.control refl h e

-- ---- channels

pub pushes : (cs one two : List Channel) (k : ℕ) (v : Value) (ch hole : Channel) (vs : List Value) → slice_get cs k ≡ Some ch → one ≡ slice_set cs k hole → vs ≡ ch.values ++ v ∷ [] → two ≡ slice_set one k (record ch { values = vs }) → two ≡ pushed_at cs k v (slice_get cs k)
pushes cs one two k v ch hole vs at a m b =
    b ∙ ap (λ l. slice_set l k (record ch { values = vs })) a ∙ set-set cs k hole (record ch { values = vs })
    ∙ ap (λ l. slice_set cs k (record ch { values = l })) m ∙ sym (ap (pushed_at cs k v) at)

pub put_back : (cs one two : List Channel) (k : ℕ) (ch hole : Channel) (vs : List Value) → slice_get cs k ≡ Some ch → one ≡ slice_set cs k hole → vs ≡ ch.values → two ≡ slice_set one k (record ch { values = vs }) → two ≡ cs
put_back cs one two k ch hole vs at a m b =
    b ∙ ap (λ l. slice_set l k (record ch { values = vs })) a ∙ ap (λ l. slice_set (slice_set cs k hole) k (record ch { values = l })) m ∙ element_restored cs k hole ch at

pub pops : (cs one two : List Channel) (k : ℕ) (v : Value) (ch hole : Channel) (vs : List Value) → slice_get cs k ≡ Some ch → one ≡ slice_set cs k hole → ch.values ≡ v ∷ vs → two ≡ slice_set one k (record ch { values = vs }) → PopsAt cs k (slice_get cs k) v two
pops cs one two k v ch hole vs at a m b =
    subst (λ o. PopsAt cs k o v two) (sym at) (vs, m, b ∙ ap (λ l. slice_set l k (record ch { values = vs })) a ∙ set-set cs k hole (record ch { values = vs }))
