-- Steps that may be refused, one after the other.
use Rattle.std.proofs.Common.{◌≡◌, ℕ, ◌+◌, ◌<◌, inl, inr, List, [], ◌∷◌, ◌++◌, length, take, get_or, Option, Some, None, Ok, Err, refl, sym, subst}
use Rattle.std.specs.Prelude.{IfSome, Result}
use Rattle.std.specs.List.{AllZip}
use Rattle.std.proofs.lemmas.List.{take_more}
use Rattle.std.proofs.lemmas.Option.{slice_get_read}
use Rattle.go_load.specs.Packages.{EachOf}
use Rattle.go_load.specs.Refusals.{Outcomes, Then, Refuses, Answers}
use Rattle.go_load.specs.declared.refusal.LoadRefusal.{LoadRefusal}
use Rattle.go_load.specs.declared.refusal.LoadRefusal.TheVariants as refusals

-- ---- a tree that may not be told

pub some_also : {T : Type 0} (P Q : T → Type 0) (o : Option T) → ((t : T) → P t → Q t) → IfSome o P → IfSome o Q
some_also P Q None f p = tt
some_also P Q (Some t) f p = f t p

pub some_both : {T : Type 0} (P Q R : T → Type 0) (o : Option T) → ((t : T) → P t → Q t → R t) → IfSome o P → IfSome o Q → IfSome o R
some_both P Q R None f p q = tt
some_both P Q R (Some t) f p q = f t p q

-- ---- two steps

-- a refusal of what is refused elsewhere
pub refuses_also : {A B : Type 0} (e : LoadRefusal) (there : Outcomes A) (other : Outcomes B) → (there (Err e) → other (Err e)) → Refuses e there → Refuses e other
refuses_also (refusals.Load path kind) there other f h = f h
refuses_also (refusals.Source path place kind) there other f h = f h
refuses_also (refusals.Missing path) there other f h = f h
refuses_also (refusals.Limit which) there other f h = f h
refuses_also refusals.Read there other f h = tt
refuses_also refusals.NoMemory there other f h = tt

-- the first step is refused
pub first_refused : {A B : Type 0} (e : LoadRefusal) (first : Outcomes A) (next : A → Outcomes B) → Refuses e first → Refuses e (Then first next)
first_refused e first next h = refuses_also e first (Then first next) (λ r. inl r) h

-- the second step answers
pub then_answers : {A B : Type 0} (r : Result B LoadRefusal) (first : Outcomes A) (next : A → Outcomes B) (x : A) → first (Ok x) → Answers (λ y. y) r (next x) → Answers (λ y. y) r (Then first next)
then_answers (Ok y) first next x p h = (x, p, h)
then_answers (Err e) first next x p h = refuses_also e (next x) (Then first next) (λ r. inr (x, p, r)) h

-- ---- many steps

zip_push : {A B : Type 0} (R : A → B → Type 0) (xs : List A) (ys : List B) (x : A) (y : B) → AllZip R xs ys → R x y → AllZip R (xs ++ x ∷ []) (ys ++ y ∷ [])
zip_push R [] [] x y z r = (r, tt)
zip_push R [] (y' ∷ ys) x y z r = absurd z
zip_push R (x' ∷ xs) [] x y z r = absurd z
zip_push R (x' ∷ xs) (y' ∷ ys) x y z r = (z.0, zip_push R xs ys x y z.1 r)

-- what the first steps gave
abbrev pub Gave : {A B : Type 0} → (A → Outcomes B) → List A → List B → Type 0
Gave step xs ys = AllZip (λ x y. step x (Ok y)) xs ys

pub gave_more : {A B : Type 0} (step : A → Outcomes B) (xs : List A) (i : ℕ) (x : A) (ys : List B) (y : B) → i < length xs → x ≡ get_or xs i x → Gave step (take i xs) ys → step x (Ok y) → Gave step (take (i + 1) xs) (ys ++ y ∷ [])
gave_more step xs i x ys y lt is gave this =
    let more : take (i + 1) xs ≡ take i xs ++ get_or xs i x ∷ [] = take_more xs i x lt in
    subst (λ zs. Gave step zs (ys ++ y ∷ [])) (sym more) (zip_push (λ a b. step a (Ok b)) (take i xs) ys (get_or xs i x) y gave (subst (λ a. step a (Ok y)) is this))

pub gave_all : {A B : Type 0} (step : A → Outcomes B) (xs : List A) (i : ℕ) (ys : List B) → take i xs ≡ xs → Gave step (take i xs) ys → EachOf step xs (Ok ys)
gave_all step xs i ys all gave = subst (λ zs. Gave step zs ys) all gave

-- the next step is refused
pub next_refused : {A B : Type 0} (step : A → Outcomes B) (xs : List A) (i : ℕ) (x : A) (ys : List B) (e : LoadRefusal) → i < length xs → x ≡ get_or xs i x → Gave step (take i xs) ys → Refuses e (step x) → Refuses e (EachOf step xs)
next_refused step xs i x ys e lt is gave h = refuses_also e (step x) (EachOf step xs) (λ r. (i, x, ys, slice_get_read xs (length xs) i x refl lt is, gave, r)) h

-- ---- many steps over a tree that may not be told

pub reading_ends : {T A B : Type 0} (o now : Option T) (step : T → A → Outcomes B) (xs : List A) (i : ℕ) (x : A) (ys : List B) (e : LoadRefusal) → now ≡ o → i < length xs → x ≡ get_or xs i x
    → IfSome o (λ t. Gave (step t) (take i xs) ys) → IfSome now (λ t. Refuses e (step t x)) → IfSome o (λ t. Refuses e (EachOf (step t) xs))
reading_ends o now step xs i x ys e same lt is gave refuses =
    some_both (λ t. Gave (step t) (take i xs) ys) (λ t. Refuses e (step t x)) (λ t. Refuses e (EachOf (step t) xs)) o (λ t g r. next_refused (step t) xs i x ys e lt is g r) gave (subst (λ p. IfSome p (λ t. Refuses e (step t x))) same refuses)

pub reading_grows : {T A B : Type 0} (o now : Option T) (step : T → A → Outcomes B) (xs : List A) (i : ℕ) (x : A) (ys later : List B) (y : B) → now ≡ o → i < length xs → x ≡ get_or xs i x → later ≡ ys ++ y ∷ []
    → IfSome o (λ t. Gave (step t) (take i xs) ys) → IfSome now (λ t. step t x (Ok y)) → IfSome o (λ t. Gave (step t) (take (i + 1) xs) later)
reading_grows o now step xs i x ys later y same lt is push gave this =
    some_both (λ t. Gave (step t) (take i xs) ys) (λ t. step t x (Ok y)) (λ t. Gave (step t) (take (i + 1) xs) later) o
    (λ t g r. subst (λ zs. Gave (step t) (take (i + 1) xs) zs) (sym push) (gave_more (step t) xs i x ys y lt is g r))
    gave (subst (λ p. IfSome p (λ t. step t x (Ok y))) same this)
