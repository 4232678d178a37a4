-- Small facts of lists, tests and characters.
use Rattle.std.proofs.Common.{◌≡◌, ℕ, ◌<◌, ◌≤◌, Bool, true, false, ◌&&◌, ◌||◌, not, List, [], ◌∷◌, ◌++◌, length, refl, sym, ap, arith}
use Rattle.std.specs.Prelude.{encode_utf8}
use Rattle.std.specs.List.{list_all, list_any, AllByRecursion}
use Rattle.std.proofs.lemmas.List.{length-append}
use Rattle.std.proofs.lemmas.Str.{length-encode, len_utf8_bounds}

pub both : (a b : Bool) → (a && b) ≡ true → (a ≡ true) × (b ≡ true)
both true b e = (refl, e)
both false b e = absurd cc

pub either : (a b : Bool) → (a || b) ≡ false → (a ≡ false) × (b ≡ false)
either true b e = absurd cc
either false b e = (refl, e)

pub not_true : (b : Bool) → not b ≡ true → b ≡ false
not_true true e = absurd cc
not_true false e = refl

pub or_left : (a b : Bool) → a ≡ true → (a || b) ≡ true
or_left true b e = refl
or_left false b e = absurd cc

pub or_right : (a b : Bool) → b ≡ true → (a || b) ≡ true
or_right true b e = refl
or_right false b e = e

pub clash : (b : Bool) → b ≡ true → b ≡ false → ⊥
clash true t f = absurd cc
clash false t f = absurd cc

pub cons_is : (a b : ℕ) (x y : List ℕ) → a ∷ x ≡ b ∷ y → (a ≡ b) × (x ≡ y)
cons_is a b x y e = (cc, cc)

pub cons_both : (a b : ℕ) (x y : List ℕ) → a ≡ b → x ≡ y → a ∷ x ≡ b ∷ y
cons_both a b x y e f = cc

-- the last byte aside, a longer front stands in the front
pub cut_last : (p xs : List ℕ) (a b : ℕ) (u : List ℕ) → xs ++ a ∷ [] ≡ p ++ b ∷ u → (v : List ℕ) × (xs ≡ p ++ v)
cut_last [] xs a b u e = (xs, refl)
cut_last (x ∷ p) [] a b u e =
    let l : length (a ∷ []) ≡ length (x ∷ (p ++ b ∷ u)) = ap length e in
    let m = length-append p (b ∷ u) in
    absurd (omega arith)
cut_last (x ∷ p) (y ∷ xs) a b u e =
    let two = cons_is y x (xs ++ a ∷ []) (p ++ b ∷ u) e in
    let more = cut_last p xs a b u two.1 in
    (more.0, cons_both y x xs (p ++ more.0) two.0 more.1)

pub all_front : (p : ℕ → Bool) (xs ys : List ℕ) → list_all p (xs ++ ys) ≡ true → list_all p xs ≡ true
all_front p [] ys e = refl
all_front p (x ∷ xs) ys e = let two = both (p x) (list_all p (xs ++ ys)) e in rw two.0 (all_front p xs ys two.1)

pub any_front : (p : ℕ → Bool) (xs ys : List ℕ) → list_any p (xs ++ ys) ≡ false → list_any p xs ≡ false
any_front p [] ys e = refl
any_front p (x ∷ xs) ys e = let two = either (p x) (list_any p (xs ++ ys)) e in rw two.0 (any_front p xs ys two.1)

pub every_front : (P : ℕ → Type 0) (xs ys : List ℕ) → AllByRecursion P (xs ++ ys) → AllByRecursion P xs
every_front P [] ys e = tt
every_front P (x ∷ xs) ys e = (e.0, every_front P xs ys e.1)

-- a longer list goes on with what stands behind the shorter
pub record GoesOn (w v : List ℕ) (b : ℕ) : Type 0 where
  pub more : List ℕ
  pub is : v ≡ w ++ b ∷ more

pub goes_on : (w v r q : List ℕ) (b : ℕ) → w ++ b ∷ r ≡ v ++ q → length w < length v → GoesOn w v b
goes_on w [] r q b e lt = absurd (omega arith)
goes_on [] (c ∷ v) r q b e lt = let one = cons_is b c r (v ++ q) e in record { more = v; is = cons_both c b v v (sym one.0) refl }
goes_on (x ∷ w) (c ∷ v) r q b e lt =
    let one = cons_is x c (w ++ b ∷ r) (v ++ q) e in
    let g = goes_on w v r q b one.1 (omega arith) in
    record { more = g.more; is = cons_both c x v (w ++ b ∷ g.more) (sym one.0) g.is }

-- a character has at least one byte
pub encode_some : (c : ℕ) → 1 ≤ length (encode_utf8 c)
encode_some c = let l = length-encode c in let b = len_utf8_bounds c in omega (arith, b.0)

pub by_cases : (m n : ℕ) → (n < m → ⊥) → m ≤ n
by_cases m n h = omega arith
