-- Lists, an element at a time.
use Rattle.std.proofs.Common.{◌≡◌, ℕ, zero, suc, ◌+◌, ◌<◌, ◌≤◌, List, [], ◌∷◌, ◌++◌, refl, sym, ap, ◌∙◌, append_assoc, length, get_or, take, drop, arith}
use Rattle.std.specs.Prelude.{map}
use Rattle.std.specs.List.{flat_map, enumerate_from}

pub drop_at : {A : Type 0} (xs : List A) (i : ℕ) (x : A) → i < length xs → x ≡ get_or xs i x → drop i xs ≡ x ∷ drop (i + 1) xs
drop_at [] i x h e = absurd (omega arith)
drop_at (y ∷ ys) zero x h e = ap (λ z. z ∷ ys) (sym e)
drop_at (y ∷ ys) (suc i) x h e = drop_at ys i x (omega arith) e ∙ ap (λ (k : ℕ). x ∷ drop k (y ∷ ys)) (let f : suc (i + 1) ≡ suc i + 1 = omega arith in f)

pub numbered_at : {A : Type 0} (xs : List A) (i : ℕ) (x : A) → i < length xs → x ≡ get_or xs i x → enumerate_from i (drop i xs) ≡ (i, x) ∷ enumerate_from (i + 1) (drop (i + 1) xs)
numbered_at xs i x h e = ap (enumerate_from i) (drop_at xs i x h e)

-- what was to come begins with what is appended
pub turned : {A : Type 0} (old new first rest total done : List A) → old ++ total ≡ done → total ≡ first ++ rest → new ≡ old ++ first → new ++ rest ≡ done
turned old new first rest total done e f g =
    ap (λ l. l ++ rest) g ∙ append_assoc old first rest ∙ ap (λ l. old ++ l) (sym f) ∙ e

-- one of the items of numbered things
pub mapped_at : {A B : Type 0} (f : ℕ × A → B) (xs : List A) (i : ℕ) (x : A) (old new done : List B) → i < length xs → x ≡ get_or xs i x
    → old ++ map f (enumerate_from i (drop i xs)) ≡ done → new ≡ old ++ f (i, x) ∷ [] → new ++ map f (enumerate_from (i + 1) (drop (i + 1) xs)) ≡ done
mapped_at f xs i x old new done h e before step =
    turned old new (f (i, x) ∷ []) (map f (enumerate_from (i + 1) (drop (i + 1) xs))) _ done before (ap (map f) (numbered_at xs i x h e)) step

-- the lines of one of numbered things
pub line_at : {A : Type 0} (line : ℕ × A → List ℕ) (xs : List A) (i : ℕ) (x : A) (old new done : List ℕ) → i < length xs → x ≡ get_or xs i x
    → old ++ flat_map line (enumerate_from i (drop i xs)) ≡ done → new ≡ old ++ line (i, x) → new ++ flat_map line (enumerate_from (i + 1) (drop (i + 1) xs)) ≡ done
line_at line xs i x old new done h e before step =
    turned old new (line (i, x)) (flat_map line (enumerate_from (i + 1) (drop (i + 1) xs))) _ done before (ap (flat_map line) (numbered_at xs i x h e)) step

-- an element is itself, whatever stands past the end
pub itself : {A : Type 0} (xs : List A) (i : ℕ) (d : A) → i < length xs → get_or xs i d ≡ get_or xs i (get_or xs i d)
itself [] i d h = absurd (omega arith)
itself (x ∷ xs) zero d h = refl
itself (x ∷ xs) (suc i) d h = itself xs i d (omega arith)

pub take_all : {A : Type 0} (xs : List A) (n : ℕ) → length xs ≤ n → take n xs ≡ xs
take_all [] zero h = refl
take_all [] (suc n) h = refl
take_all (x ∷ xs) zero h = absurd (omega arith)
take_all (x ∷ xs) (suc n) h = ap (λ l. x ∷ l) (take_all xs n (omega arith))
