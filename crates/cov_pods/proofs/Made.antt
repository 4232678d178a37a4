-- Lists that are made from the places and the items of another.
use Rattle.std.proofs.Common.{◌≡◌, ◌≢◌, ℕ, zero, suc, ◌+◌, ◌<◌, List, [], ◌∷◌, map, set, Option, Some, refl, arith, replicate}
use Rattle.std.specs.Prelude.{slice_get}
use Rattle.std.specs.List.{enumerate_from, range_with_len}

pub map_same : {A B : Type 0} (f g : A → B) → ((x : A) → f x ≡ g x) → (xs : List A) → map f xs ≡ map g xs
map_same f g h [] = refl
map_same f g h (x ∷ xs) = let one = h x in let more = map_same f g h xs in cc

-- a list whose items don't depend on their places
pub map_alone : {A B : Type 0} (f : ℕ × A → B) (g : A → B) → ((i : ℕ) (x : A) → f (i, x) ≡ g x) → (n : ℕ) (xs : List A) → map f (enumerate_from n xs) ≡ map g xs
map_alone f g h n [] = refl
map_alone f g h n (x ∷ xs) = let one = h n x in let more = map_alone f g h (n + 1) xs in cc

pub map_constant : {B : Type 0} (f : ℕ → B) (y : B) → ((i : ℕ) → f i ≡ y) → (a n : ℕ) → map f (range_with_len a n) ≡ replicate n y
map_constant f y h a zero = refl
map_constant f y h a (suc n) = let one = h a in let more = map_constant f y h (a + 1) n in cc

-- places behind one that differs
same_behind : {A B : Type 0} (f g : ℕ × A → B) (k n : ℕ) → k < n → ((j : ℕ) (z : A) → j ≢ k → f (j, z) ≡ g (j, z)) → (xs : List A) → map f (enumerate_from n xs) ≡ map g (enumerate_from n xs)
same_behind f g k n lt h [] = refl
same_behind f g k n lt h (x ∷ xs) =
    let one = h n x (omega arith) in
    let more = same_behind f g k (n + 1) (omega arith) h xs in
    cc

-- two lists that differ at one place: the one is the other with its item there
pub set_made : {A B : Type 0} (f g : ℕ × A → B) (n i k : ℕ) (xs : List A) (x : A) (y : B) → n + i ≡ k → slice_get xs i ≡ Some x → y ≡ g (k, x) → ((j : ℕ) (z : A) → j ≢ k → f (j, z) ≡ g (j, z))
    → set (map f (enumerate_from n xs)) i y ≡ map g (enumerate_from n xs)
set_made f g n i k [] x y at found is other = absurd cc
set_made f g n zero k (z ∷ xs) x y at found is other =
    let here : n ≡ k = omega arith in
    let same : z ≡ x = some_same z x found in
    let more = same_behind f g k (n + 1) (omega arith) other xs in
    let first : y ≡ g (n, z) = rw (here, same) is in
    cc
  where
    some_same : {A : Type 0} (a b : A) → (let o : Option A = Some a in o ≡ Some b) → a ≡ b
    some_same a b e = cc
set_made f g n (suc i) k (z ∷ xs) x y at found is other =
    let one = other n z (omega arith) in
    let more = set_made f g (n + 1) i k xs x y (omega arith) found is other in
    cc

-- the item at a place
pub made_at : {A B : Type 0} (f : ℕ × A → B) (n i k : ℕ) (xs : List A) (x : A) → n + i ≡ k → slice_get xs i ≡ Some x → slice_get (map f (enumerate_from n xs)) i ≡ Some (f (k, x))
made_at f n i k [] x at found = absurd cc
made_at f n zero k (z ∷ xs) x at found =
    let here : n ≡ k = omega arith in
    cc
made_at f n (suc i) k (z ∷ xs) x at found = made_at f (n + 1) i k xs x (omega arith) found

-- what each item becomes
pub map_made : {A B C : Type 0} (f : ℕ × A → B) (h : B → C) (g : A → C) → ((i : ℕ) (x : A) → h (f (i, x)) ≡ g x) → (n : ℕ) (xs : List A) → map h (map f (enumerate_from n xs)) ≡ map g xs
map_made f h g e n [] = refl
map_made f h g e n (x ∷ xs) = let one = e n x in let more = map_made f h g e (n + 1) xs in cc
