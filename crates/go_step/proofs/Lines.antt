-- Lines of values, the deepest of a stack first.
use Rattle.std.proofs.Common.{◌≡◌, ℕ, suc, ◌+◌, ◌-◌, ◌<◌, ◌≤◌, List, [], ◌∷◌, ◌++◌, map, length, reverse, take, Some, slice_get, get_or, refl, sym, ap, ◌∙◌, arith, append_assoc}
use Rattle.std.specs.List.{join_with_byte}
use Rattle.std.proofs.lemmas.List.{map-append, get_or-reverse, length-take-le, length-reverse, get_or-take}
use Rattle.std.proofs.lemmas.Option.{get_or_from_slice_get}
use Rattle.std.proofs.Math.Seq.{take-suc, take-length}
use Rattle.go_meaning.specs.declared.value.Value.{Value}
use Rattle.go_meaning.specs.Values.{shown}

join_more : (xs : List (List ℕ)) (x : List ℕ) → 0 < length xs → join_with_byte 32 (xs ++ x ∷ []) ≡ (join_with_byte 32 xs ++ 32 ∷ []) ++ x
join_more [] x h = absurd (omega arith)
join_more (y ∷ []) x h = sym (append_assoc y (32 ∷ []) x)
join_more (y ∷ z ∷ xs) x h =
    ap (λ l. y ++ 32 ∷ l) (join_more (z ∷ xs) x (omega arith))
    ∙ sym (append_assoc y (32 ∷ (join_with_byte 32 (z ∷ xs) ++ 32 ∷ [])) x)
    ∙ ap (λ l. l ++ x) (sym (append_assoc y (32 ∷ join_with_byte 32 (z ∷ xs)) (32 ∷ [])))

-- the values of a line, deepest first
abbrev pub listed : List Value → ℕ → List Value
listed st n = reverse (take n st)

length-listed : (st : List Value) (n : ℕ) → n ≤ length st → length (listed st n) ≡ n
length-listed st n p = length-reverse (take n st) ∙ length-take-le n st p

one_more : (st : List Value) (n k : ℕ) (v : Value) → k < n → n ≤ length st → slice_get st (n - 1 - k) ≡ Some v → take (suc k) (listed st n) ≡ take k (listed st n) ++ v ∷ []
one_more st n k v h p e =
    let len : length (take n st) ≡ n = length-take-le n st p in
    let long : k < length (listed st n) = omega (arith, length-listed st n p) in
    let at : get_or (listed st n) k v ≡ v =
    get_or-reverse (take n st) k v (omega (arith, len)) ∙ ap (λ m. get_or (take n st) (m - 1 - k) v) len ∙ get_or-take n st (n - 1 - k) v (omega arith) ∙ get_or_from_slice_get st (n - 1 - k) v v e in
    take-suc (listed st n) k v long ∙ ap (λ w. take k (listed st n) ++ w ∷ []) at

-- a first value, and each further one
pub line_first : (st : List Value) (n : ℕ) (v : Value) → 0 < n → n ≤ length st → slice_get st (n - 1 - 0) ≡ Some v → join_with_byte 32 (map shown (take 1 (listed st n))) ≡ shown v
line_first st n v h p e = ap (λ l. join_with_byte 32 (map shown l)) (one_more st n 0 v h p e)

pub line_more : (st : List Value) (n k : ℕ) (v : Value) → 0 < k → k < n → n ≤ length st → slice_get st (n - 1 - k) ≡ Some v → join_with_byte 32 (map shown (take (k + 1) (listed st n))) ≡ (join_with_byte 32 (map shown (take k (listed st n))) ++ 32 ∷ []) ++ shown v
line_more st n k v some h p e =
    let next : k + 1 ≡ suc k = omega arith in
    let long : length (take k (listed st n)) ≡ k = length-take-le k (listed st n) (omega (arith, length-listed st n p)) in
    ap (λ m. join_with_byte 32 (map shown (take m (listed st n)))) next
    ∙ ap (λ l. join_with_byte 32 (map shown l)) (one_more st n k v h p e)
    ∙ ap (join_with_byte 32) (map-append shown (take k (listed st n)) (v ∷ []))
    ∙ join_more (map shown (take k (listed st n))) (shown v) (omega (arith, length_map (take k (listed st n)), long))
  where
    length_map : (vs : List Value) → length (map shown vs) ≡ length vs
    length_map [] = refl
    length_map (w ∷ vs) = ap suc (length_map vs)

pub line_done : (st : List Value) (n : ℕ) → n ≤ length st → take n (listed st n) ≡ listed st n
line_done st n p = ap (λ m. take m (listed st n)) (sym (length-listed st n p)) ∙ take-length (listed st n)
