-- Lists with the numbers of their items.
use Rattle.std.proofs.Common.{◌≡◌, ℕ, ◌+◌, ◌<◌, List, [], ◌∷◌, ◌++◌, length, take, get_or, refl, sym, ap, ◌∙◌, arith, append_assoc}
use Rattle.std.specs.List.{flat_map, enumerate_from}
use Rattle.std.proofs.lemmas.List.{take_more, length-take-le, append-nil}
use Rattle.std.proofs.lemmas.List.Concat.{flat_map-append}

one_more : {X : Type 0} (n : ℕ) (xs : List X) (x : X) → enumerate_from n (xs ++ x ∷ []) ≡ enumerate_from n xs ++ (n + length xs, x) ∷ []
one_more {X = X} n [] x = ap (λ (i : ℕ). (i, x) ∷ []) (omega arith)
one_more {X = X} n (y ∷ xs) x = ap (λ (es : List (ℕ × X)). (n, y) ∷ es) (one_more (n + 1) xs x ∙ ap (λ (i : ℕ). enumerate_from (n + 1) xs ++ (i, x) ∷ []) (omega arith))

pub next_numbered : {X : Type 0} (xs : List X) (i : ℕ) (x : X) → i < length xs → x ≡ get_or xs i x → enumerate_from 0 (take (i + 1) xs) ≡ enumerate_from 0 (take i xs) ++ (i, x) ∷ []
next_numbered {X = X} xs i x lt is =
    ap (enumerate_from 0) (take_more xs i x lt ∙ ap (λ (y : X). take i xs ++ y ∷ []) (sym is)) ∙ one_more 0 (take i xs) x
    ∙ ap (λ (n : ℕ). enumerate_from 0 (take i xs) ++ (n, x) ∷ []) (omega (arith, length-take-le i xs (omega arith)))

-- what is made of one more item stands behind what was made before
pub spreads_more : {X Y : Type 0} (f : ℕ × X → List Y) (before so_far later : List Y) (xs : List X) (i n : ℕ) (x y : X) → i < length xs → x ≡ get_or xs i x → n ≡ i → y ≡ x
    → so_far ≡ before ++ flat_map f (enumerate_from 0 (take i xs)) → later ≡ so_far ++ f (n, y) → later ≡ before ++ flat_map f (enumerate_from 0 (take (i + 1) xs))
spreads_more {X = X} {Y = Y} f before so_far later xs i n x y lt is same also h l =
    let more : flat_map f (enumerate_from 0 (take (i + 1) xs)) ≡ flat_map f (enumerate_from 0 (take i xs)) ++ f (i, x) =
    ap (flat_map f) (next_numbered xs i x lt is) ∙ flat_map-append f (enumerate_from 0 (take i xs)) ((i, x) ∷ []) ∙ ap (λ (ys : List Y). flat_map f (enumerate_from 0 (take i xs)) ++ ys) (append-nil (f (i, x))) in
    l ∙ ap (λ (e : ℕ × X). so_far ++ f e) (rw (same, also) refl) ∙ ap (λ (ys : List Y). ys ++ f (i, x)) h
    ∙ append_assoc before (flat_map f (enumerate_from 0 (take i xs))) (f (i, x)) ∙ ap (λ (ys : List Y). before ++ ys) (sym more)
