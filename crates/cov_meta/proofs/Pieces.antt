-- Pieces one after the other.
use Rattle.std.proofs.Common.{◌≡◌, ℕ, ◌+◌, ◌<◌, ◌≤◌, List, [], ◌∷◌, ◌++◌, length, take, drop, get_or, map, refl, sym, ap, ◌∙◌, arith, append_assoc, length-append}
use Rattle.std.specs.List.{concat}
use Rattle.std.specs.Prelude.{sum, flat_map}
use Rattle.std.proofs.lemmas.Grind.{flat_map-append}
use Rattle.byteorder.specs.Endian.{little_bytes}
use Rattle.std.proofs.lemmas.List.Sums.{sum_by-cons}
use Rattle.cov_meta.specs.Written.{offsets_from}
use Rattle.std.proofs.lemmas.List.{take_more, take-append-drop, map-append, append-nil}
use Rattle.std.proofs.lemmas.List.Folds.{concat-append}

-- one more element at the end
pub map_more : {X Y : Type 0} (f : X → Y) (xs : List X) (i : ℕ) (x : X) → i < length xs → x ≡ get_or xs i x → map f (take (i + 1) xs) ≡ map f (take i xs) ++ f x ∷ []
map_more {X = X} f xs i x lt is = ap (map f) (take_more xs i x lt ∙ ap (λ (y : X). take i xs ++ y ∷ []) (sym is)) ∙ map-append f (take i xs) (x ∷ [])

pub concat_more : {X : Type 0} (f : X → List ℕ) (xs : List X) (i : ℕ) (x : X) → i < length xs → x ≡ get_or xs i x → concat (map f (take (i + 1) xs)) ≡ concat (map f (take i xs)) ++ f x
concat_more f xs i x lt is =
    ap concat (map_more f xs i x lt is) ∙ concat-append (map f (take i xs)) (f x ∷ []) ∙ ap (λ (t : List ℕ). concat (map f (take i xs)) ++ t) (append-nil (f x))

-- a front has no more bytes than the whole
pub concat_front : {X : Type 0} (f : X → List ℕ) (xs : List X) (n : ℕ) → length (concat (map f (take n xs))) ≤ length (concat (map f xs))
concat_front {X = X} f xs n =
    let parts : concat (map f xs) ≡ concat (map f (take n xs)) ++ concat (map f (drop n xs)) =
    ap (λ (ys : List X). concat (map f ys)) (sym (take-append-drop n xs)) ∙ ap concat (map-append f (take n xs) (drop n xs)) ∙ concat-append (map f (take n xs)) (map f (drop n xs)) in
    omega (arith, ap length parts, length-append (concat (map f (take n xs))) (concat (map f (drop n xs))))

offsets_push : (at : ℕ) (lens : List ℕ) (len : ℕ) → offsets_from at (lens ++ len ∷ []) ≡ offsets_from at lens ++ (at + sum lens) ∷ []
offsets_push at [] len = let e : at ≡ at + 0 = omega arith in ap (λ (n : ℕ). n ∷ []) e
offsets_push at (l ∷ lens) len =
    let e : at + l + sum lens ≡ at + sum (l ∷ lens) = omega (arith, sum_by-cons (λ (x : ℕ). x) l lens) in
    ap (λ (ns : List ℕ). at ∷ ns) (offsets_push (at + l) lens len ∙ ap (λ (n : ℕ). offsets_from (at + l) lens ++ n ∷ []) e)

-- one more offset
pub offsets_more : (at : ℕ) (lens : List ℕ) (i d : ℕ) → i < length lens → offsets_from at (take (i + 1) lens) ≡ offsets_from at (take i lens) ++ (at + sum (take i lens)) ∷ []
offsets_more at lens i d lt = ap (offsets_from at) (take_more lens i d lt) ∙ offsets_push at (take i lens) (get_or lens i d)

-- all pieces together have the sum of their lengths
pub sum_lengths : (pieces : List (List ℕ)) → sum (map length pieces) ≡ length (concat pieces)
sum_lengths [] = refl
sum_lengths (p ∷ pieces) = omega (arith, sum_by-cons (λ (x : ℕ). x) (length p) (map length pieces), sum_lengths pieces, length-append p (concat pieces))

-- one more offset is written
pub offset_pushed : (k : ℕ) (old now new : List ℕ) (start at : ℕ) (lens : List ℕ) (i : ℕ) → i < length lens → at ≡ start + sum (take i lens)
    → now ≡ old ++ flat_map (little_bytes k) (offsets_from start (take i lens)) → new ≡ now ++ little_bytes k at → new ≡ old ++ flat_map (little_bytes k) (offsets_from start (take (i + 1) lens))
offset_pushed k old now new start at lens i lt place so_far more =
    let one : flat_map (little_bytes k) (offsets_from start (take (i + 1) lens)) ≡ flat_map (little_bytes k) (offsets_from start (take i lens)) ++ little_bytes k at =
    ap (flat_map (little_bytes k)) (offsets_more start lens i 0 lt ∙ ap (λ (n : ℕ). offsets_from start (take i lens) ++ n ∷ []) (sym place)) ∙ flat_map-append (little_bytes k) (offsets_from start (take i lens)) (at ∷ [])
    ∙ ap (λ (t : List ℕ). flat_map (little_bytes k) (offsets_from start (take i lens)) ++ t) (append-nil (little_bytes k at)) in
    more ∙ ap (λ (t : List ℕ). t ++ little_bytes k at) so_far ∙ append_assoc old (flat_map (little_bytes k) (offsets_from start (take i lens))) (little_bytes k at) ∙ ap (λ (t : List ℕ). old ++ t) (sym one)
