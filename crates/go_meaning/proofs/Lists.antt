use Rattle.std.proofs.Common.{◌≡◌, ℕ, ◌+◌, ◌-◌, ◌≤◌, zero, suc, List, [], ◌∷◌, ◌++◌, length, take, drop, reverse, refl, sym, ap, ◌∙◌, append_assoc, arith}
use Rattle.std.proofs.lemmas.List.{take-append-drop, reverse-append, length-reverse, length-drop}
use Rattle.std.proofs.lemmas.List.Edits.{remove-append_right}
use Rattle.std.proofs.Math.Seq.{drop-append_seam, set-append_seam, take-append_seam}
use Rattle.std.specs.List.{remove}
use Rattle.std.specs.Prelude.{slice_set, ◌<◌}
use Rattle.std.proofs.lemmas.List.{length-append}

pub cut_reversed : {A : Type 0} (k : ℕ) (xs : List A) → k ≤ length xs → reverse (take (length xs - k) xs) ≡ drop k (reverse xs)
cut_reversed k xs h =
    let n = length xs - k in
    let len : length (reverse (drop n xs)) ≡ k = omega (arith, length-reverse (drop n xs), length-drop n xs) in
    let whole = ap reverse (sym (take-append-drop n xs)) ∙ reverse-append (take n xs) (drop n xs) in
    sym (ap (drop k) whole ∙ ap (λ m. drop m (reverse (drop n xs) ++ reverse (take n xs))) (sym len) ∙ drop-append_seam (reverse (drop n xs)) (reverse (take n xs)))

front_last : {A : Type 0} (xs : List A) → 0 < length xs → (front : List A) × (x : A) × (xs ≡ front ++ x ∷ [])
front_last [] h = absurd (omega arith)
front_last (x ∷ []) h = ([], x, refl)
front_last (x ∷ y ∷ ys) h = let r = front_last (y ∷ ys) (omega arith) in (x ∷ r.0, r.1, ap (λ l. x ∷ l) r.2)

-- the last element of a list is the top of its reverse
pub top_set : {A : Type 0} (xs : List A) (v : A) (n : ℕ) → 0 < length xs → n ≡ length xs - 1 → reverse (slice_set xs n v) ≡ v ∷ drop 1 (reverse xs)
top_set {A} xs v n h e =
    let r = front_last xs h in
    let at : n ≡ length r.0 = omega (arith, e, ap length r.2, length-append r.0 (r.1 ∷ [])) in
    let left : reverse (slice_set xs n v) ≡ v ∷ reverse r.0 =
    ap (λ l. reverse (slice_set l n v)) r.2 ∙ ap (λ m. reverse (slice_set (r.0 ++ r.1 ∷ []) m v)) at ∙ ap reverse (set-append_seam r.0 r.1 [] v) ∙ reverse-append r.0 (v ∷ []) in
    let right : drop 1 (reverse xs) ≡ reverse r.0 = ap (λ l. drop 1 (reverse l)) r.2 ∙ ap (drop 1) (reverse-append r.0 (r.1 ∷ [])) in
    left ∙ ap (λ l. v ∷ l) (sym right)

pub drop_one_more : {A : Type 0} (n : ℕ) (xs : List A) → 0 < n → drop 1 (drop (n - 1) xs) ≡ drop n xs
drop_one_more zero xs h = absurd (omega arith)
drop_one_more (suc n) xs h = let e : suc n - 1 ≡ n = omega arith in rw e (drop_one n xs)
  where
    drop_one : {A : Type 0} (n : ℕ) (xs : List A) → drop 1 (drop n xs) ≡ drop (suc n) xs
    drop_one zero [] = refl
    drop_one zero (x ∷ xs) = refl
    drop_one (suc n) [] = refl
    drop_one (suc n) (x ∷ xs) = drop_one n xs

-- ---- an element that lies under others

split_at : {A : Type 0} (xs : List A) (n : ℕ) → n < length xs → (ys : List A) × (x : A) × (zs : List A) × (xs ≡ ys ++ x ∷ zs) × (length ys ≡ n)
split_at [] n h = absurd (omega arith)
split_at (x ∷ xs) zero h = ([], x, xs, refl, refl)
split_at (x ∷ xs) (suc n) h = let r = split_at xs n (omega arith) in (x ∷ r.0, r.1, r.2, ap (λ l. x ∷ l) r.3, ap suc r.4)

turned : {A : Type 0} (ys : List A) (x : A) (zs : List A) → reverse (ys ++ x ∷ zs) ≡ reverse zs ++ x ∷ reverse ys
turned ys x zs = reverse-append ys (x ∷ zs) ∙ ap (λ l. l ++ reverse ys) (reverse-append (x ∷ []) zs) ∙ append_assoc (reverse zs) (x ∷ []) (reverse ys)

above : {A : Type 0} (xs ys : List A) (x : A) (zs : List A) (k n : ℕ) → k < length xs → n ≡ length xs - 1 - k → xs ≡ ys ++ x ∷ zs → length ys ≡ n → length (reverse zs) ≡ k
above xs ys x zs k n h e s l = omega (arith, length-reverse zs, ap length s, length-append ys (x ∷ zs), l, e)

pub set_below : {A : Type 0} (xs : List A) (v : A) (k n : ℕ) → k < length xs → n ≡ length xs - 1 - k → reverse (slice_set xs n v) ≡ slice_set (reverse xs) k v
set_below xs v k n h e =
    let r = split_at xs n (omega (arith, e)) in
    let m = above xs r.0 r.1 r.2 k n h e r.3 r.4 in
    let left : reverse (slice_set xs n v) ≡ reverse r.2 ++ v ∷ reverse r.0 =
    ap (λ l. reverse (slice_set l n v)) r.3 ∙ ap (λ i. reverse (slice_set (r.0 ++ r.1 ∷ r.2) i v)) (sym r.4) ∙ ap reverse (set-append_seam r.0 r.1 r.2 v) ∙ turned r.0 v r.2 in
    let right : slice_set (reverse xs) k v ≡ reverse r.2 ++ v ∷ reverse r.0 =
    ap (λ l. slice_set (reverse l) k v) r.3 ∙ ap (λ l. slice_set l k v) (turned r.0 r.1 r.2) ∙ ap (λ i. slice_set (reverse r.2 ++ r.1 ∷ reverse r.0) i v) (sym m) ∙ set-append_seam (reverse r.2) r.1 (reverse r.0) v in
    left ∙ sym right

pub without_below : {A : Type 0} (xs : List A) (k n : ℕ) → k < length xs → n ≡ length xs - 1 - k → reverse (remove xs n) ≡ take k (reverse xs) ++ drop (k + 1) (reverse xs)
without_below {A = A} xs k n h e =
    let r = split_at xs n (omega (arith, e)) in
    let m = above xs r.0 r.1 r.2 k n h e r.3 r.4 in
    let left : reverse (remove xs n) ≡ reverse r.2 ++ reverse r.0 =
    ap (λ l. reverse (remove l n)) r.3 ∙ ap reverse (remove-append_right r.0 (r.1 ∷ r.2) n n r.4 (omega arith)) ∙ ap (λ i. reverse (r.0 ++ remove (r.1 ∷ r.2) i)) none ∙ reverse-append r.0 r.2 in
    let whole : reverse xs ≡ reverse r.2 ++ r.1 ∷ reverse r.0 = ap reverse r.3 ∙ turned r.0 r.1 r.2 in
    let front : take k (reverse xs) ≡ reverse r.2 = ap (take k) whole ∙ ap (λ i. take i (reverse r.2 ++ r.1 ∷ reverse r.0)) (sym m) ∙ take-append_seam (reverse r.2) (r.1 ∷ reverse r.0) in
    let back : drop (k + 1) (reverse xs) ≡ reverse r.0 = ap (drop (k + 1)) whole ∙ ap (λ i. drop (i + 1) (reverse r.2 ++ r.1 ∷ reverse r.0)) (sym m) ∙ past_seam (reverse r.2) r.1 (reverse r.0) in
    left ∙ sym (ap (λ l. l ++ drop (k + 1) (reverse xs)) front ∙ ap (λ l. reverse r.2 ++ l) back)
  where
    none : n - n ≡ 0
    none = omega arith

    past_seam : (ys : List A) (x : A) (zs : List A) → drop (length ys + 1) (ys ++ x ∷ zs) ≡ zs
    past_seam [] x zs = refl
    past_seam (y ∷ ys) x zs = let s : length (y ∷ ys) + 1 ≡ suc (length ys + 1) = omega arith in rw s (past_seam ys x zs)
