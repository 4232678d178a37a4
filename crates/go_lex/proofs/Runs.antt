-- Runs of digits, and the number at the front.
use Rattle.std.proofs.Common.{◌≡◌, ℕ, zero, suc, ◌+◌, ◌<◌, ◌≤◌, Bool, true, false, ◌&&◌, ◌||◌, inl, inr, cond, List, [], ◌∷◌, ◌++◌, length, take, get_or, refl, sym, subst, arith, append_assoc, nat_le, nat_lt, nat_eq}
use Rattle.std.specs.Prelude.{take_while}
use Rattle.std.specs.List.{list_all, prefix_len}
use Rattle.std.proofs.lemmas.List.{length-append, take_more}
use Rattle.std.proofs.lemmas.List.Folds.{length-prefix_len}
use Rattle.std.proofs.lemmas.List.Sums.{prefix_len-le-length}
use Rattle.std.proofs.lemmas.Bool.{eqb-true, leb-true, leb-false, ltb-true, lt-ltb}
use Rattle.go_ast.specs.Numbers.{is_x, is_o, is_b, is_decimal, is_decimal_or_line, is_hex_or_line, is_number_end, is_run, is_run_after_zero}
use Rattle.go_ast.specs.Pieces.{IsNumber}
use Rattle.go_lex.specs.Scan.{run_after_zero, run_len, ended_len, point_len, number_len}
use Rattle.go_lex.proofs.Values.{both}

-- what passes at the front passes
pub front_passes : (p : ℕ → Bool) (xs : List ℕ) → list_all p (take (prefix_len p xs) xs) ≡ true
front_passes p [] = refl
front_passes p (x ∷ xs) = go (p x) refl (front_passes p xs)
  where
    go : (b : Bool) → p x ≡ b → list_all p (take (prefix_len p xs) xs) ≡ true → list_all p (take (cond b (1 + prefix_len p xs) 0) (x ∷ xs)) ≡ true
    go true e h = let k : 1 + prefix_len p xs ≡ suc (prefix_len p xs) = omega arith in rw (k, e) h
    go false e h = refl

-- the front that passes is the longest
pub front_reaches : (p : ℕ → Bool) (v r : List ℕ) → list_all p v ≡ true → length v ≤ prefix_len p (v ++ r)
front_reaches p [] r h = omega arith
front_reaches p (x ∷ v) r h = let two = both (p x) (list_all p v) h in let more = front_reaches p v r two.1 in rw two.0 (omega arith)

abbrev pub while_len : (ℕ → Bool) → List ℕ → ℕ
while_len p xs = length (take_while p xs)

pub while_is : (p : ℕ → Bool) (xs : List ℕ) → while_len p xs ≡ prefix_len p xs
while_is p xs = length-prefix_len p xs

pub while_passes : (p : ℕ → Bool) (xs : List ℕ) → list_all p (take (while_len p xs) xs) ≡ true
while_passes p xs = subst (λ (n : ℕ). list_all p (take n xs) ≡ true) (sym (while_is p xs)) (front_passes p xs)

pub while_reaches : (p : ℕ → Bool) (v r : List ℕ) → list_all p v ≡ true → length v ≤ while_len p (v ++ r)
while_reaches p v r h = let k = while_is p (v ++ r) in let m = front_reaches p v r h in omega arith

pub while_within : (p : ℕ → Bool) (xs : List ℕ) → while_len p xs ≤ length xs
while_within p xs = let k = while_is p xs in let m = prefix_len-le-length p xs in omega arith

-- ---- a run

one_more : (n : ℕ) (x : ℕ) (xs : List ℕ) → take (1 + n) (x ∷ xs) ≡ x ∷ take n xs
one_more n x xs = let k : 1 + n ≡ suc n = omega arith in rw k refl

after_zero_sound : (bs : List ℕ) → is_run_after_zero (take (run_after_zero bs) bs) ≡ true
unfolding run_after_zero
after_zero_sound [] = refl
after_zero_sound (x ∷ xs) = go (is_x x) (is_o x || is_b x || is_decimal_or_line x) refl refl
  where
    go : (h d : Bool) → is_x x ≡ h → (is_o x || is_b x || is_decimal_or_line x) ≡ d
        → is_run_after_zero (take (cond h (1 + while_len is_hex_or_line xs) (cond d (1 + while_len is_decimal_or_line xs) 0)) (x ∷ xs)) ≡ true
    go true d h-is d-is = rw (one_more (while_len is_hex_or_line xs) x xs, h-is) (while_passes is_hex_or_line xs)
    go false true h-is d-is = rw (one_more (while_len is_decimal_or_line xs) x xs, h-is, d-is) (while_passes is_decimal_or_line xs)
    go false false h-is d-is = refl

after_zero_reaches : (bs r : List ℕ) → is_run_after_zero bs ≡ true → length bs ≤ run_after_zero (bs ++ r)
unfolding run_after_zero
after_zero_reaches [] r h = omega arith
after_zero_reaches (x ∷ xs) r h = go (is_x x) (is_o x || is_b x || is_decimal_or_line x) refl refl h
  where
    go : (a d : Bool) → is_x x ≡ a → (is_o x || is_b x || is_decimal_or_line x) ≡ d → cond a (list_all is_hex_or_line xs) (d && list_all is_decimal_or_line xs) ≡ true
        → length (x ∷ xs) ≤ run_after_zero (x ∷ (xs ++ r))
    go true d a-is d-is e = let m = while_reaches is_hex_or_line xs r e in rw a-is (omega arith)
    go false true a-is d-is e = let m = while_reaches is_decimal_or_line xs r e in rw (a-is, d-is) (omega arith)
    go false false a-is d-is e = absurd cc

run_sound : (bs : List ℕ) → 0 < run_len bs → is_run (take (run_len bs) bs) ≡ true
unfolding run_len
run_sound [] some = absurd (omega arith)
run_sound (x ∷ xs) some = go (nat_eq x 48) (is_decimal x) refl refl some
  where
    go : (z d : Bool) → nat_eq x 48 ≡ z → is_decimal x ≡ d → 0 < cond z (1 + run_after_zero xs) (cond d (1 + while_len is_decimal_or_line xs) 0)
        → is_run (take (cond z (1 + run_after_zero xs) (cond d (1 + while_len is_decimal_or_line xs) 0)) (x ∷ xs)) ≡ true
    go true d z-is d-is h = rw (one_more (run_after_zero xs) x xs, z-is) (after_zero_sound xs)
    go false true z-is d-is h = rw (one_more (while_len is_decimal_or_line xs) x xs, z-is, d-is) (while_passes is_decimal_or_line xs)
    go false false z-is d-is h = absurd (omega arith)

after_zero_within : (bs : List ℕ) → run_after_zero bs ≤ length bs
unfolding run_after_zero
after_zero_within [] = omega arith
after_zero_within (x ∷ xs) = go (is_x x) (is_o x || is_b x || is_decimal_or_line x)
  where
    go : (h d : Bool) → cond h (1 + while_len is_hex_or_line xs) (cond d (1 + while_len is_decimal_or_line xs) 0) ≤ length (x ∷ xs)
    go true d = let m = while_within is_hex_or_line xs in omega arith
    go false true = let m = while_within is_decimal_or_line xs in omega arith
    go false false = omega arith

run_within : (bs : List ℕ) → run_len bs ≤ length bs
unfolding run_len
run_within [] = omega arith
run_within (x ∷ xs) = go (nat_eq x 48) (is_decimal x)
  where
    go : (z d : Bool) → cond z (1 + run_after_zero xs) (cond d (1 + while_len is_decimal_or_line xs) 0) ≤ length (x ∷ xs)
    go true d = let m = after_zero_within xs in omega arith
    go false true = let m = while_within is_decimal_or_line xs in omega arith
    go false false = omega arith

run_reaches : (v r : List ℕ) → is_run v ≡ true → length v ≤ run_len (v ++ r)
unfolding run_len
run_reaches [] r h = omega arith
run_reaches (x ∷ xs) r h = go (nat_eq x 48) (is_decimal x) refl refl h
  where
    go : (z d : Bool) → nat_eq x 48 ≡ z → is_decimal x ≡ d → cond z (is_run_after_zero xs) (d && list_all is_decimal_or_line xs) ≡ true → length (x ∷ xs) ≤ run_len (x ∷ (xs ++ r))
    go true d z-is d-is e = let m = after_zero_reaches xs r e in rw z-is (omega arith)
    go false true z-is d-is e = let m = while_reaches is_decimal_or_line xs r e in rw (z-is, d-is) (omega arith)
    go false false z-is d-is e = absurd cc

-- a run begins with a decimal digit
pub run_first : (x : ℕ) (xs : List ℕ) → is_run (x ∷ xs) ≡ true → is_decimal x ≡ true
run_first x xs h = go (nat_eq x 48) refl h
  where
    go : (z : Bool) → nat_eq x 48 ≡ z → cond z (is_run_after_zero xs) (is_decimal x && list_all is_decimal_or_line xs) ≡ true → is_decimal x ≡ true
    go true z-is e = rw (eqb-true x 48 z-is) refl
    go false z-is e = (both (is_decimal x) (list_all is_decimal_or_line xs) e).0

-- ---- a number

pub not_point : (x : ℕ) → is_decimal x ≡ true → nat_eq x 46 ≡ false
not_point x d = go (nat_eq x 46) refl
  where
    go : (b : Bool) → nat_eq x 46 ≡ b → b ≡ false
    go true e = let is = eqb-true x 46 e in let f : is_decimal 46 ≡ true = rw is at d in absurd cc
    go false e = refl

ended_run : (len : ℕ) (bs : List ℕ) → ended_len len bs ≡ cond (nat_lt 0 len && (nat_lt len (length bs) && is_number_end (get_or bs len 0))) (len + 1) len
ended_run len bs = refl

ended_sound : (bs : List ℕ) (len : ℕ) → 0 < len → len ≤ length bs → is_run (take len bs) ≡ true → IsNumber (take (ended_len len bs) bs) × (ended_len len bs ≤ length bs) × (0 < ended_len len bs)
ended_sound bs len some within run = go (nat_lt 0 len) (nat_lt len (length bs)) (is_number_end (get_or bs len 0)) refl refl refl
  where
    go : (a b e : Bool) → nat_lt 0 len ≡ a → nat_lt len (length bs) ≡ b → is_number_end (get_or bs len 0) ≡ e
        → IsNumber (take (cond (a && (b && e)) (len + 1) len) bs) × (cond (a && (b && e)) (len + 1) len ≤ length bs) × (0 < cond (a && (b && e)) (len + 1) len)
    go true true true a-is b-is e-is =
        let lt = ltb-true len (length bs) b-is in
        (inr (inl (take len bs, get_or bs len 0, run, e-is, take_more bs len 0 lt)), omega arith, omega arith)
    go false b e a-is b-is e-is = (inl run, within, some)
    go true false e a-is b-is e-is = (inl run, within, some)
    go true true false a-is b-is e-is = (inl run, within, some)

ended_more : (len : ℕ) (bs : List ℕ) → len ≤ ended_len len bs
ended_more len bs = go (nat_lt 0 len && (nat_lt len (length bs) && is_number_end (get_or bs len 0)))
  where
    go : (b : Bool) → len ≤ cond b (len + 1) len
    go true = omega arith
    go false = omega arith

ended_one : (len : ℕ) (bs : List ℕ) → 0 < len → len < length bs → is_number_end (get_or bs len 0) ≡ true → ended_len len bs ≡ len + 1
ended_one len bs some lt end = rw (lt-ltb 0 len some, lt-ltb len (length bs) lt, end) refl

pub number_sound : (bs : List ℕ) → 0 < number_len bs → IsNumber (take (number_len bs) bs) × (number_len bs ≤ length bs)
unfolding number_len
number_sound [] some = absurd (omega arith)
number_sound (x ∷ xs) some = go (nat_eq x 46) refl some
  where
    point : (ys : List ℕ) → 0 < point_len ys → IsNumber (take (point_len ys) (46 ∷ ys)) × (point_len ys ≤ length (46 ∷ ys))
    point [] h = absurd (omega arith)
    point (y ∷ ys) h = by (is_decimal y) refl h
      where
        by : (d : Bool) → is_decimal y ≡ d → 0 < cond d 2 0 → IsNumber (take (cond d 2 0) (46 ∷ y ∷ ys)) × (cond d 2 0 ≤ length (46 ∷ y ∷ ys))
        by true d-is h' = (inr (inr (y, d-is, refl)), omega arith)
        by false d-is h' = absurd (omega arith)

    run : (n : ℕ) → run_len (x ∷ xs) ≡ n → 0 < ended_len n (x ∷ xs) → IsNumber (take (ended_len n (x ∷ xs)) (x ∷ xs)) × (ended_len n (x ∷ xs) ≤ length (x ∷ xs))
    run zero is h = absurd (omega arith)
    run (suc n) is h =
        let within = run_within (x ∷ xs) in
        let some' : 0 < run_len (x ∷ xs) = omega arith in
        let s = run_sound (x ∷ xs) some' in
        let e = ended_sound (x ∷ xs) (suc n) (omega arith) (omega arith) (subst (λ (k : ℕ). is_run (take k (x ∷ xs)) ≡ true) is s) in
        (e.0, e.1)

    go : (p : Bool) → nat_eq x 46 ≡ p → 0 < cond p (point_len xs) (ended_len (run_len (x ∷ xs)) (x ∷ xs))
        → IsNumber (take (cond p (point_len xs) (ended_len (run_len (x ∷ xs)) (x ∷ xs))) (x ∷ xs)) × (cond p (point_len xs) (ended_len (run_len (x ∷ xs)) (x ∷ xs)) ≤ length (x ∷ xs))
    go true p-is h = subst (λ (b : ℕ). IsNumber (take (point_len xs) (b ∷ xs)) × (point_len xs ≤ length (b ∷ xs))) (sym (eqb-true x 46 p-is)) (point xs h)
    go false p-is h = run (run_len (x ∷ xs)) refl h

at_length : (xs ys : List ℕ) (y d : ℕ) → get_or (xs ++ y ∷ ys) (length xs) d ≡ y
at_length [] ys y d = refl
at_length (x ∷ xs) ys y d = at_length xs ys y d

not_empty : (xs : List ℕ) → is_run xs ≡ true → 0 < length xs
not_empty [] h = absurd cc
not_empty (x ∷ xs) h = omega arith

-- the number that is found is at least as long as a run, which it begins with, and longer where the run ends as a number
ended_reaches : (v r : List ℕ) → is_run v ≡ true → length v ≤ ended_len (run_len (v ++ r)) (v ++ r)
ended_reaches v r h = let m = run_reaches v r h in let n = ended_more (run_len (v ++ r)) (v ++ r) in omega arith

end_reaches : (v r : List ℕ) (e : ℕ) → is_run v ≡ true → is_number_end e ≡ true → length v + 1 ≤ ended_len (run_len (v ++ e ∷ r)) (v ++ e ∷ r)
end_reaches v r e h end = go (nat_le (length v + 1) (run_len (v ++ e ∷ r))) refl
  where
    go : (b : Bool) → nat_le (length v + 1) (run_len (v ++ e ∷ r)) ≡ b → length v + 1 ≤ ended_len (run_len (v ++ e ∷ r)) (v ++ e ∷ r)
    go true b-is = let m = leb-true (length v + 1) (run_len (v ++ e ∷ r)) b-is in let n = ended_more (run_len (v ++ e ∷ r)) (v ++ e ∷ r) in omega arith
    go false b-is =
        let m = leb-false (length v + 1) (run_len (v ++ e ∷ r)) b-is in
        let n = run_reaches v (e ∷ r) h in
        let len : run_len (v ++ e ∷ r) ≡ length v = omega arith in
        let l = length-append v (e ∷ r) in
        let lt : length v < length (v ++ e ∷ r) = omega arith in
        let here : is_number_end (get_or (v ++ e ∷ r) (length v) 0) ≡ true = rw (at_length v r e 0) end in
        let one = ended_one (length v) (v ++ e ∷ r) (not_empty v h) lt here in
        rw len (omega arith)

pub number_reaches : (v r : List ℕ) → IsNumber v → length v ≤ number_len (v ++ r)
unfolding number_len
number_reaches v r (inl run) = plain v run
  where
    plain : (w : List ℕ) → is_run w ≡ true → length w ≤ number_len (w ++ r)
    plain [] h = absurd cc
    plain (x ∷ xs) h = rw (not_point x (run_first x xs h)) (ended_reaches (x ∷ xs) r h)
number_reaches v r (inr (inl p)) = rw p.4 (plain p.0 p.2)
  where
    plain : (w : List ℕ) → is_run w ≡ true → length (w ++ p.1 ∷ []) ≤ number_len ((w ++ p.1 ∷ []) ++ r)
    plain [] h = absurd cc
    plain (x ∷ xs) h =
        let l = length-append (x ∷ xs) (p.1 ∷ []) in
        let e = end_reaches (x ∷ xs) r p.1 h p.3 in
        rw (not_point x (run_first x xs h), append_assoc xs (p.1 ∷ []) r) (omega arith)
number_reaches v r (inr (inr p)) = rw (p.2, p.1) (omega arith)
