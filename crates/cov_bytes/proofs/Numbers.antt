-- Spellings of numbers are what is read.
use Rattle.std.proofs.Common.{◌≡◌, ℕ, ◌+◌, ◌-◌, ◌^◌, ◌<◌, ◌≤◌, Bool, true, false, cond, eqb, ltb, not, List, ◌++◌, length, take, drop, min, Option, Some, None, Result, Ok, Err, refl, sym, ap, subst, ◌∙◌, length-append, length-drop, arith}
use Rattle.std.specs.Prelude.{position, nat_lt}
use Rattle.std.specs.List.{position_or_len}
use Rattle.std.proofs.lemmas.Bool.Decides.{nat_tests}
use Rattle.std.proofs.lemmas.List.Folds.{prefix_len-append}
use Rattle.std.proofs.lemmas.List.{length-take, length-take-le, take-append-drop, take-take}
use Rattle.std.proofs.Math.Seq.{take-append-add, take-append_seam}
use Rattle.cov_bytes.specs.Reading.{groups_value, uleb_in}
use Rattle.cov_bytes.specs.Laws.{IsUleb, NumbersAreRead, NumbersAreSpelled, NumbersAreApart}
use Rattle.cov_bytes.specs.declared.cursor.CutFault.{CutFault}
use Rattle.cov_bytes.specs.declared.cursor.CutFault.TheVariants.{Short, NumberTooLong, NumberTooLarge}

abbrev pub is_last : ℕ → Bool
is_last b = nat_lt b 128

-- the first place stays where something follows
first_stays : (xs ys : List ℕ) → position_or_len is_last xs < length xs → position_or_len is_last (xs ++ ys) ≡ position_or_len is_last xs
first_stays xs ys lt = let e = prefix_len-append (λ b. not (is_last b)) xs ys in grind (arith, nat_tests)

-- the first of the bytes from an offset on
from_spelling : (spelling rest : List ℕ) → length spelling ≤ 10 → take 10 (spelling ++ rest) ≡ spelling ++ take (10 - length spelling) rest
from_spelling spelling rest few = let ten : 10 ≡ length spelling + (10 - length spelling) = omega arith in ap (λ (k : ℕ). take k (spelling ++ rest)) ten ∙ take-append-add spelling rest (10 - length spelling)

found_in : (spelling more : List ℕ) → position_or_len is_last spelling + 1 ≡ length spelling → position is_last (spelling ++ more) ≡ Some (position_or_len is_last spelling)
found_in spelling more ends = let e = first_stays spelling more (omega arith) in let n = length-append spelling more in grind (arith, nat_tests)

read_in : (at n : ℕ) (spelling more : List ℕ) → IsUleb spelling n → uleb_in at (spelling ++ more) (Some (position_or_len is_last spelling)) ≡ Ok (n, at + length spelling)
read_in at n spelling more u =
    let whole : groups_value (take (position_or_len is_last spelling + 1) (spelling ++ more)) ≡ n = ap (λ (k : ℕ). groups_value (take k (spelling ++ more))) u.ends ∙ ap groups_value (take-append_seam spelling more) ∙ u.value in
    let small = u.small in
    let ends = u.ends in
    rw (whole, ends) (grind (arith, nat_tests))

pub numbers_are_read : NumbersAreRead
numbers_are_read bytes rest spelling at n u here =
    let front : take 10 (drop at bytes) ≡ spelling ++ take (10 - length spelling) rest = ap (take 10) here ∙ from_spelling spelling rest u.few in
    ap (λ (f : List ℕ). uleb_in at f (position is_last f)) front ∙ ap (uleb_in at (spelling ++ take (10 - length spelling) rest)) (found_in spelling (take (10 - length spelling) rest) u.ends) ∙ read_in at n spelling (take (10 - length spelling) rest) u

-- what reading found
pub record Found (at n next : ℕ) (front : List ℕ) (o : Option ℕ) : Type 0 where
  pub last : ℕ
  pub there : o ≡ Some last
  pub value : groups_value (take (last + 1) front) ≡ n
  pub small : n < 2 ^ 32
  pub behind : next ≡ at + (last + 1)

same_pair : (a b c d : ℕ) → ◌≡◌ {A = Result (ℕ × ℕ) CutFault} (Ok (a, b)) (Ok (c, d)) → (a ≡ c) × (b ≡ d)
same_pair a b c d e = let same : ◌≡◌ {A = ℕ × ℕ} (a, b) (c, d) = cc in (ap (λ (p : ℕ × ℕ). p.0) same, ap (λ (p : ℕ × ℕ). p.1) same)

not_read : (f : CutFault) (x : ℕ × ℕ) → ◌≡◌ {A = Result (ℕ × ℕ) CutFault} (Err f) (Ok x) → ⊥
not_read f x e = cc

found : (at n next : ℕ) (front : List ℕ) (o : Option ℕ) → uleb_in at front o ≡ Ok (n, next) → Found at n next front o
found at n next front None e =
    elim (eqb (length front) 10) as (λ b. cond {A = Result (ℕ × ℕ) CutFault} b (Err (NumberTooLong at)) (Err (Short at)) ≡ Ok (n, next) → Found at n next front None) [ true ↦ λ h. absurd (not_read _ (n, next) h) | false ↦ λ h. absurd (not_read _ (n, next) h) ] e
found at n next front (Some last) e =
    elim (ltb (groups_value (take (last + 1) front)) (2 ^ 32))
    as (λ b. ltb (groups_value (take (last + 1) front)) (2 ^ 32) ≡ b → cond {A = Result (ℕ × ℕ) CutFault} b (Ok (groups_value (take (last + 1) front), at + (last + 1))) (Err (NumberTooLarge at)) ≡ Ok (n, next) → Found at n next front (Some last)) [
      | true ↦ λ small h. let same = same_pair (groups_value (take (last + 1) front)) (at + (last + 1)) n next h in record {
        last = last;
        there = refl;
        value = same.0;
        small = let v = same.0 in grind (arith, nat_tests);
        behind = sym same.1;
      }
      | false ↦ λ large h. absurd (not_read _ (n, next) h)
    ] refl e

placed : (xs : List ℕ) (i : ℕ) → position is_last xs ≡ Some i → (position_or_len is_last xs ≡ i) × (i < length xs)
placed xs i e = (grind (arith, nat_tests), grind (arith, nat_tests))

-- the first place is the last of what is cut off behind it
cut_behind : (xs : List ℕ) (i : ℕ) → position_or_len is_last xs ≡ i → i < length xs → position_or_len is_last (take (i + 1) xs) ≡ i
cut_behind xs i is lt =
    let parts : take (i + 1) xs ++ drop (i + 1) xs ≡ xs = take-append-drop (i + 1) xs in
    let e : position_or_len is_last xs ≡ cond (eqb (position_or_len is_last (take (i + 1) xs)) (length (take (i + 1) xs))) (length (take (i + 1) xs) + position_or_len is_last (drop (i + 1) xs)) (position_or_len is_last (take (i + 1) xs)) = ap (position_or_len is_last) (sym parts) ∙ prefix_len-append (λ b. not (is_last b)) (take (i + 1) xs) (drop (i + 1) xs) in
    let n : length (take (i + 1) xs) ≡ i + 1 = length-take-le (i + 1) xs (omega arith) in
    grind (arith, nat_tests)

pub numbers_are_spelled : NumbersAreSpelled
numbers_are_spelled bytes at n next e =
    let front = take 10 (drop at bytes) in
    let f = found at n next (take 10 (drop at bytes)) (position is_last (take 10 (drop at bytes))) e in
    let p = placed (take 10 (drop at bytes)) f.last f.there in
    let ten : length (take 10 (drop at bytes)) ≡ min 10 (length bytes - at) = length-take 10 (drop at bytes) ∙ ap (min 10) (length-drop at bytes) in
    let width : next - at ≡ f.last + 1 = omega (arith, f.behind) in
    let within : f.last + 1 ≤ 10 = omega (arith, p.1) in
    let cut : take (f.last + 1) (take 10 (drop at bytes)) ≡ take (f.last + 1) (drop at bytes) = take-take (f.last + 1) 10 (drop at bytes) within in
    let spelling : take (next - at) (drop at bytes) ≡ take (f.last + 1) (take 10 (drop at bytes)) = ap (λ (k : ℕ). take k (drop at bytes)) width ∙ sym cut in
    let n_bytes : length (take (f.last + 1) (take 10 (drop at bytes))) ≡ f.last + 1 = length-take-le (f.last + 1) (take 10 (drop at bytes)) (omega (arith, p.1)) in (
      omega (arith, f.behind),
      omega (arith, f.behind, p.1),
      subst (λ s. IsUleb s n) (sym spelling) (record {
        ends = ap (λ (k : ℕ). k + 1) (cut_behind (take 10 (drop at bytes)) f.last p.0 p.1) ∙ sym n_bytes;
        few = omega arith;
        value = f.value;
        small = f.small;
      }),
    )

pub numbers_are_apart : NumbersAreApart
numbers_are_apart first second rest other n m u v same =
    let one = numbers_are_read (first ++ rest) rest first 0 n u refl in
    let two = numbers_are_read (first ++ rest) other second 0 m v same in
    let both = same_pair n (0 + length first) m (0 + length second) (sym one ∙ two) in
    let len : length first ≡ length second = omega (arith, both.1) in (
      both.0,
      sym (take-append_seam first rest) ∙ ap (λ (k : ℕ). take k (first ++ rest)) len ∙ ap (take (length second)) same ∙ take-append_seam second other,
    )
