-- How many texts a table has, and their bytes.
use Rattle.std.proofs.Common.{◌≡◌, ℕ, zero, suc, ◌+◌, ◌^◌, ◌<◌, List, [], ◌∷◌, length, take, drop, Option, Some, None, Result, Ok, Err, refl, sym, ap, ◌∙◌, arith}
use Rattle.std.specs.Prelude.{sum_by, nat_lt, if◌then◌else◌, ◌==◌, slice_get, position, Bool, true, false}
use Rattle.std.proofs.lemmas.Bool.Decides.{nat_tests}
use Rattle.std.proofs.lemmas.Option.{slice_get_within, get_or_from_slice_get}
use Rattle.std.proofs.lemmas.List.Sums.{sum_by_more}
use Rattle.cov_bytes.specs.declared.cursor.CutFault.{CutFault}
use Rattle.cov_bytes.specs.declared.text_limits.TableFault.{TableFault}
use Rattle.cov_bytes.specs.declared.text_limits.TextLimits.{TextLimits}
use Rattle.cov_bytes.specs.declared.text_limits.TableFault.TheVariants.{Limit}
use Rattle.cov_bytes.specs.declared.text_limits.WhichText.TheVariants.{Strings}
use Rattle.cov_bytes.specs.Reading.{uleb_in, uleb_at}
use Rattle.cov_bytes.specs.Many.{◌>>=◌, many}
use Rattle.cov_bytes.specs.Table.{cut, texts_at, next_text, table_at}

-- what was read
abbrev list_of : {S A E : Type 0} → Result (List A × S) E → List A
list_of (Ok y) = y.0
list_of (Err e) = []

-- one more thing before the others
abbrev after : {S A E : Type 0} → A → Result (List A × S) E → Result (List A × S) E
after x others = others >>= λ y. Ok (x ∷ y.0, y.1)

chained : {S A E : Type 0} (x : A) (n : ℕ) (others : Result (List A × S) E) → ((ys : List A) (u : S) → others ≡ Ok (ys, u) → length ys ≡ n)
    → (xs : List A) (t : S) → after x others ≡ Ok (xs, t) → length xs ≡ suc n
chained x n (Ok y) inside xs t e =
    ap length (sym (ap list_of e)) ∙ ap suc (inside y.0 y.1 refl)
chained x n (Err f) inside xs t e = absurd (cc)

abbrev begun : {S A E : Type 0} → (S → Result (A × S) E) → ℕ → Result (A × S) E → Result (List A × S) E
begun step n first = first >>= λ x. after x.0 (many step n x.1)

counted : {S A E : Type 0} (step : S → Result (A × S) E) (n : ℕ) (first : Result (A × S) E) → ((u : S) (ys : List A) (v : S) → many step n u ≡ Ok (ys, v) → length ys ≡ n)
    → (xs : List A) (t : S) → begun step n first ≡ Ok (xs, t) → length xs ≡ suc n
counted step n (Ok x) inside xs t e = chained x.0 n (many step n x.1) (inside x.1) xs t e
counted step n (Err f) inside xs t e = absurd (cc)

-- as many things are read as were counted
pub length-many : {S A E : Type 0} (step : S → Result (A × S) E) (n : ℕ) (s : S) (xs : List A) (t : S) → many step n s ≡ Ok (xs, t) → length xs ≡ n
unfolding many
length-many step zero s xs t e = ap length (sym (ap list_of e))
length-many step (suc n) s xs t e = counted step n (step s) (length-many step n) xs t e

within : (n next : ℕ) (f : CutFault) (y : ℕ × ℕ) → (if nat_lt n (2 ^ 32) then Ok (n, next) else Err f) ≡ Ok y → y.0 < 2 ^ 32
within n next f y e = grind (arith, nat_tests)

neither : (b : Bool) (f g : CutFault) (y : ℕ × ℕ) → (if b then Err f else Err g) ≡ Ok y → y.0 < 2 ^ 32
neither true f g y e = absurd (cc)
neither false f g y e = absurd (cc)

uleb_in_small : (at : ℕ) (front : List ℕ) (last : Option ℕ) (y : ℕ × ℕ) → uleb_in at front last ≡ Ok y → y.0 < 2 ^ 32
uleb_in_small at front None y e = neither (length front == 10) _ _ y e
uleb_in_small at front (Some last) y e = within _ _ _ y e

-- a number that is read fits in 32 bits
pub uleb_at_small : (bytes : List ℕ) (at : ℕ) (y : ℕ × ℕ) → uleb_at bytes at ≡ Ok y → y.0 < 2 ^ 32
uleb_at_small bytes at y e =
    let front = take 10 (drop at bytes) in
    uleb_in_small at front (position (λ b. nat_lt b 128) front) y e

-- the bytes of one more text
pub bytes_more : (texts : List (List ℕ)) (i : ℕ) (text : List ℕ) → slice_get texts i ≡ Some text → sum_by length (take (i + 1) texts) ≡ sum_by length (take i texts) + length text
bytes_more texts i text e = sum_by_more length texts i [] (slice_get_within texts i text e) ∙ ap (λ (t : List ℕ). sum_by length (take i texts) + length t) (get_or_from_slice_get texts i text [] e)

abbrev without_bytes : Result (List (List ℕ) × (ℕ × ℕ)) TableFault → Result (List (List ℕ) × ℕ) TableFault
without_bytes read = read >>= λ x. Ok (x.0, x.1.1)

read_texts_few : (limits : TextLimits) (count : ℕ) (bytes : List ℕ) (at : ℕ) (read : Result (List (List ℕ) × (ℕ × ℕ)) TableFault) → ((texts : List (List ℕ)) (s : ℕ × ℕ) → read ≡ Ok (texts, s) → length texts ≡ count)
    → (texts : List (List ℕ)) (next : ℕ) → without_bytes read ≡ Ok (texts, next) → length texts ≡ count
read_texts_few limits count bytes at (Ok x) inside texts next e = ap length (sym (ap list_of e)) ∙ inside x.0 x.1 refl
read_texts_few limits count bytes at (Err f) inside texts next e = absurd (cc)

few_texts : (limits : TextLimits) (bytes : List ℕ) (n : ℕ × ℕ) (many_ : Bool) → n.0 < 2 ^ 32
    → (texts : List (List ℕ)) (next : ℕ) → (if many_ then Err (Limit Strings) else texts_at limits n.0 bytes n.1) ≡ Ok (texts, next) → length texts < 2 ^ 32
unfolding texts_at
few_texts limits bytes n true small texts next e = absurd (cc)
few_texts limits bytes n false small texts next e =
    let count : length texts ≡ n.0 = read_texts_few limits n.0 bytes n.1 (many (next_text limits bytes) n.0 (0, n.1)) (length-many (next_text limits bytes) n.0 (0, n.1)) texts next e in
    omega arith

counted_texts : (limits : TextLimits) (bytes : List ℕ) (n : Result (ℕ × ℕ) CutFault) → ((y : ℕ × ℕ) → n ≡ Ok y → y.0 < 2 ^ 32)
    → (texts : List (List ℕ)) (next : ℕ) → (cut n >>= λ x. if nat_lt limits.strings x.0 then Err (Limit Strings) else texts_at limits x.0 bytes x.1) ≡ Ok (texts, next) → length texts < 2 ^ 32
counted_texts limits bytes (Ok x) small texts next e = few_texts limits bytes x (nat_lt limits.strings x.0) (small x refl) texts next e
counted_texts limits bytes (Err f) small texts next e = absurd (cc)

-- a table that is read has fewer than 2^32 texts
pub table_at_few : (limits : TextLimits) (bytes : List ℕ) (at : ℕ) (texts : List (List ℕ)) (next : ℕ) → table_at limits bytes at ≡ Ok (texts, next) → length texts < 2 ^ 32
unfolding table_at
table_at_few limits bytes at texts next e = counted_texts limits bytes (uleb_at bytes at) (uleb_at_small bytes at) texts next e
