-- Fields and what stands there.
use Rattle.std.proofs.Common.{◌≡◌, ℕ, ◌+◌, ◌-◌, ◌≤◌, List, [], ◌∷◌, length, take, drop, Result, Ok, Err, refl, sym, ap, ◌∙◌, arith}
use Rattle.std.specs.Prelude.{nat_lt, if◌then◌else◌, slice_index}
use Rattle.std.proofs.lemmas.Bool.{ltb-false, le-ltb}
use Rattle.std.proofs.lemmas.List.{drop_more, length-take-le, length-drop, take-append-drop}
use Rattle.byteorder.specs.Endian.{little_number, big_number}
use Rattle.cov_bytes.specs.declared.cursor.CutFault.{CutFault}
use Rattle.cov_bytes.specs.declared.cursor.CutFault.TheVariants.{Short}
use Rattle.cov_bytes.specs.Reading.{little_at, big_at, byte_at, take_at, uleb_at}
use Rattle.cov_bytes.specs.Laws.{NumbersAreRead, NumbersAreSpelled}
use Rattle.cov_counter.specs.Spelling.{IsPiece, IsLittle, IsBig, IsGroups, IsByte}
use Rattle.cov_counter.proofs.Bind.{same_ok, passed}

-- a field of n bytes: where they are, what was made of them, and the next offset
fixed : {A : Type 0} (bytes : List ℕ) (at n : ℕ) (v : A) (x : A × ℕ) → (if nat_lt (length bytes) (at + n) then Err (Short at) else Ok (v, at + n)) ≡ Ok x → (at + n ≤ length bytes) × (v ≡ x.0) × (at + n ≡ x.1)
fixed {A = A} bytes at n v x e =
    let got = passed (nat_lt (length bytes) (at + n)) (Short at) (Ok (v, at + n)) x e in
    let here : A × ℕ = (v, at + n) in
    let same : here ≡ x = same_ok here x got.1 in
    (ltb-false (length bytes) (at + n) got.0, ap (λ (p : A × ℕ). p.0) same, ap (λ (p : A × ℕ). p.1) same)

there : {A : Type 0} (bytes : List ℕ) (at n : ℕ) (v : A) → at + n ≤ length bytes → let found : Result (A × ℕ) CutFault = Ok (v, at + n) in (if nat_lt (length bytes) (at + n) then Err (Short at) else found) ≡ found
there bytes at n v le = rw (le-ltb (length bytes) (at + n) le) refl

pub little_spells : (n : ℕ) (bytes : List ℕ) (at : ℕ) (x : ℕ × ℕ) → little_at n bytes at ≡ Ok x → IsLittle n bytes at x.0 x.1
little_spells n bytes at x e = let f = fixed bytes at n (little_number n (drop at bytes)) x e in record { next_is = sym f.2; whole = omega (arith, f.0, f.2); value_is = f.1 }

pub big_spells : (n : ℕ) (bytes : List ℕ) (at : ℕ) (x : ℕ × ℕ) → big_at n bytes at ≡ Ok x → IsBig n bytes at x.0 x.1
big_spells n bytes at x e = let f = fixed bytes at n (big_number n (drop at bytes)) x e in record { next_is = sym f.2; whole = omega (arith, f.0, f.2); value_is = f.1 }

pub little_reads : (n : ℕ) (bytes : List ℕ) (at v next : ℕ) → IsLittle n bytes at v next → little_at n bytes at ≡ Ok (v, next)
little_reads n bytes at v next is =
    there bytes at n (little_number n (drop at bytes)) (omega (arith, is.next_is, is.whole)) ∙ ap (λ (w : ℕ). Ok (w, at + n)) is.value_is ∙ ap (λ (m : ℕ). Ok (v, m)) (sym is.next_is)

pub big_reads : (n : ℕ) (bytes : List ℕ) (at v next : ℕ) → IsBig n bytes at v next → big_at n bytes at ≡ Ok (v, next)
big_reads n bytes at v next is =
    there bytes at n (big_number n (drop at bytes)) (omega (arith, is.next_is, is.whole)) ∙ ap (λ (w : ℕ). Ok (w, at + n)) is.value_is ∙ ap (λ (m : ℕ). Ok (v, m)) (sym is.next_is)

pub piece_spells : (n : ℕ) (bytes : List ℕ) (at : ℕ) (x : List ℕ × ℕ) → take_at n bytes at ≡ Ok x → IsPiece bytes at x.0 x.1 × (length x.0 ≡ n)
piece_spells n bytes at x e =
    let f = fixed bytes at n (take n (drop at bytes)) x e in
    let len : length x.0 ≡ n = ap length (sym f.1) ∙ length-take-le n (drop at bytes) (omega (arith, f.0, length-drop at bytes)) in
    (record { next_is = sym f.2 ∙ ap (λ (k : ℕ). at + k) (sym len); whole = omega (arith, f.0, f.2); there = ap (λ (k : ℕ). take k (drop at bytes)) len ∙ f.1 }, len)

pub piece_reads : (bytes : List ℕ) (at : ℕ) (piece : List ℕ) (next : ℕ) → IsPiece bytes at piece next → take_at (length piece) bytes at ≡ Ok (piece, next)
piece_reads bytes at piece next is =
    there bytes at (length piece) (take (length piece) (drop at bytes)) (omega (arith, is.next_is, is.whole)) ∙ ap (λ (w : List ℕ). Ok (w, at + length piece)) is.there ∙ ap (λ (m : ℕ). Ok (piece, m)) (sym is.next_is)

-- any bytes of which there are enough
pub skip_spells : (n : ℕ) (bytes : List ℕ) (at : ℕ) (x : List ℕ × ℕ) → take_at n bytes at ≡ Ok x → (x.1 ≡ at + n) × (at + n ≤ length bytes)
skip_spells n bytes at x e = let f = fixed bytes at n (take n (drop at bytes)) x e in (sym f.2, f.0)

pub skip_reads : (n : ℕ) (bytes : List ℕ) (at : ℕ) → at + n ≤ length bytes → take_at n bytes at ≡ Ok (take n (drop at bytes), at + n)
skip_reads n bytes at le = there bytes at n (take n (drop at bytes)) le

pub byte_spells : (bytes : List ℕ) (at : ℕ) (x : ℕ × ℕ) → byte_at bytes at ≡ Ok x → IsByte bytes at x.0 x.1
byte_spells bytes at x e =
    let f = fixed bytes at 1 (slice_index bytes at) x e in
    let first : take 1 (drop at bytes) ≡ slice_index bytes at ∷ [] = ap (take 1) (drop_more bytes at 0 (omega (arith, f.0))) in
    record { next_is = sym f.2; whole = omega (arith, f.0, f.2); there = first ∙ ap (λ (b : ℕ). b ∷ []) f.1 }

abbrev head_or : List ℕ → ℕ
head_or [] = 0
head_or (x ∷ xs) = x

pub byte_reads : (bytes : List ℕ) (at b next : ℕ) → IsByte bytes at b next → byte_at bytes at ≡ Ok (b, next)
byte_reads bytes at b next is =
    let inside : at + 1 ≤ length bytes = omega (arith, is.next_is, is.whole) in
    let same : slice_index bytes at ≡ b = ap head_or (sym (ap (take 1) (drop_more bytes at 0 (omega arith))) ∙ is.there) in
    there bytes at 1 (slice_index bytes at) inside ∙ ap (λ (w : ℕ). Ok (w, at + 1)) same ∙ ap (λ (m : ℕ). Ok (b, m)) (sym is.next_is)

pub groups_spells : NumbersAreSpelled → (bytes : List ℕ) (at : ℕ) (x : ℕ × ℕ) → uleb_at bytes at ≡ Ok x → IsGroups bytes at x.0 x.1
groups_spells law bytes at x e = let s = law bytes at x.0 x.1 e in record { after = omega (arith, s.0); whole = s.1; spelled = s.2 }

pub groups_reads : NumbersAreRead → (bytes : List ℕ) (at v next : ℕ) → IsGroups bytes at v next → uleb_at bytes at ≡ Ok (v, next)
groups_reads law bytes at v next is =
    let len : length (take (next - at) (drop at bytes)) ≡ next - at = length-take-le (next - at) (drop at bytes) (omega (arith, is.after, is.whole, length-drop at bytes)) in
    let end : at + length (take (next - at) (drop at bytes)) ≡ next = omega (arith, len, is.after) in
    law bytes (drop (next - at) (drop at bytes)) (take (next - at) (drop at bytes)) at v is.spelled (sym (take-append-drop (next - at) (drop at bytes))) ∙ ap (λ (m : ℕ). Ok (v, m)) end
