-- Reading the head of a blob and its spelling.
use Rattle.std.proofs.Common.{◌≡◌, ℕ, ◌+◌, ◌≤◌, List, length, take, drop, Ok, refl, sym, ap, ◌∙◌, subst, arith}
use Rattle.std.specs.Prelude.{nat_lt}
use Rattle.std.proofs.lemmas.Bool.{ltb-false, le-ltb}
use Rattle.byteorder.specs.Endian.{little_number}
use Rattle.cov_outside.specs.declared.limit.Which.TheVariants.{Functions}
use Rattle.cov_bytes.specs.Reading.{little_at, take_at}
use Rattle.cov_meta.specs.declared.fault.MetaFault.TheVariants.{Limit}
use Rattle.cov_meta.specs.declared.blob.TextNumbers.{TextNumbers}
use Rattle.cov_meta.specs.Fault.{field}
use Rattle.cov_meta.specs.Blob.{numbers_at, functions_count_at}
use Rattle.cov_meta.specs.Spelling.{IsFixed}
use Rattle.cov_meta.proofs.Bind.{bind_ok, field_ok, same_ok, passed}
use Rattle.cov_meta.proofs.SpelledNumbers.{fixed_reads}
use Rattle.cov_meta.proofs.SpelledTexts.{taken}
use Rattle.cov_meta.proofs.SpelledOffsets.{fixed}

-- the same number, its offsets written otherwise
pub moved : (width : ℕ) (bytes : List ℕ) (at value next at' next' : ℕ) → at ≡ at' → next ≡ next' → IsFixed width bytes at value next → IsFixed width bytes at' value next'
moved width bytes at value next at' next' same same_next s =
    record { next_is = omega (arith, s.next_is); whole = omega (arith, s.whole); value_is = ap (λ (n : ℕ). little_number width (drop n bytes)) (sym same) ∙ s.value_is }

-- what isn't looked at
pub skipped : (width : ℕ) (bytes : List ℕ) (at : ℕ) → at + width ≤ length bytes → little_at width bytes at ≡ Ok (little_number width (drop at bytes), at + width)
skipped width bytes at enough = rw (le-ltb (length bytes) (at + width) enough) refl

pub passed_over : (n : ℕ) (bytes : List ℕ) (at : ℕ) → at + n ≤ length bytes → take_at n bytes at ≡ Ok (take n (drop at bytes), at + n)
passed_over n bytes at enough = rw (le-ltb (length bytes) (at + n) enough) refl

-- the three numbers of a package's texts
pub record Numbers (bytes : List ℕ) (start : ℕ) (n : TextNumbers) (next : ℕ) : Type 0 where
  pub name : IsFixed 4 bytes (start + 4) n.name (start + 8)
  pub path : IsFixed 4 bytes (start + 8) n.path (start + 12)
  pub module_path : IsFixed 4 bytes (start + 12) n.«module» (start + 16)
  pub next_is : next ≡ start + 16

pub numbers_spell : (bytes : List ℕ) (start : ℕ) (n : TextNumbers) (next : ℕ) → numbers_at bytes start ≡ Ok (n, next) → Numbers bytes start n next
unfolding numbers_at
numbers_spell bytes start n next e =
    let size = bind_ok (field (little_at 4 bytes start)) _ _ e in
    let name = bind_ok (field (little_at 4 bytes size.0.1)) _ _ size.2 in
    let path = bind_ok (field (little_at 4 bytes name.0.1)) _ _ name.2 in
    let module_path = bind_ok (field (little_at 4 bytes path.0.1)) _ _ path.2 in
    let s = fixed 4 bytes start size.0 size.1 in
    let a = fixed 4 bytes size.0.1 name.0 name.1 in
    let b = fixed 4 bytes name.0.1 path.0 path.1 in
    let c = fixed 4 bytes path.0.1 module_path.0 module_path.1 in
    let s4 : size.0.1 ≡ start + 4 = s.next_is in
    let a8 : name.0.1 ≡ start + 8 = omega (arith, a.next_is) in
    let b12 : path.0.1 ≡ start + 12 = omega (arith, b.next_is) in
    let c16 : module_path.0.1 ≡ start + 16 = omega (arith, c.next_is) in
    subst (λ (y : TextNumbers × ℕ). Numbers bytes start y.0 y.1) (same_ok _ _ module_path.2)
    (record {
      name = moved 4 bytes size.0.1 name.0.0 name.0.1 (start + 4) (start + 8) s4 a8 a;
      path = moved 4 bytes name.0.1 path.0.0 path.0.1 (start + 8) (start + 12) a8 b12 b;
      module_path = moved 4 bytes path.0.1 module_path.0.0 module_path.0.1 (start + 12) (start + 16) b12 c16 c;
      next_is = c16;
    })

pub numbers_read : (bytes : List ℕ) (start : ℕ) (n : TextNumbers) → Numbers bytes start n (start + 16) → numbers_at bytes start ≡ Ok (n, start + 16)
unfolding numbers_at
numbers_read bytes start n s =
    let enough : start + 4 ≤ length bytes = omega (arith, s.name.whole) in
    rw (skipped 4 bytes start enough, fixed_reads 4 bytes (start + 4) n.name (start + 8) s.name, fixed_reads 4 bytes (start + 8) n.path (start + 12) s.path, fixed_reads 4 bytes (start + 12) n.«module» (start + 16) s.module_path) refl

pub count_spells : (functions : ℕ) (bytes : List ℕ) (at count next : ℕ) → functions_count_at functions bytes at ≡ Ok (count, next) → IsFixed 4 bytes (at + 24) count (at + 28) × (next ≡ at + 28) × (count ≤ functions)
unfolding functions_count_at
count_spells functions bytes at count next e =
    let hash = bind_ok (field (take_at 16 bytes at)) _ _ e in
    let unused = bind_ok (field (little_at 4 bytes hash.0.1)) _ _ hash.2 in
    let files = bind_ok (field (little_at 4 bytes unused.0.1)) _ _ unused.2 in
    let number = bind_ok (field (little_at 4 bytes files.0.1)) _ _ files.2 in
    let test = passed (nat_lt functions number.0.0) (Limit Functions) _ (count, next) number.2 in
    let h = taken 16 bytes at hash.0 (field_ok (take_at 16 bytes at) hash.0 hash.1) in
    let u = fixed 4 bytes hash.0.1 unused.0 unused.1 in
    let f = fixed 4 bytes unused.0.1 files.0 files.1 in
    let n = fixed 4 bytes files.0.1 number.0 number.1 in
    let h16 : hash.0.1 ≡ at + 16 = omega (arith, h.0, h.2) in
    let f24 : files.0.1 ≡ at + 24 = omega (arith, u.next_is, f.next_is) in
    let n28 : number.0.1 ≡ at + 28 = omega (arith, n.next_is) in
    subst (λ (y : ℕ × ℕ). IsFixed 4 bytes (at + 24) y.0 (at + 28) × (y.1 ≡ at + 28) × (y.0 ≤ functions)) (same_ok _ _ test.1)
    (moved 4 bytes files.0.1 number.0.0 number.0.1 (at + 24) (at + 28) f24 n28 n, n28, ltb-false functions number.0.0 test.0)

pub count_reads : (functions : ℕ) (bytes : List ℕ) (at count : ℕ) → IsFixed 4 bytes (at + 24) count (at + 28) → count ≤ functions → functions_count_at functions bytes at ≡ Ok (count, at + 28)
unfolding functions_count_at
count_reads functions bytes at count s few =
    let first : at + 16 ≤ length bytes = omega (arith, s.whole) in
    let second : (at + 16) + 4 ≤ length bytes = omega (arith, s.whole) in
    let third : ((at + 16) + 4) + 4 ≤ length bytes = omega (arith, s.whole) in
    let last = moved 4 bytes (at + 24) count (at + 28) (((at + 16) + 4) + 4) (at + 28) (omega arith) refl s in
    rw (passed_over 16 bytes at first, skipped 4 bytes (at + 16) second, skipped 4 bytes ((at + 16) + 4) third, fixed_reads 4 bytes (((at + 16) + 4) + 4) count (at + 28) last, le-ltb functions count few) refl
