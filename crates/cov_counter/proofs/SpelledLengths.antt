-- Reading both parts of stated lengths, and what stands there.
use Rattle.std.proofs.Common.{◌≡◌, ℕ, ◌+◌, ◌≤◌, List, length, take, Ok, refl, sym, ap, ◌∙◌, subst, arith}
use Rattle.cov_bytes.specs.Reading.{take_at, little_at}
use Rattle.cov_bytes.specs.Writing.{padding}
use Rattle.cov_bytes.specs.Laws.{NumbersAreRead, NumbersAreSpelled}
use Rattle.cov_counter.specs.File.{Known, up_to}
use Rattle.cov_counter.specs.Parts.{strings_at, pairs_at, table_at, args_at, behind_padding, parts_at}
use Rattle.cov_counter.specs.Spelling.{IsLittle, IsTable, IsArgs, IsParts}
use Rattle.cov_counter.proofs.Bind.{bind_ok, field_bind, same_ok}
use Rattle.cov_counter.proofs.Fields.{little_spells, little_reads, skip_spells, skip_reads}
use Rattle.cov_counter.proofs.SpelledParts.{table_spells, table_reads, args_spells, args_reads}

-- a part ends where its length says
pub record TableStands (bytes : List ℕ) (len at : ℕ) (x : ℕ × ℕ) : Type 0 where
  pub end_is : x.1 ≡ at + len
  pub whole : at + len ≤ length bytes
  pub table_is : IsTable (take (at + len) bytes) at x.0

table_part : NumbersAreSpelled → (len : ℕ) (file : Known) (at : ℕ) (x : ℕ × ℕ) → table_at len file at ≡ Ok x → TableStands file.bytes len at x
unfolding table_at
table_part law len file at x e =
    let table = field_bind file (take_at len file.bytes at) _ x e in
    let skipped = skip_spells len file.bytes at table.0 table.1 in
    let strings = bind_ok (strings_at (up_to table.0.1 file) at) _ x table.2 in
    let found : ℕ × ℕ = (strings.0.0, table.0.1) in
    let is : IsTable (take table.0.1 file.bytes) at strings.0.0 = table_spells law (up_to table.0.1 file) at strings.0 strings.1 in
    subst (λ (y : ℕ × ℕ). TableStands file.bytes len at y) (same_ok found x strings.2)
    (record { end_is = skipped.0; whole = skipped.1; table_is = subst (λ (n : ℕ). IsTable (take n file.bytes) at strings.0.0) skipped.0 is })

table_there : NumbersAreRead → (len : ℕ) (file : Known) (at strings : ℕ) → at + len ≤ length file.bytes → IsTable (take (at + len) file.bytes) at strings → table_at len file at ≡ Ok (strings, at + len)
unfolding table_at
table_there law len file at strings le is = rw (skip_reads len file.bytes at le, table_reads law (up_to (at + len) file) at strings is) refl

pub record ArgsStand (strings : ℕ) (bytes : List ℕ) (len at : ℕ) (x : ℕ × ℕ) : Type 0 where
  pub end_is : x.1 ≡ at + len
  pub whole : at + len ≤ length bytes
  pub args_are : IsArgs strings (take (at + len) bytes) at x.0

args_part : NumbersAreSpelled → (strings len : ℕ) (file : Known) (at : ℕ) (x : ℕ × ℕ) → args_at strings len file at ≡ Ok x → ArgsStand strings file.bytes len at x
unfolding args_at
args_part law strings len file at x e =
    let args = field_bind file (take_at len file.bytes at) _ x e in
    let skipped = skip_spells len file.bytes at args.0 args.1 in
    let pairs = bind_ok (pairs_at strings (up_to args.0.1 file) at) _ x args.2 in
    let found : ℕ × ℕ = (pairs.0.0, args.0.1) in
    let is : IsArgs strings (take args.0.1 file.bytes) at pairs.0.0 = args_spells law strings (up_to args.0.1 file) at pairs.0 pairs.1 in
    subst (λ (y : ℕ × ℕ). ArgsStand strings file.bytes len at y) (same_ok found x pairs.2)
    (record { end_is = skipped.0; whole = skipped.1; args_are = subst (λ (n : ℕ). IsArgs strings (take n file.bytes) at pairs.0.0) skipped.0 is })

args_there : NumbersAreRead → (strings len : ℕ) (file : Known) (at pairs : ℕ) → at + len ≤ length file.bytes → IsArgs strings (take (at + len) file.bytes) at pairs → args_at strings len file at ≡ Ok (pairs, at + len)
unfolding args_at
args_there law strings len file at pairs le is = rw (skip_reads len file.bytes at le, args_reads law strings (up_to (at + len) file) at pairs is) refl

behind_spells : (file : Known) (at next : ℕ) → behind_padding file at ≡ Ok next → (next ≡ at + padding at) × (at + padding at ≤ length file.bytes)
unfolding behind_padding
behind_spells file at next e =
    let skip = field_bind file (take_at (padding at) file.bytes at) _ next e in
    let skipped = skip_spells (padding at) file.bytes at skip.0 skip.1 in
    (sym (same_ok skip.0.1 next skip.2) ∙ skipped.0, skipped.1)

behind_reads : (file : Known) (at : ℕ) → at + padding at ≤ length file.bytes → behind_padding file at ≡ Ok (at + padding at)
unfolding behind_padding
behind_reads file at le = rw (skip_reads (padding at) file.bytes at le) refl

pub parts_spell : NumbersAreSpelled → (file : Known) (at : ℕ) (x : ℕ × ℕ) → parts_at file at ≡ Ok x → IsParts file.bytes at x.0 x.1
unfolding parts_at
parts_spell law file at x e =
    let table_len = field_bind file (little_at 4 file.bytes at) _ x e in
    let args_len = field_bind file (little_at 4 file.bytes table_len.0.1) _ x table_len.2 in
    let strings = bind_ok (table_at table_len.0.0 file args_len.0.1) _ x args_len.2 in
    let pairs = bind_ok (args_at strings.0.0 args_len.0.0 file strings.0.1) _ x strings.2 in
    let end = bind_ok (behind_padding file pairs.0.1) _ x pairs.2 in
    let found : ℕ × ℕ = (pairs.0.0, end.0) in
    let one = little_spells 4 file.bytes at table_len.0 table_len.1 in
    let two = little_spells 4 file.bytes table_len.0.1 args_len.0 args_len.1 in
    let table = table_part law table_len.0.0 file args_len.0.1 strings.0 strings.1 in
    let args = args_part law strings.0.0 args_len.0.0 file strings.0.1 pairs.0 pairs.1 in
    let last = behind_spells file pairs.0.1 end.0 end.1 in
    let four : table_len.0.1 ≡ at + 4 = one.next_is in
    let eight : args_len.0.1 ≡ at + 8 = omega (arith, one.next_is, two.next_is) in
    let behind_table : strings.0.1 ≡ at + 8 + table_len.0.0 = table.end_is ∙ ap (λ (n : ℕ). n + table_len.0.0) eight in
    let behind_args : pairs.0.1 ≡ at + 8 + table_len.0.0 + args_len.0.0 = args.end_is ∙ ap (λ (n : ℕ). n + args_len.0.0) behind_table in
    let ends : end.0 ≡ at + 8 + table_len.0.0 + args_len.0.0 + padding (at + 8 + table_len.0.0 + args_len.0.0) = last.0 ∙ ap (λ (n : ℕ). n + padding n) behind_args in
    subst (λ (y : ℕ × ℕ). IsParts file.bytes at y.0 y.1) (same_ok found x end.2)
    (record {
      table = table_len.0.0;
      args = args_len.0.0;
      strings = strings.0.0;
      table_stands = subst (λ (n : ℕ). IsLittle 4 file.bytes at table_len.0.0 n) four one;
      args_stand = subst (λ (n : ℕ). IsLittle 4 file.bytes (at + 4) args_len.0.0 n) eight (subst (λ (n : ℕ). IsLittle 4 file.bytes n args_len.0.0 args_len.0.1) four two);
      table_is = subst (λ (n : ℕ). IsTable (take (n + table_len.0.0) file.bytes) n strings.0.0) eight table.table_is;
      args_are = subst (λ (n : ℕ). IsArgs strings.0.0 (take (n + args_len.0.0) file.bytes) n pairs.0.0) behind_table args.args_are;
      next_is = ends;
      whole = omega (arith, last.0, last.1);
    })

pub parts_read : NumbersAreRead → (file : Known) (at pairs next : ℕ) → IsParts file.bytes at pairs next → parts_at file at ≡ Ok (pairs, next)
unfolding parts_at
parts_read law file at pairs next is =
    let table_fits : at + 8 + is.table ≤ length file.bytes = omega (arith, is.next_is, is.whole) in
    let args_fit : at + 8 + is.table + is.args ≤ length file.bytes = omega (arith, is.next_is, is.whole) in
    let end_fits : at + 8 + is.table + is.args + padding (at + 8 + is.table + is.args) ≤ length file.bytes = subst (λ (n : ℕ). n ≤ length file.bytes) is.next_is is.whole in
    rw (
      little_reads 4 file.bytes at is.table (at + 4) is.table_stands,
      little_reads 4 file.bytes (at + 4) is.args (at + 8) is.args_stand,
      table_there law is.table file (at + 8) is.strings table_fits is.table_is,
      args_there law is.strings is.args file (at + 8 + is.table) pairs args_fit is.args_are,
      behind_reads file (at + 8 + is.table + is.args) end_fits,
    ) (ap (λ (n : ℕ). Ok (pairs, n)) (sym is.next_is))
