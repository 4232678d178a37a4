-- Reading the string table and the arguments, and their spelling.
use Rattle.std.proofs.Common.{◌≡◌, ℕ, List, Ok, refl, sym, ap, ◌∙◌, subst, arith}
use Rattle.std.specs.Prelude.{nat_lt}
use Rattle.std.proofs.lemmas.Bool.{ltb-true, lt-ltb}
use Rattle.cov_bytes.specs.Reading.{take_at, uleb_at}
use Rattle.cov_bytes.specs.Laws.{NumbersAreRead, NumbersAreSpelled}
use Rattle.cov_outside.specs.declared.data_kind.DataKind.TheVariants as kinds
use Rattle.cov_counter.specs.declared.fault.CounterFault.TheVariants.{At}
use Rattle.cov_counter.specs.Each.{each}
use Rattle.cov_counter.specs.File.{Known}
use Rattle.cov_counter.specs.Parts.{behind_string, strings_at, behind_index, behind_pair, pairs_at}
use Rattle.cov_counter.specs.Spelling.{IsGroups, IsString, IsTable, IsIndex, IsArgs}
use Rattle.cov_counter.proofs.Bind.{bind_ok, field_bind, same_ok, chosen}
use Rattle.cov_counter.proofs.Fields.{groups_spells, groups_reads, skip_spells, skip_reads}
use Rattle.cov_counter.proofs.Turns.{each_spells, each_reads}

pub string_spells : NumbersAreSpelled → (file : Known) (at next : ℕ) → behind_string file at ≡ Ok next → IsString file.bytes at next
unfolding behind_string
string_spells law file at next e =
    let len = field_bind file (uleb_at file.bytes at) _ next e in
    let text = field_bind file (take_at len.0.0 file.bytes len.0.1) _ next len.2 in
    let skipped = skip_spells len.0.0 file.bytes len.0.1 text.0 text.1 in
    let end = same_ok text.0.1 next text.2 in
    record { size = len.0.0; begin = len.0.1; size_is = groups_spells law file.bytes at len.0 len.1; next_is = sym end ∙ skipped.0; whole = omega (arith, end, skipped.0, skipped.1) }

pub string_reads : NumbersAreRead → (file : Known) (at next : ℕ) → IsString file.bytes at next → behind_string file at ≡ Ok next
unfolding behind_string
string_reads law file at next is =
    rw (groups_reads law file.bytes at is.size is.begin is.size_is, skip_reads is.size file.bytes is.begin (omega (arith, is.next_is, is.whole))) (ap Ok (sym is.next_is))

pub table_spells : NumbersAreSpelled → (file : Known) (at : ℕ) (x : ℕ × ℕ) → strings_at file at ≡ Ok x → IsTable file.bytes at x.0
unfolding strings_at
table_spells law file at x e =
    let count = field_bind file (uleb_at file.bytes at) _ x e in
    let end = bind_ok (each (behind_string file) count.0.0 count.0.1) _ x count.2 in
    let found : ℕ × ℕ = (count.0.0, end.0) in
    subst (λ (y : ℕ × ℕ). IsTable file.bytes at y.0) (same_ok found x end.2)
    (record { begin = count.0.1; behind = end.0; count_is = groups_spells law file.bytes at count.0 count.1; strings_are = each_spells (behind_string file) (IsString file.bytes) (string_spells law file) count.0.0 count.0.1 end.0 end.1 })

-- a table, and the offset behind its last string
pub table_reads : NumbersAreRead → (file : Known) (at strings : ℕ) → (is : IsTable file.bytes at strings) → strings_at file at ≡ Ok (strings, is.behind)
unfolding strings_at
table_reads law file at strings is =
    rw (groups_reads law file.bytes at strings is.begin is.count_is, each_reads (behind_string file) (IsString file.bytes) (string_reads law file) strings is.begin is.behind is.strings_are) refl

index_spells : NumbersAreSpelled → (strings : ℕ) (file : Known) (at next : ℕ) → behind_index strings file at ≡ Ok next → IsIndex strings file.bytes at next
unfolding behind_index
index_spells law strings file at next e =
    let i = field_bind file (uleb_at file.bytes at) _ next e in
    let got = chosen (nat_lt i.0.0 strings) (At at (kinds.BadString i.0.0 strings)) (Ok i.0.1) next i.2 in
    let end = same_ok i.0.1 next got.1 in
    record { index = i.0.0; index_is = subst (λ (n : ℕ). IsGroups file.bytes at i.0.0 n) end (groups_spells law file.bytes at i.0 i.1); among = ltb-true i.0.0 strings got.0 }

index_reads : NumbersAreRead → (strings : ℕ) (file : Known) (at next : ℕ) → IsIndex strings file.bytes at next → behind_index strings file at ≡ Ok next
unfolding behind_index
index_reads law strings file at next is = rw (groups_reads law file.bytes at is.index next is.index_is, lt-ltb is.index strings is.among) refl

abbrev pub IsPair : ℕ → List ℕ → ℕ → ℕ → Type 0
IsPair strings bytes i j = (middle : ℕ) × IsIndex strings bytes i middle × IsIndex strings bytes middle j

pair_spells : NumbersAreSpelled → (strings : ℕ) (file : Known) (at next : ℕ) → behind_pair strings file at ≡ Ok next → IsPair strings file.bytes at next
unfolding behind_pair
pair_spells law strings file at next e =
    let name = bind_ok (behind_index strings file at) _ next e in
    (name.0, index_spells law strings file at name.0 name.1, index_spells law strings file name.0 next name.2)

pair_reads : NumbersAreRead → (strings : ℕ) (file : Known) (at next : ℕ) → IsPair strings file.bytes at next → behind_pair strings file at ≡ Ok next
unfolding behind_pair
pair_reads law strings file at next is = rw (index_reads law strings file at is.0 is.1) (index_reads law strings file is.0 next is.2)

pub args_spells : NumbersAreSpelled → (strings : ℕ) (file : Known) (at : ℕ) (x : ℕ × ℕ) → pairs_at strings file at ≡ Ok x → IsArgs strings file.bytes at x.0
unfolding pairs_at
args_spells law strings file at x e =
    let count = field_bind file (uleb_at file.bytes at) _ x e in
    let end = bind_ok (each (behind_pair strings file) count.0.0 count.0.1) _ x count.2 in
    let found : ℕ × ℕ = (count.0.0, end.0) in
    subst (λ (y : ℕ × ℕ). IsArgs strings file.bytes at y.0) (same_ok found x end.2)
    (record { begin = count.0.1; behind = end.0; count_is = groups_spells law file.bytes at count.0 count.1; pairs_are = each_spells (behind_pair strings file) (IsPair strings file.bytes) (pair_spells law strings file) count.0.0 count.0.1 end.0 end.1 })

pub args_reads : NumbersAreRead → (strings : ℕ) (file : Known) (at pairs : ℕ) → (is : IsArgs strings file.bytes at pairs) → pairs_at strings file at ≡ Ok (pairs, is.behind)
unfolding pairs_at
args_reads law strings file at pairs is =
    rw (groups_reads law file.bytes at pairs is.begin is.count_is, each_reads (behind_pair strings file) (IsPair strings file.bytes) (pair_reads law strings file) pairs is.begin is.behind is.pairs_are) refl
