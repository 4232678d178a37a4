-- Reading entries and their spelling.
use Rattle.std.proofs.Common.{◌≡◌, ℕ, ◌≤◌, length, Ok, refl, sym, ap, subst}
use Rattle.std.specs.Prelude.{Bool, true, false, nat_lt, if◌then◌else◌, ◌==◌, MatchBool}
use Rattle.std.proofs.lemmas.Bool.{ltb-false, le-ltb}
use Rattle.cov_bytes.specs.Reading.{little_at, big_at, uleb_at}
use Rattle.cov_bytes.specs.Laws.{NumbersAreRead, NumbersAreSpelled}
use Rattle.cov_bytes.specs.Many.{many}
use Rattle.cov_outside.specs.declared.limit.Which.TheVariants.{Units}
use Rattle.cov_counter.specs.declared.fault.CounterFault.TheVariants.{Limit}
use Rattle.cov_counter.specs.declared.head.Head.{Head}
use Rattle.cov_counter.specs.declared.entry.Entry.{Entry}
use Rattle.cov_counter.specs.File.{Known, field}
use Rattle.cov_counter.specs.Entry.{number_at, length_at, entry_at}
use Rattle.cov_counter.specs.Spelling.{IsLittle, IsBig, IsGroups, IsNumber, IsEntry}
use Rattle.cov_counter.proofs.Bind.{bind_ok, field_ok, same_ok, passed}
use Rattle.cov_counter.proofs.Fields.{little_spells, little_reads, big_spells, big_reads, groups_spells, groups_reads}
use Rattle.cov_counter.proofs.Turns.{many_spells, many_reads}

number_spells : NumbersAreSpelled → (head : Head) (file : Known) (at : ℕ) (x : ℕ × ℕ) → number_at head file at ≡ Ok x → IsNumber head file.bytes at x.0 x.1
unfolding number_at
number_spells law head file at x e = cases (head.flavour == 2) head.big e
  where
    cases : (ulebs big : Bool) → (if ulebs then field file (uleb_at file.bytes at) else if big then field file (big_at 4 file.bytes at) else field file (little_at 4 file.bytes at)) ≡ Ok x
        → MatchBool ulebs (IsGroups file.bytes at x.0 x.1) (MatchBool big (IsBig 4 file.bytes at x.0 x.1) (IsLittle 4 file.bytes at x.0 x.1))
    cases true big e = groups_spells law file.bytes at x (field_ok file (uleb_at file.bytes at) x e)
    cases false true e = big_spells 4 file.bytes at x (field_ok file (big_at 4 file.bytes at) x e)
    cases false false e = little_spells 4 file.bytes at x (field_ok file (little_at 4 file.bytes at) x e)

number_reads : NumbersAreRead → (head : Head) (file : Known) (at v next : ℕ) → IsNumber head file.bytes at v next → number_at head file at ≡ Ok (v, next)
unfolding number_at
number_reads law head file at v next is = cases (head.flavour == 2) head.big is
  where
    cases : (ulebs big : Bool) → MatchBool ulebs (IsGroups file.bytes at v next) (MatchBool big (IsBig 4 file.bytes at v next) (IsLittle 4 file.bytes at v next))
        → (if ulebs then field file (uleb_at file.bytes at) else if big then field file (big_at 4 file.bytes at) else field file (little_at 4 file.bytes at)) ≡ Ok (v, next)
    cases true big is = ap (field file) (groups_reads law file.bytes at v next is)
    cases false true is = ap (field file) (big_reads 4 file.bytes at v next is)
    cases false false is = ap (field file) (little_reads 4 file.bytes at v next is)

length_spells : NumbersAreSpelled → (head : Head) (file : Known) (at : ℕ) (x : ℕ × ℕ) → length_at head file at ≡ Ok x → (x.0 ≤ 1048576) × IsNumber head file.bytes at x.0 x.1
unfolding length_at
length_spells law head file at x e =
    let n = bind_ok (number_at head file at) _ x e in
    let got = passed (nat_lt 1048576 n.0.0) (Limit Units) (Ok n.0) x n.2 in
    subst (λ (y : ℕ × ℕ). (y.0 ≤ 1048576) × IsNumber head file.bytes at y.0 y.1) (same_ok n.0 x got.1) (ltb-false 1048576 n.0.0 got.0, number_spells law head file at n.0 n.1)

length_reads : NumbersAreRead → (head : Head) (file : Known) (at v next : ℕ) → v ≤ 1048576 → IsNumber head file.bytes at v next → length_at head file at ≡ Ok (v, next)
unfolding length_at
length_reads law head file at v next le is = rw (number_reads law head file at v next is, le-ltb 1048576 v le) refl

pub entry_spells : NumbersAreSpelled → (head : Head) (file : Known) (at : ℕ) (x : Entry × ℕ) → entry_at head file at ≡ Ok x → IsEntry head file.bytes at x.0 x.1
unfolding entry_at
entry_spells law head file at x e =
    let len = bind_ok (length_at head file at) _ x e in
    let place = bind_ok (number_at head file len.0.1) _ x len.2 in
    let function = bind_ok (number_at head file place.0.1) _ x place.2 in
    let counts = bind_ok (many (number_at head file) len.0.0 function.0.1) _ x function.2 in
    let found : Entry × ℕ = (record { «package» = place.0.0; function = function.0.0; counts = counts.0.0 }, counts.0.1) in
    let first = length_spells law head file at len.0 len.1 in
    let second = number_spells law head file len.0.1 place.0 place.1 in
    let third = number_spells law head file place.0.1 function.0 function.1 in
    let others = many_spells (number_at head file) (IsNumber head file.bytes) (number_spells law head file) len.0.0 function.0.1 counts.0 counts.1 in
    subst (λ (y : Entry × ℕ). IsEntry head file.bytes at y.0 y.1) (same_ok found x counts.2)
    (record {
      few = subst (λ (n : ℕ). n ≤ 1048576) (sym others.0) first.0;
      numbers_are = (len.0.1, subst (λ (n : ℕ). IsNumber head file.bytes at n len.0.1) (sym others.0) first.1, (place.0.1, second, (function.0.1, third, others.1)));
    })

pub entry_reads : NumbersAreRead → (head : Head) (file : Known) (at : ℕ) (entry : Entry) (next : ℕ) → IsEntry head file.bytes at entry next → entry_at head file at ≡ Ok (entry, next)
unfolding entry_at
entry_reads law head file at entry next is =
    let one = is.numbers_are in
    let two = one.2 in
    let three = two.2 in
    rw (
      length_reads law head file at (length entry.counts) one.0 is.few one.1,
      number_reads law head file one.0 entry.«package» two.0 two.1,
      number_reads law head file two.0 entry.function three.0 three.1,
      many_reads (number_at head file) (IsNumber head file.bytes) (number_reads law head file) three.0 entry.counts next three.2,
    ) refl
