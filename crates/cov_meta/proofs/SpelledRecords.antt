-- Reading the records of a blob and their spelling.
use Rattle.std.proofs.Common.{◌≡◌, ℕ, ◌+◌, ◌-◌, ◌≤◌, List, [], ◌∷◌, length, Result, Ok, refl, ap, subst, arith}
use Rattle.std.specs.Prelude.{nat_lt, sum_by, map}
use Rattle.std.specs.List.{AllZip}
use Rattle.std.proofs.lemmas.Bool.{le-ltb}
use Rattle.std.proofs.lemmas.List.Sums.{sum_by-cons}
use Rattle.cov_outside.specs.declared.data_kind.DataKind.TheVariants as kinds
use Rattle.cov_meta.specs.declared.fault.MetaFault.{MetaFault}
use Rattle.cov_meta.specs.declared.fault.MetaFault.TheVariants.{At}
use Rattle.cov_meta.specs.declared.entries.OffsetField.{OffsetField}
use Rattle.cov_meta.specs.declared.meta.MetaFunction.{MetaFunction}
use Rattle.cov_meta.specs.Each.{each}
use Rattle.cov_meta.specs.Function.{function_at, placed_function, functions_at}
use Rattle.cov_meta.specs.Spelling.{IsFunction}
use Rattle.cov_meta.proofs.Bind.{bind_ok, same_ok, passed}
use Rattle.cov_meta.proofs.SpelledTexts.{uleb_within}
use Rattle.cov_meta.proofs.SpelledFunction.{function_spells, function_reads}

abbrev pub units_of : List MetaFunction → ℕ
units_of fs = sum_by (λ f. length f.units) fs

-- a record that stands at an offset from start
abbrev pub StandsFrom : List (List ℕ) → List ℕ → ℕ → ℕ → MetaFunction → Type 0
StandsFrom texts bytes start offset f = IsFunction texts bytes (start + offset) f

placed_spells : (texts : List (List ℕ)) (bytes : List ℕ) (start : ℕ) (place : OffsetField) (units : ℕ) (f : MetaFunction) (left : ℕ) → placed_function texts bytes start place units ≡ Ok (f, left)
    → IsFunction texts bytes (start + place.offset) f × (length f.units ≤ units) × (left ≡ units - length f.units)
unfolding placed_function
placed_spells texts bytes start place units f left e =
    let test = passed (nat_lt (length bytes) (start + place.offset)) (At place.at kinds.Short) _ (f, left) e in
    let read = bind_ok (function_at texts units bytes (start + place.offset)) _ _ test.1 in
    let there = function_spells texts units bytes (start + place.offset) read.0.0 read.0.1 read.1 in
    subst (λ (y : MetaFunction × ℕ). IsFunction texts bytes (start + place.offset) y.0 × (length y.0.units ≤ units) × (y.1 ≡ units - length y.0.units)) (same_ok _ _ read.2)
    (there.0, there.1, refl)

placed_reads : (texts : List (List ℕ)) (bytes : List ℕ) (start : ℕ) (place : OffsetField) (units : ℕ) (f : MetaFunction) → IsFunction texts bytes (start + place.offset) f → length f.units ≤ units
    → placed_function texts bytes start place units ≡ Ok (f, units - length f.units)
unfolding placed_function
placed_reads texts bytes start place units f s few =
    let first = s.numbers_stand.1 in
    let within = uleb_within bytes (start + place.offset) (length f.units) s.numbers_stand.0 first in
    let inside : start + place.offset ≤ length bytes = omega (arith, first.next_is) in
    rw (le-ltb (length bytes) (start + place.offset) inside, function_reads texts units bytes (start + place.offset) f s few) refl

-- records that were read are spelled, and have no more units than may still come
pub functions_spell : (texts : List (List ℕ)) (bytes : List ℕ) (start : ℕ) (places : List OffsetField) (units : ℕ) (fs : List MetaFunction) (left : ℕ) → functions_at texts bytes start places units ≡ Ok (fs, left)
    → AllZip (StandsFrom texts bytes start) (map (λ p. p.offset) places) fs × (length fs ≡ length places) × (units_of fs ≤ units) × (left ≡ units - units_of fs)
unfolding functions_at each
functions_spell texts bytes start [] units fs left e =
    let begin : List MetaFunction × ℕ = ([], units) in
    subst (λ (y : List MetaFunction × ℕ). AllZip (StandsFrom texts bytes start) [] y.0 × (length y.0 ≡ 0) × (units_of y.0 ≤ units) × (y.1 ≡ units - units_of y.0)) (same_ok begin (fs, left) e)
    (tt, refl, omega arith, omega arith)
functions_spell texts bytes start (p ∷ ps) units fs left e =
    let first = bind_ok (placed_function texts bytes start p units) _ _ e in
    let others = bind_ok (each (placed_function texts bytes start) ps first.0.1) _ _ first.2 in
    let one = placed_spells texts bytes start p units first.0.0 first.0.1 first.1 in
    let rest = functions_spell texts bytes start ps first.0.1 others.0.0 others.0.1 others.1 in
    let total = sum_by-cons (λ f. length f.units) first.0.0 others.0.0 in
    let few : length first.0.0.units ≤ units = one.1 in
    let after : first.0.1 ≡ units - length first.0.0.units = one.2 in
    let rest_few : units_of others.0.0 ≤ first.0.1 = rest.2 in
    let rest_after : others.0.1 ≡ first.0.1 - units_of others.0.0 = rest.3 in
    subst (λ (y : List MetaFunction × ℕ). AllZip (StandsFrom texts bytes start) (p.offset ∷ map (λ p. p.offset) ps) y.0 × (length y.0 ≡ length (p ∷ ps)) × (units_of y.0 ≤ units) × (y.1 ≡ units - units_of y.0)) (same_ok _ _ others.2)
    ((one.0, rest.0), omega (arith, rest.1), omega arith, omega arith)

-- records that are spelled and have no more units than may still come are read
pub functions_read : (texts : List (List ℕ)) (bytes : List ℕ) (start : ℕ) (places : List OffsetField) (units : ℕ) (fs : List MetaFunction) → AllZip (StandsFrom texts bytes start) (map (λ p. p.offset) places) fs
    → units_of fs ≤ units → functions_at texts bytes start places units ≡ Ok (fs, units - units_of fs)
unfolding functions_at each
functions_read texts bytes start [] units [] z few =
    let made : ℕ → Result (List MetaFunction × ℕ) MetaFault = λ n. Ok ([], n) in
    let all : units ≡ units - 0 = omega arith in
    ap made all
functions_read texts bytes start [] units (f ∷ fs) z few = absurd z
functions_read texts bytes start (p ∷ ps) units [] z few = absurd z
functions_read texts bytes start (p ∷ ps) units (f ∷ fs) z few =
    let total = sum_by-cons (λ f. length f.units) f fs in
    let one : length f.units ≤ units = omega arith in
    let rest : units_of fs ≤ units - length f.units = omega arith in
    let made : ℕ → Result (List MetaFunction × ℕ) MetaFault = λ n. Ok (f ∷ fs, n) in
    let left : (units - length f.units) - units_of fs ≡ units - units_of (f ∷ fs) = omega arith in
    rw (placed_reads texts bytes start p units f z.0 one, functions_read texts bytes start ps (units - length f.units) fs z.1 rest) (ap made left)
