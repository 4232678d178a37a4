-- The lengths of a meta file that was read have 32 bits.
use Rattle.std.proofs.Common.{ℕ, ◌<◌, ◌≤◌, ◌^◌, List, length, get_or, arith}
use Rattle.std.specs.Prelude.{sum_by}
use Rattle.std.proofs.lemmas.List.Sums.{sum_by_more_le}
use Rattle.cov_meta.specs.declared.meta.MetaFile.{MetaFile}
use Rattle.cov_meta.specs.declared.meta.MetaFunction.{MetaFunction}
use Rattle.cov_meta.specs.declared.meta.MetaPackage.{MetaPackage}
use Rattle.cov_meta.specs.Spelling.{Spells}
use Rattle.cov_pods.specs.Fits.{HasShortParts}

part_of_sum : {X : Type 0} (f : X → ℕ) (xs : List X) (i : ℕ) (d : X) → i < length xs → f (get_or xs i d) ≤ sum_by f xs
part_of_sum f xs i d lt = omega (arith, sum_by_more_le f xs i d lt)

pub short_parts : (bytes : List ℕ) (file : MetaFile) → Spells bytes file → HasShortParts file.meta
short_parts bytes file spells =
    let limits = spells.limits in
    record {
      few_packages = omega (arith, limits.few_packages);
      few_functions = λ i d lt. omega (arith, limits.few_functions, part_of_sum (λ (p : MetaPackage). length p.functions) file.meta.packages i d lt);
      few_units = λ i d lt j e within. units (get_or file.meta.packages i d) (omega (arith, limits.few_units, part_of_sum (λ (p : MetaPackage). sum_by (λ (f : MetaFunction). length f.units) p.functions) file.meta.packages i d lt)) j e within;
    }
  where
    units : (p : MetaPackage) → sum_by (λ (f : MetaFunction). length f.units) p.functions ≤ 1048576 → (j : ℕ) (e : MetaFunction) → j < length p.functions → length (get_or p.functions j e).units < 2 ^ 32
    units p few j e within = omega (arith, few, part_of_sum (λ (f : MetaFunction). length f.units) p.functions j e within)
