use Rattle.std.proofs.Common.{ℕ, List}
use Rattle.cov_meta.specs.declared.meta.MetaPackage.{MetaPackage}
use Rattle.cov_table.specs.Coverage.{package_counts}
use Rattle.cov_table.proofs.Zips.{flat_map_ends, zip_ends}
use Rattle.cov_table.proofs.gather.add_counts.Goals as goal

pub returns-clause-added : goal.returns-clause-added
returns-clause-added c = record {
  within = c.loop-package.invariant.within;
  entries = λ w. flat_map_ends (λ (x : MetaPackage × List (List ℕ)). package_counts x.0 x.1) _ _ _ _ (zip_ends c.loop-package.package-iterator.a c.loop-package.package-iterator.b c.in-None.ensures.steps) (c.loop-package.invariant.entries w);
}
