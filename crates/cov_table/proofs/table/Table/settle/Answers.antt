use Rattle.std.proofs.Common.{◌≡◌, ◌∙◌, Option, is_some, sym, ap, subst, length, map}
use Rattle.std.specs.FinMap as finmap
use Rattle.cov_outside.specs.declared.mode.Mode.{Mode}
use Rattle.cov_table.specs.Key.{text_cmp}
use Rattle.cov_table.specs.Coverage.{Counts, Packages}
use Rattle.cov_table.specs.Rows.{row_entry, package_entry}
use Rattle.cov_outside.specs.Mode.{greatest}
use Rattle.cov_table.proofs.Covered.{contains_counts, contains_path}
use Rattle.cov_table.proofs.table.Table.settle.Goals as goal

pub invariant_of-self : goal.invariant_of-self
invariant_of-self c = record {
  rows_within = c.settle.ensures.within (length c.self.inside.texts) c.self.invariant.rows_within;
  packages_within = c.self.invariant.packages_within;
  nothing = λ none. cc;
  covered =
      λ key h.
      c.self.invariant.covered key
      (sym (contains_counts (greatest c.in-Some.mode) (map (row_entry c.self.inside.texts) c.self.inside.rows.items) key)
      ∙ ap (λ (m : Counts). finmap.contains_key m key) (sym c.settle.ensures.same)
      ∙ contains_counts (greatest c.in-Some.mode) (map (row_entry c.self.inside.texts) c.settle.new.rows.items) key
      ∙ h);
}

pub invariant_of-self-2 : goal.invariant_of-self-2
invariant_of-self-2 c = record {
  rows_within = c.settle.ensures.within (length c.self.inside.texts) c.self.invariant.rows_within;
  packages_within = c.settle_packages.ensures.within (length c.self.inside.texts) c.self.invariant.packages_within;
  nothing = λ none. cc;
  covered =
      λ key h.
      sym (contains_path (map (package_entry c.self.inside.texts) c.settle_packages.new.rows.items) key.package_path)
      ∙ ap (λ (m : Packages). finmap.contains_key m key.package_path) c.settle_packages.ensures.same
      ∙ contains_path (map (package_entry c.self.inside.texts) c.self.inside.packages.items) key.package_path
      ∙ c.self.invariant.covered key
      (sym (contains_counts (greatest c.in-Some.mode) (map (row_entry c.self.inside.texts) c.self.inside.rows.items) key)
      ∙ ap (λ (m : Counts). finmap.contains_key m key) (sym c.settle.ensures.same)
      ∙ contains_counts (greatest c.in-Some.mode) (map (row_entry c.self.inside.texts) c.settle.new.rows.items) key
      ∙ h);
}
