use Rattle.std.proofs.Common.{◌∙◌}
use Rattle.cov_table.specs.declared.row.PackageRow.{PackageRow}
use Rattle.cov_table.specs.Coverage.{package_of}
use Rattle.cov_table.specs.Rows.{Names}
use Rattle.cov_table.proofs.Zips.{list_step}
use Rattle.cov_table.proofs.Pool.{renamed, extends_trans}
use Rattle.cov_table.proofs.Adding.{package_within, package_entries}
use Rattle.cov_table.proofs.gather.add_packages.Goals as goal

pub loop-package-preserved : goal.loop-package-preserved
loop-package-preserved c =
    let s = c.loop-package.texts in
    let t = c.intern.new.texts in
    let u = c.intern-in-loop-package.new.texts in
    let v = c.intern-in-loop-package-2.new.texts in
    let p = c.package-item.result in
    let i = c.loop-package.invariant in
    let d = c.intern.ensures.kept in
    let e = c.intern-in-loop-package.ensures.kept in
    let g = c.intern-in-loop-package-2.ensures.kept in
    let row : PackageRow = record { path = c.in_ok-path.path; name = c.in_ok-name.name; «module» = c.in_ok-module.module } in
    let x : Names t row.path p.path = renamed _ _ _ _ c.bytes.ensures c.in_ok-path.ensures.found in
    let y : Names u row.name p.name = renamed _ _ _ _ c.bytes-in-loop-package.ensures c.in_ok-name.ensures.found in
    let z : Names v row.module p.module = renamed _ _ _ _ c.bytes-in-loop-package-2.ensures c.in_ok-module.ensures.found in
    record {
      kept = extends_trans _ _ _ i.kept (extends_trans s t v d (extends_trans t u v e g));
      within = λ w. package_within p s t u v c.loop-package.rows.items _ row d e g x y z (i.within w) c.in_ok-push.ensures.items;
      entries = λ w. list_step package_of _ _ p c.args.packages.now c.loop-package.package-index c.loop-package-test.true c.package-item.is (package_entries p s t u v c.loop-package.rows.items _ row d e g x y z (i.within w) c.in_ok-push.ensures.items) ∙ i.entries w;
    }
