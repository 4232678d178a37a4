use Rattle.std.proofs.Common.{ℕ, List, ◌∙◌, ap, ◌++◌, rules}
use Rattle.cov_meta.specs.declared.meta.MetaFunction.{MetaFunction}
use Rattle.cov_table.specs.Coverage.{function_counts}
use Rattle.cov_table.specs.Rows.{Names, unit_rows}
use Rattle.cov_table.proofs.Zips.{flat_map_step, flat_map_ends, zip_ends}
use Rattle.cov_table.proofs.Pool.{renamed, extends_trans, names_kept, within_kept, entries_kept}
use Rattle.cov_table.proofs.Adding.{function_within, function_entries}
use Rattle.cov_table.proofs.gather.add_functions.Goals as goal

pub loop-function-init : goal.loop-function-init
loop-function-init c = record {
  kept = c.intern.ensures.kept;
  named = renamed _ _ _ _ c.bytes.ensures c.in_ok-package_path.ensures.found;
  within = λ w. within_kept _ _ _ c.intern.ensures.kept w;
  entries = λ w. rw (entries_kept _ _ _ c.intern.ensures.kept w) (search rules);
}

pub loop-function-preserved : goal.loop-function-preserved
loop-function-preserved c =
    let s = c.loop-function.texts in
    let t = c.intern-in-loop-function.new.texts in
    let u = c.intern-in-loop-function-2.new.texts in
    let i = c.loop-function.invariant in
    let d = c.intern-in-loop-function.ensures.kept in
    let e = c.intern-in-loop-function-2.ensures.kept in
    let y : Names t c.in_ok-file.file c.in-Some.function.now.file = renamed _ _ _ _ c.bytes-in-loop-function.ensures c.in_ok-file.ensures.found in
    let z : Names u c.in_ok-name.name c.in-Some.function.now.name = renamed _ _ _ _ c.bytes-in-loop-function-2.ensures c.in_ok-name.ensures.found in
    let h = c.in_ok-add_units.ensures ∙ ap (λ (n : List ℕ). c.loop-function.rows.items ++ unit_rows c.in_ok-package_path.package_path c.in_ok-file.file c.in_ok-name.name c.in-Some.function.now n) c.as_slice-in-loop-function.ensures in
    record {
      kept = extends_trans _ _ _ i.kept (extends_trans s t u d e);
      named = names_kept s u _ _ (extends_trans s t u d e) i.named;
      within = λ w. function_within c.args.from.now c.in-Some.function.now c.in-Some.counts.now s t u c.loop-function.rows.items _ _ _ _ d e i.named y z (i.within w) h;
      entries = λ w. flat_map_step (λ (x : MetaFunction × List ℕ). function_counts c.args.from.now x.0 x.1) _ _ c.in-Some.function.now _ _ c.in-Some.counts.now _ _ c.in-Some.ensures.steps.0 c.in-Some.ensures.steps.1
          (function_entries c.args.from.now c.in-Some.function.now c.in-Some.counts.now s t u c.loop-function.rows.items _ _ _ _ d e i.named y z (i.within w) h) ∙ i.entries w;
    }

pub returns-clause-added : goal.returns-clause-added
returns-clause-added c = record {
  within = c.loop-function.invariant.within;
  entries = λ w. flat_map_ends (λ (x : MetaFunction × List ℕ). function_counts c.args.from.now x.0 x.1) _ _ _ _ (zip_ends c.loop-function.function-iterator.a c.loop-function.function-iterator.b c.in-None.ensures.steps) (c.loop-function.invariant.entries w);
}
