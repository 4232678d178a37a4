use Rattle.std.proofs.Common.{◌≡◌, ◌∙◌, ap, sym, subst, map, List, ℕ, T, Option, Some}
use Rattle.std.specs.FinMap as finmap
use Rattle.cov_table.specs.declared.row.Row.{Row}
use Rattle.cov_table.specs.declared.row.PackageRow.{PackageRow}
use Rattle.cov_table.specs.Key.{Key, key_cmp}
use Rattle.cov_table.specs.Coverage.{Coverage}
use Rattle.cov_table.specs.declared.pod_out.PodOut.{PodOut}
use Rattle.cov_table.specs.PodLaws.{IsSound}
use Rattle.cov_table.specs.PodOf.{pod_of}
use Rattle.cov_table.specs.Rows.{row_entry, package_entry, counts_up_to, greatest_of, packages_in}
use Rattle.cov_table.proofs.PodRows.{pod_is}
use Rattle.cov_table.proofs.PodUnits.{pod_is_table}
use Rattle.cov_table.proofs.Sound.{sound_coverage}
use Rattle.cov_table.proofs.table.Table.to_pod.Goals.{After-drop-rows-2}
use Rattle.cov_table.proofs.table.Table.to_pod.Goals as goal

pub pod_from-requires : goal.pod_from-requires
pod_from-requires c =
    subst (λ (es : List (Key × ℕ)). T (finmap.is_sorted key_cmp es)) (sym (ap (map (row_entry c.self.inside.texts)) c.deref-3.ensures.value ∙ c.in_ok-rows.ensures.entries)) (finmap.entries_sorted _)

made : (c : After-drop-rows-2) → ◌≡◌ {A = Option PodOut} (Some c.in_ok-pod_from.field-0) (pod_of c.args.self.now)
made c =
    let t = c.self.inside in
    let counts : map (row_entry t.texts) c.deref-3.result.now ≡ finmap.entries c.args.self.now.counts =
    ap (map (row_entry t.texts)) c.deref-3.ensures.value
    ∙ c.in_ok-rows.ensures.entries
    ∙ ap (λ (rows : List Row). finmap.entries (counts_up_to (greatest_of t.mode) t.texts rows)) c.deref.ensures.value
    ∙ ap (λ (t : Coverage). finmap.entries t.counts) c.self.view_is in
    let paths : map (package_entry t.texts) c.deref-4.result.now ≡ finmap.entries c.args.self.now.packages =
    ap (map (package_entry t.texts)) c.deref-4.ensures.value
    ∙ c.in_ok-packages.ensures
    ∙ ap (λ (rows : List PackageRow). finmap.entries (packages_in t.texts rows)) c.deref-2.ensures.value
    ∙ ap (λ (t : Coverage). finmap.entries t.packages) c.self.view_is in
    let mode : c.args.self.now.mode ≡ Some c.in-Some.mode = sym (ap (λ (t : Coverage). t.mode) c.self.view_is) ∙ c.in-Some.is in
    ap Some c.in_ok-pod_from.ensures ∙ pod_is c.in-Some.mode t.texts c.deref-3.result.now c.deref-4.result.now c.args.self.now counts paths mode

pub returns-clause-pod : goal.returns-clause-pod
returns-clause-pod c = made c

pub returns-clause-decodes : goal.returns-clause-decodes
returns-clause-decodes c = pod_is_table c.args.self.now c.in_ok-pod_from.field-0 (subst IsSound c.self.view_is (sound_coverage _ _ _ _ c.self.invariant)) (sym (made c))
