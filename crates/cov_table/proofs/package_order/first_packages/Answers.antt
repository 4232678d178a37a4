use Rattle.std.proofs.Common.{map, ◌∙◌, ◌≡◌, ℕ, refl, sym, ap, subst, false, ◌<◌, ◌-◌, ◌+◌, length, take, drop, get_or, List, [], ◌∷◌, ◌++◌, arith, rules, is_lt}
use Rattle.std.specs.Ordering.{is_eq}
use Rattle.std.specs.FinMap as finmap
use Rattle.std.specs.declared.cmp.Ordering.TheVariants.{Equal}
use Rattle.std.proofs.Math.ListN.{drop_of_length-le}
use Rattle.cov_table.specs.declared.row.PackageRow.{PackageRow}
use Rattle.cov_table.specs.Key.{text_cmp}
use Rattle.cov_table.specs.Rows.{package_path, package_entry, packages_in, AllPackagesWithin}
use Rattle.cov_table.proofs.Keys.{text_same}
use Rattle.cov_table.proofs.PackageSettling.{keep_step, skip_step, rise_push, turned, rest_at, rest_within, zero_row, within_next, entries_are, nothing_is}
use Rattle.cov_table.proofs.package_order.first_packages.Goals.{then-ne+in_ok-push, else-ne}
use Rattle.cov_table.proofs.package_order.first_packages.Goals as goal

pub returns-in_default-clause-entries : goal.returns-in_default-clause-entries
returns-in_default-clause-entries c = nothing_is c.args.texts.now _ c.args.rows.now c.new-firsts.ensures.items (omega arith)

pub loop-row-preserved : goal.loop-row-preserved
loop-row-preserved c =
    let rest : List PackageRow = take (length c.args.rows.now - 1) (drop 1 c.args.rows.now) in
    let i : ℕ = c.loop-row.row-index in
    let inside : i < length rest = search rules in
    let row : PackageRow = get_or rest i zero_row in
    let next : row ≡ get_or c.args.rows.now (i + 1) zero_row = rest_at c.args.rows.now i zero_row inside in
    let texts = c.args.texts.now in
    elim c.if-ne.branch [
      | then-ne+in_ok-push w ↦
          let apart : is_eq (text_cmp (package_path texts c.loop-row.held) (package_path texts row)) ≡ false = search (rules, w.if-ne.true, c.ne.ensures, c.compare_texts.ensures) in
          let up : is_lt (text_cmp (package_path texts row) (package_path texts c.loop-row.held)) ≡ false =
          subst (λ (r : PackageRow). is_lt (text_cmp (package_path texts r) (package_path texts c.loop-row.held)) ≡ false) (sym next) (subst (λ (k : List ℕ). is_lt (text_cmp (package_path texts (get_or c.args.rows.now (i + 1) zero_row)) k) ≡ false) (sym c.loop-row.invariant.at) (c.requires i zero_row (omega arith) (rest_within c.args.rows.now i inside))) in
          let pushed : w.push.new.self.items ≡ c.loop-row.firsts.items ++ c.loop-row.held ∷ [] = w.in_ok-push.ensures.items in
          rw (w.firsts-is, w.held-is) (record {
            same = keep_step texts c.loop-row.firsts.items w.push.new.self.items c.loop-row.held row rest i zero_row inside refl pushed ∙ c.loop-row.invariant.same;
            within = λ n v. within_next n c.loop-row.firsts.items w.push.new.self.items c.args.rows.now c.loop-row.held row (i + 1) zero_row pushed next (rest_within c.args.rows.now i inside) v (c.loop-row.invariant.within n v);
            rising = rise_push texts c.loop-row.firsts.items w.push.new.self.items c.loop-row.held row pushed (turned (package_path texts c.loop-row.held) (package_path texts row) up apart) c.loop-row.invariant.rising;
            at = ap (package_path texts) next;
          })
      | else-ne w ↦
          let tied : text_cmp (package_path texts c.loop-row.held) (package_path texts row) ≡ Equal = search (rules, w.if-ne.false, c.ne.ensures, c.compare_texts.ensures) in
          rw (w.firsts-is, w.held-is) (record {
            same = skip_step texts c.loop-row.firsts.items c.loop-row.held row rest i zero_row inside refl tied ∙ c.loop-row.invariant.same;
            within = c.loop-row.invariant.within;
            rising = c.loop-row.invariant.rising;
            at = text_same (package_path texts c.loop-row.held) (package_path texts row) tied ∙ ap (package_path texts) next;
          })
    ]

pub returns-clause-within : goal.returns-clause-within
returns-clause-within c = λ n v. subst (AllPackagesWithin n) (sym c.in_ok-push-2.ensures.items) (c.loop-row.invariant.within n v)

pub returns-clause-entries : goal.returns-clause-entries
returns-clause-entries c =
    let texts = c.args.texts.now in
    let rest : List PackageRow = take (length c.args.rows.now - 1) (drop 1 c.args.rows.now) in
    let rows : List PackageRow = c.loop-row.firsts.items ++ c.loop-row.held ∷ [] in
    let pushed : c.push-2.new.self.items ≡ rows = c.in_ok-push-2.ensures.items in
    let same : packages_in texts rows ≡ packages_in texts c.args.rows.now = ap (λ (t : List PackageRow). packages_in texts (c.loop-row.firsts.items ++ c.loop-row.held ∷ t)) (sym (drop_of_length-le rest c.loop-row-test.false)) ∙ c.loop-row.invariant.same in
    ap (map (package_entry texts)) pushed ∙ sym (entries_are texts rows c.loop-row.invariant.rising) ∙ ap finmap.entries same
