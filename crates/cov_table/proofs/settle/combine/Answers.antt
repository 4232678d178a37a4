use Rattle.std.proofs.Common.{map, ◌∙◌, ◌≡◌, ℕ, refl, sym, ap, subst, false, ◌<◌, ◌-◌, ◌+◌, min, length, take, drop, get_or, List, [], ◌∷◌, ◌++◌, arith, rules, is_lt}
use Rattle.std.specs.Ordering.{is_eq}
use Rattle.std.specs.FinMap as finmap
use Rattle.std.specs.declared.cmp.Ordering.TheVariants.{Equal}
use Rattle.std.proofs.Math.ListN.{drop_of_length-le}
use Rattle.cov_outside.specs.Mode.{greatest}
use Rattle.cov_table.specs.declared.row.Row.{Row}
use Rattle.cov_table.specs.Key.{Key, key_cmp}
use Rattle.cov_table.specs.Rows.{row_key, row_entry, counts_up_to, AllWithin}
use Rattle.cov_table.proofs.Keys.{key_same}
use Rattle.cov_table.proofs.Settling.{Under, keep_step, merge_step, rise_push, rise_key, turned, rest_at, rest_within, zero_row, within_next, within_change, under_push, under_change, entries_are, nothing_is}
use Rattle.cov_table.proofs.settle.combine.Goals.{then-eq, else-eq+in_ok-push}
use Rattle.cov_table.proofs.settle.combine.Goals as goal

pub returns-in_default-clause-entries : goal.returns-in_default-clause-entries
returns-in_default-clause-entries c = nothing_is (greatest c.args.mode) c.args.texts.now _ c.args.rows.now c.in_ok-settled.ensures.items (omega arith)

pub loop-row-preserved : goal.loop-row-preserved
loop-row-preserved c =
    let most : ℕ = greatest c.args.mode in
    let rest : List Row = take (length c.args.rows.now - 1) (drop 1 c.args.rows.now) in
    let i : ℕ = c.loop-row.row-index in
    let inside : i < length rest = search rules in
    let row : Row = get_or rest i zero_row in
    let next : row ≡ get_or c.args.rows.now (i + 1) zero_row = rest_at c.args.rows.now i zero_row inside in
    let texts = c.args.texts.now in
    elim c.if-eq.branch [
      | then-eq w ↦
          let tied : key_cmp (row_key texts c.loop-row.held) (row_key texts row) ≡ Equal = search (rules, w.if-eq.true, c.eq.ensures, c.compare.ensures) in
          let sum : w.combine.result ≡ min (c.loop-row.held.count + row.count) most = w.combine.ensures in
          rw (w.settled-is, w.held-is) (record {
            same = merge_step most texts c.loop-row.settled.items c.loop-row.held _ row rest i zero_row inside refl (λ j. record c.loop-row.held { count = sum j }) tied ∙ c.loop-row.invariant.same;
            within = λ n v. within_change n c.loop-row.settled.items c.loop-row.held _ refl (c.loop-row.invariant.within n v);
            rising = rise_key texts c.loop-row.settled.items c.loop-row.held _ refl c.loop-row.invariant.rising;
            under = under_change most c.loop-row.settled.items c.loop-row.held _ (omega (arith, sum)) c.loop-row.invariant.under;
            at = key_same (row_key texts c.loop-row.held) (row_key texts row) tied ∙ ap (row_key texts) next;
          })
      | else-eq+in_ok-push w ↦
          let apart : is_eq (key_cmp (row_key texts c.loop-row.held) (row_key texts row)) ≡ false = search (rules, w.if-eq.false, c.eq.ensures, c.compare.ensures) in
          let up : is_lt (key_cmp (row_key texts row) (row_key texts c.loop-row.held)) ≡ false =
          subst (λ (r : Row). is_lt (key_cmp (row_key texts r) (row_key texts c.loop-row.held)) ≡ false) (sym next) (subst (λ (k : Key). is_lt (key_cmp (row_key texts (get_or c.args.rows.now (i + 1) zero_row)) k) ≡ false) (sym c.loop-row.invariant.at) (c.requires i zero_row (omega arith) (rest_within c.args.rows.now i inside))) in
          let capped : w.capped-held-else-eq.result ≡ record row { count = min (0 + row.count) most } = w.capped-held-else-eq.ensures in
          let key : row_key texts row ≡ row_key texts w.capped-held-else-eq.result = ap (row_key texts) (sym capped) in
          let count : w.capped-held-else-eq.result.count ≡ min (0 + row.count) most = ap (λ (r : Row). r.count) capped in
          let pushed : w.push.new.self.items ≡ c.loop-row.settled.items ++ c.loop-row.held ∷ [] = w.in_ok-push.ensures.items in
          rw (w.settled-is, w.held-is) (record {
            same = keep_step most texts c.loop-row.settled.items w.push.new.self.items c.loop-row.held row _ rest i zero_row inside refl pushed capped ∙ c.loop-row.invariant.same;
            within = λ n v. within_next n c.loop-row.settled.items w.push.new.self.items c.args.rows.now c.loop-row.held row _ (i + 1) zero_row pushed next (capped ∙ (λ j. record row { count = sym count j })) (rest_within c.args.rows.now i inside) v (c.loop-row.invariant.within n v);
            rising = rise_key texts w.push.new.self.items row _ key (rise_push texts c.loop-row.settled.items w.push.new.self.items c.loop-row.held row pushed (turned (row_key texts c.loop-row.held) (row_key texts row) up apart) c.loop-row.invariant.rising);
            under = under_push most w.push.new.self.items w.capped-held-else-eq.result (subst (Under most) (sym pushed) c.loop-row.invariant.under) (omega (arith, count));
            at = sym key ∙ ap (row_key texts) next;
          })
    ]

pub returns-clause-within : goal.returns-clause-within
returns-clause-within c = λ n v. subst (AllWithin n) (sym c.in_ok-push-2.ensures.items) (c.loop-row.invariant.within n v)

pub returns-clause-entries : goal.returns-clause-entries
returns-clause-entries c =
    let most : ℕ = greatest c.args.mode in
    let texts = c.args.texts.now in
    let rest : List Row = take (length c.args.rows.now - 1) (drop 1 c.args.rows.now) in
    let rows : List Row = c.loop-row.settled.items ++ c.loop-row.held ∷ [] in
    let pushed : c.push-2.new.self.items ≡ rows = c.in_ok-push-2.ensures.items in
    let same : counts_up_to most texts c.push-2.new.self.items ≡ counts_up_to most texts c.args.rows.now = ap (counts_up_to most texts) pushed ∙ ap (λ (t : List Row). counts_up_to most texts (c.loop-row.settled.items ++ c.loop-row.held ∷ t)) (sym (drop_of_length-le rest c.loop-row-test.false)) ∙ c.loop-row.invariant.same in
    ap (map (row_entry texts)) pushed ∙ sym (entries_are most texts rows c.loop-row.invariant.rising c.loop-row.invariant.under) ∙ ap (λ r. finmap.entries (counts_up_to most texts r)) (sym pushed) ∙ ap finmap.entries same
