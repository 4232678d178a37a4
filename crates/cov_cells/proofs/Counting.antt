-- Counter steps keep the rule.
use Rattle.std.proofs.Common.{◌≡◌, ◌≢◌, ℕ, suc, ◌+◌, ◌*◌, ◌%◌, ◌^◌, ◌<◌, ◌≤◌, cond, true, false, List, [], ◌∷◌, ◌++◌, length, get_or, set, sym, refl, ap, ◌∙◌, subst, arith, Option, Some, None, option_to_list, length-set, get_or-set_other, get_or-set_same, ne_eqb, true≢false}
use Rattle.std.proofs.Math.Nat.{mod-mod_of_dvd, mod-add-mod}
use Rattle.std.proofs.lemmas.Nat.Gcd.{dvd_of_mod-eq-zero}
use mathlib.Core.Logic.{dite}
use mathlib.Core.Option.{some}
use native.Mathlib.Decide.{ℕ_discrete}
use lib.ListN.{get_elem?}
use Rattle.atomic_table.specs.Table.{Me, Step, keeps, Allows}
use Rattle.go_state.specs.Runs.{RunState}
use Rattle.go_meaning.specs.Entries.{is_unit, unit_counts}
use Rattle.cov_cells.specs.declared.view.Origin.{Origin}
use Rattle.cov_outside.specs.declared.mode.Mode.{Mode}
use Rattle.cov_outside.specs.declared.mode.Mode.TheVariants.{Set, Count, Atomic}
use Rattle.cov_cells.specs.declared.view.View.{View}
use Rattle.cov_cells.specs.Rule.{total, times, tally, pends, holds_turn, seats_in, word_after, IsWord, Live, Spent, Kept, Known}
use Rattle.cov_cells.specs.Steps.{after_count, counting}
use Rattle.cov_cells.proofs.Sums.{total-set, times-append, times-one, times-other, times-due}
use Rattle.cov_cells.proofs.Turning.{St, each_set, apart_set}

pub adds : (n start sum : ℕ) → n % 2 ^ 32 ≡ word_after Atomic start sum → (n + 1) % 2 ^ 64 % 2 ^ 32 ≡ word_after Atomic start (suc sum)
adds n start sum e = mod-mod_of_dvd (2 ^ 32) (n + 1) (dvd_of_mod-eq-zero (2 ^ 32) {n = 2 ^ 64} refl) ∙ (sym (mod-add-mod n (2 ^ 32) 1) ∙ (ap (λ k. (k + 1) % 2 ^ 32) e ∙ (mod-add-mod (start + sum) (2 ^ 32) 1 ∙ ap (λ k. k % 2 ^ 32) (let h : start + sum + 1 ≡ start + suc sum = omega arith in h))))

pub sets : (start sum : ℕ) → 1 % 2 ^ 32 ≡ word_after Set start (suc sum)
sets start sum = ap (λ b. cond b start 1) (sym (ne_eqb (suc sum) 0 (λ e. omega arith)))

module _ (o : Origin) where
  -- a seat counts its due unit u
  word_step : (s : St) (r : Kept o s) (id u n : ℕ) (v : View) → get_elem? s.views id ≡ some v → v.spent ≡ false → v.due ≡ Some u → v.pending ≡ None → u < o.program.units
      → IsWord o.mode (get_or o.words u 0) (suc (total (tally u) s.views)) n → Kept o record { words = set s.words (suc u) n; homes = s.homes; views = set s.views id (after_count v) }
  word_step s r id u n v at alive due none low here =
      let w : View = after_count v in let l : Live o r.history r.served v = r.live id v at alive in
      let first : get_or (set s.words (suc u) n) 0 0 ≡ get_or s.words 0 0 = get_or-set_other s.words (suc u) 0 n 0 (λ e. omega arith) in
      let more = λ (x : ℕ). times-append x v.counted (option_to_list v.due) in
      let is = λ (x : ℕ). ap (λ d. times x (option_to_list d)) due in
      record {
        history = r.history;
        served = r.served;
        starting = r.starting;
        wide = length-set s.words (suc u) n ∙ r.wide;
        one_slot = r.one_slot;
        turn = (let sums = total-set holds_turn s.views id v w at in let before = r.turn in omega arith);
        one = (let before = r.one in omega arith);
        home = λ e. r.home (sym first ∙ e);
        words = λ x inside. (let sums = total-set (tally x) s.views id v w at in let grows = more x in let k = is x in
            dite (ℕ_discrete x u)
            (λ e. (let one = times-one u in let word : get_or (set s.words (suc u) n) (suc u) 0 ≡ n = get_or-set_same s.words (suc u) n 0 (let long = r.wide in omega arith) in
            let sum : total (tally u) (set s.views id w) ≡ suc (total (tally u) s.views) = (let sums' = total-set (tally u) s.views id v w at in let grows' = more u in let k' = is u in omega arith) in
            subst (λ y. IsWord o.mode (get_or o.words y 0) (total (tally y) (set s.views id w)) (get_or (set s.words (suc u) n) (suc y) 0)) (sym e)
            (subst (λ (y : ℕ × ℕ). IsWord o.mode (get_or o.words u 0) y.0 y.1) (λ i. (sym sum i, sym word i)) here)))
            (λ ne. (let zero = times-other x u (λ e. ne (sym e)) in let word : get_or (set s.words (suc u) n) (suc x) 0 ≡ get_or s.words (suc x) 0 = get_or-set_other s.words (suc u) (suc x) n 0 (λ e. ne (omega arith)) in
            let sum : total (tally x) (set s.views id w) ≡ total (tally x) s.views = omega arith in
            subst (λ (y : ℕ × ℕ). IsWord o.mode (get_or o.words x 0) y.0 y.1) (λ i. (sym sum i, sym word i)) (r.words x inside))));
        covered = r.covered;
        begins = r.begins;
        recorded = λ x. (let sums = total-set (tally x) s.views id v w at in let grows = more x in let pend = total-set (pends x) s.views id v w at in let before = r.recorded x in
            let new : pends x w ≡ times x (option_to_list v.due) = sym (times-due x v.due) in let old : pends x v ≡ 0 = ap (λ d. is_unit d x) none in omega arith);
        live = each_set (λ x. x.spent ≡ false → Live o r.history r.served x) s.views id w (λ _. record {
          origin = l.origin;
          pending = λ y e. (e, (let grows = more y in let k : times y (option_to_list v.due) ≡ times y (y ∷ []) = ap (λ d. times y (option_to_list d)) e in let one = times-one y in omega arith));
          due = l.due;
          number = l.number;
          made = l.made;
          given = l.given;
          met = l.met;
          holder = l.holder;
        }) (λ j x _. r.live j x);
        spent = each_set (λ x. x.spent ≡ true → Spent x) s.views id w (λ e. absurd (true≢false (sym e ∙ alive))) (λ j x _. r.spent j x);
        apart = apart_set s.views id v w at refl refl r.apart;
        gathered = (let sums = total-set seats_in s.views id v w at in let before = r.gathered in omega arith);
      }

  pub counts_at : (slots id u i : ℕ) (f : ℕ → ℕ) (m : Known) (st : Step (Option RunState)) → i ≡ suc u → m.0.spent ≡ false → m.0.due ≡ Some u → m.0.pending ≡ None → u < o.program.units
      → ((n start sum : ℕ) → IsWord o.mode start sum n → IsWord o.mode start (suc sum) (f n)) → Allows (Kept o) slots id m i f (counting st m)
  counts_at slots id u i f m st e alive due none low goes = subst (λ j. Allows (Kept o) slots id m j f (counting st m)) (sym e)
      (λ s r one_slot at small. (after_count m.0, keeps, tt, word_step s r id u (f (get_or s.words (suc u) 0)) m.0 at alive due none low (goes (get_or s.words (suc u) 0) (get_or o.words u 0) (total (tally u) s.views) (r.words u low)), refl))

  pub bumps_at : (slots u i : ℕ) (id : ℕ) (m : Known) (st : Step (Option RunState)) → i ≡ suc u → m.0.spent ≡ false → m.0.due ≡ Some u → m.0.pending ≡ None → u < o.program.units → o.mode ≡ Atomic
      → Allows (Kept o) slots id m i (λ n. (n + 1) % 2 ^ 64) (counting st m)
  bumps_at slots u i id m st e alive due none low mode = counts_at slots id u i (λ n. (n + 1) % 2 ^ 64) m st e alive due none low
      (λ n start sum. subst (λ x. IsWord x start sum n → IsWord x start (suc sum) ((n + 1) % 2 ^ 64)) (sym mode) (adds n start sum))

  pub sets_at : (slots u i : ℕ) (id : ℕ) (m : Known) (st : Step (Option RunState)) → i ≡ suc u → m.0.spent ≡ false → m.0.due ≡ Some u → m.0.pending ≡ None → u < o.program.units → o.mode ≡ Set
      → Allows (Kept o) slots id m i (λ _. 1) (counting st m)
  sets_at slots u i id m st e alive due none low mode = counts_at slots id u i (λ _. 1) m st e alive due none low
      (λ n start sum. subst (λ x. IsWord x start sum n → IsWord x start (suc sum) 1) (sym mode) (λ _. sets start sum))
