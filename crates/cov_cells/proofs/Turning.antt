-- Taking and giving the turn keep the rule.
use Rattle.std.proofs.Common.{◌≡◌, ◌≢◌, ℕ, Bool, suc, ◌+◌, ◌*◌, ◌<◌, ◌≤◌, cond, true, false, eqb, List, [], ◌∷◌, ◌++◌, length, get_or, set, sym, refl, ap, ◌∙◌, subst, ⊎_elim, arith, Option, Some, None, length-set, get_or-set_other, get_or-set_same, eq-eqb, ne_eqb, true≢false}
use mathlib.Core.Logic.{dite}
use mathlib.Core.Option.{none, some, some-injective}
use native.Mathlib.Decide.{ℕ_discrete}
use lib.ListN.{get_elem?}
use lib.Seq.{set-get_or}
use prog.Atomic.{either}
use Rattle.atomic_table.specs.Table.{State, Me, Step, Act, keeps, takes, gives, stepped, Allows}
use Rattle.atomic_table.proofs.Lists.{at_set, set_here, set_again}
use Rattle.go_meaning.specs.declared.event.Event.{Event}
use Rattle.go_state.specs.declared.limits.Limits.{Limits}
use Rattle.go_state.specs.Runs.{RunState}
use Rattle.go_meaning.specs.Histories.{IsHistory}
use Rattle.go_meaning.specs.Entries.{is_unit, unit_counts, count_at}
use Rattle.go_meaning.specs.Laws.{StandsUntilCounted}
use Rattle.cov_cells.specs.declared.view.Origin.{Origin}
use Rattle.cov_cells.specs.declared.view.View.{View}
use Rattle.cov_cells.specs.Rule.{due_after, Begins, total, times, tally, pends, holds_turn, seats_in, IsWord, Fits, Live, Spent, Slots, IsHome, Apart, Kept, Known}
use Rattle.cov_cells.specs.Steps.{FitsIn, IsHanded, after_take, taking, counter_steps, MayGive, after_give, giving}
use Rattle.cov_cells.proofs.Sums.{total-set, term_le, terms_le}
use Rattle.cov_cells.proofs.Following.{begins_self, begins_trans, unit_counts-append, unit_counts-steps, unit_counts-one, none_of, stays}

abbrev pub St : Type 0
St = State (Option RunState) View

-- a fact of each view, after a change of one
pub each_set : (P : View → Type 0) (views : List View) (id : ℕ) (w : View) → P w → ((j : ℕ) (x : View) → j ≢ id → get_elem? views j ≡ some x → P x)
    → (j : ℕ) (x : View) → get_elem? (set views id w) j ≡ some x → P x
each_set P views id w here others j x e = ⊎_elim (λ t. subst P t.1 here) (λ t. others j x t.0 t.1) (at_set views id j w x e)

-- the number and whether it is spent, of the view that stood there before
pub was : (views : List View) (id : ℕ) (v w : View) → get_elem? views id ≡ some v → w.number ≡ v.number → w.spent ≡ v.spent
    → (j : ℕ) (x : View) → get_elem? (set views id w) j ≡ some x → (y : View) × (get_elem? views j ≡ some y) × (x.number ≡ y.number) × (x.spent ≡ y.spent)
was views id v w at number spent j x e = ⊎_elim (λ t. (v, subst (λ i. get_elem? views i ≡ some v) (sym t.0) at, ap (λ (z : View). z.number) (sym t.1) ∙ number, ap (λ (z : View). z.spent) (sym t.1) ∙ spent))
    (λ t. (x, t.1, refl, refl)) (at_set views id j w x e)

pub apart_set : (views : List View) (id : ℕ) (v w : View) → get_elem? views id ≡ some v → w.number ≡ v.number → w.spent ≡ v.spent → Apart views → Apart (set views id w)
apart_set views id v w at number spent apart i j x y ex ey sx sy same =
    let p = was views id v w at number spent i x ex in let q = was views id v w at number spent j y ey in
    apart i j p.0 q.0 p.1 q.1 (sym p.3 ∙ sx) (sym q.3 ∙ sy) (sym p.2 ∙ same ∙ q.2)

module _ (o : Origin) where
  pub unmoved : (s : St) (i id : ℕ) (v : View) → Kept o s → get_elem? s.views id ≡ some v → Kept o record { words = set s.words i (get_or s.words i 0); homes = s.homes; views = set s.views id v }
  unmoved s i id v r at = subst (λ (ws : List ℕ). Kept o record { words = ws; homes = s.homes; views = set s.views id v }) (sym (set-get_or s.words i 0))
      (subst (λ (vs : List View). Kept o record { words = s.words; homes = s.homes; views = vs }) (sym (set_again s.views id v at)) r)

  -- a step on the turn
  turn_step : (s : St) (r : Kept o s) (id n : ℕ) (v w : View) (homes : Slots) (history : List Event)
      → get_elem? s.views id ≡ some v → v.spent ≡ false → w.spent ≡ false → w.number ≡ v.number → w.counted ≡ v.counted → w.gathered ≡ v.gathered
      → length homes ≡ 1 → n ≤ 1 → n + holds_turn v ≡ get_or s.words 0 0 + holds_turn w → (n ≡ 0 → IsHome o history r.served homes)
      → IsHistory o.program o.limits.steps history → Begins r.history history → ((u : ℕ) → unit_counts history u + pends u w ≡ unit_counts r.history u + pends u v)
      → Live o history r.served w → ((j : ℕ) (x : View) → j ≢ id → get_elem? s.views j ≡ some x → x.spent ≡ false → Live o history r.served x)
      → Kept o record { words = set s.words 0 n; homes = homes; views = set s.views id w }
  turn_step s r id n v w homes history at alive alive' number counted gathered one_slot one turn home covered begins recorded live others = record {
    history = history;
    served = r.served;
    starting = r.starting;
    wide = length-set s.words 0 n ∙ r.wide;
    one_slot = one_slot;
    turn = (let now : get_or (set s.words 0 n) 0 0 ≡ n = get_or-set_same s.words 0 n 0 (let long = r.wide in omega arith) in
        let sums = total-set holds_turn s.views id v w at in let before = r.turn in omega arith);
    one = (let now : get_or (set s.words 0 n) 0 0 ≡ n = get_or-set_same s.words 0 n 0 (let long = r.wide in omega arith) in omega arith);
    home = (let now : get_or (set s.words 0 n) 0 0 ≡ n = get_or-set_same s.words 0 n 0 (let long = r.wide in omega arith) in λ e. home (sym now ∙ e));
    words = λ u low. (let sums = total-set (tally u) s.views id v w at in let same : tally u w ≡ tally u v = ap (times u) counted in
        let sum : total (tally u) (set s.views id w) ≡ total (tally u) s.views = omega arith in
        let word : get_or (set s.words 0 n) (suc u) 0 ≡ get_or s.words (suc u) 0 = get_or-set_other s.words 0 (suc u) n 0 (λ e. omega arith) in
        subst (λ (x : ℕ × ℕ). IsWord o.mode (get_or o.words u 0) x.0 x.1) (λ i. (sym sum i, sym word i)) (r.words u low));
    covered = covered;
    begins = begins_trans o.history r.history history r.begins begins;
    recorded = λ u. (let sums = total-set (tally u) s.views id v w at in let same : tally u w ≡ tally u v = ap (times u) counted in
        let pend = total-set (pends u) s.views id v w at in let before = r.recorded u in let step = recorded u in omega arith);
    live = each_set (λ x. x.spent ≡ false → Live o history r.served x) s.views id w (λ _. live) others;
    spent = each_set (λ x. x.spent ≡ true → Spent x) s.views id w (λ e. absurd (true≢false (sym e ∙ alive'))) (λ j x _. r.spent j x);
    apart = apart_set s.views id v w at number (alive' ∙ sym alive) r.apart;
    gathered = (let sums = total-set seats_in s.views id v w at in
        let same : seats_in w ≡ seats_in v = (λ i. cond (alive' i) 0 (suc (gathered i))) ∙ sym (ap (λ b. cond b 0 (suc v.gathered)) alive) in let before = r.gathered in omega arith);
  }

  pub takes_turn : (slots id : ℕ) (v : View) (st : Step (Option RunState)) → v.spent ≡ false → v.holding ≡ false
      → Allows (Kept o) slots id (v, []) 0 (λ n. either (eqb n 0) 1 n) (taking st (v, []))
  takes_turn slots id v st alive rests s r one_slot at low = dite (ℕ_discrete (get_or s.words 0 0) 0)
      (λ free. let home = r.home free in let run : RunState = home.0 in let w : View = after_take v run in let l : Live o r.history r.served v = r.live id v at alive in (
        w,
        takes 0 (Some run),
        home.1,
        subst (λ b. Kept o (stepped s 0 (either b 1 (get_or s.words 0 0)) id [] w (takes 0 (Some run)))) (sym (eq-eqb _ _ free))
            (turn_step s r id 1 v w (set s.homes 0 none) r.history at alive alive refl refl refl (length-set s.homes 0 none ∙ r.one_slot) (omega arith)
            (let zero : holds_turn v ≡ 0 = ap (λ b. cond b 1 0) rests in omega arith) (λ e. absurd (omega arith)) r.covered (begins_self r.history) (λ u. refl)
            record {
              origin = l.origin;
              pending = l.pending;
              due = l.due;
              number = l.number;
              made = l.made;
              given = l.given;
              met = l.met;
              holder = λ _. (home.2, home.3);
            }
            (λ j x _ e s. r.live j x e s)),
        (
          (λ _. (
            run,
            refl,
            record {
              fits = subst (λ (b : Option Origin). FitsIn b run) (sym l.origin) home.4;
              begins = subst (Begins v.given) (sym home.2) l.given;
              number = subst (λ n. v.number ≤ n) (sym home.3) l.number;
              made = λ e. l.made e ∙ sym home.3;
              due = λ u e. subst (λ h. due_after run.program h v.number ≡ Some u) (sym home.2) (subst (λ p. due_after p r.history v.number ≡ Some u) (sym home.4.program) (l.due u e));
            },
          )),
          (λ ne. absurd (ne free)),
        ),
      ))
      (λ held. (
        v,
        keeps,
        tt,
        subst (λ b. Kept o (stepped s 0 (either b 1 (get_or s.words 0 0)) id [] v keeps)) (sym (ne_eqb _ _ held)) (unmoved s 0 id v r at),
        ((λ free. absurd (held free)), (λ _. refl)),
      ))

  pub takes_at : (slots id : ℕ) (m : Known) (st : Step (Option RunState)) → m.1 ≡ [] → m.0.spent ≡ false → m.0.holding ≡ false
      → Allows (Kept o) slots id m 0 (λ n. either (eqb n 0) 1 n) (taking st m)
  takes_at slots id m st empty alive rests = subst (λ (l : List (ℕ × Option RunState)). Allows (Kept o) slots id (m.0, l) 0 (λ n. either (eqb n 0) 1 n) (taking st (m.0, l))) (sym empty)
      (takes_turn slots id m.0 st alive rests)

abbrev origin_or : Origin → Option Origin → Origin
origin_or d None = d
origin_or d (Some x) = x

abbrev some_or : RunState → Option RunState → RunState
some_or d None = d
some_or d (Some x) = x

abbrev run_in : RunState → List (ℕ × Option RunState) → RunState
run_in d [] = d
run_in d (x ∷ xs) = some_or d x.1

module _ (law : StandsUntilCounted) (o : Origin) where
  pub gives_turn : (slots id : ℕ) (v : View) (run : RunState) (st : Step (Option RunState)) → v.spent ≡ false → v.holding ≡ true → IsHistory run.program run.limits.steps run.history → MayGive v run
      → Allows (Kept o) slots id (v, (0, Some run) ∷ []) 0 (λ _. 0) (giving st (v, (0, Some run) ∷ []))
  gives_turn slots id v run st alive holds known may s r deep at low =
      let l : Live o r.history r.served v = r.live id v at alive in let w : View = after_give v run (due_after run.program run.history v.number) in
      let same : may.origin ≡ o = ap (origin_or o) (sym may.is ∙ l.origin) in
      let program : run.program ≡ o.program = may.program ∙ ap (λ (b : Origin). b.program) same in
      let limits : run.limits ≡ o.limits = may.limits ∙ ap (λ (b : Origin). b.limits) same in
      let has : v.taken ≡ r.history = (l.holder holds).0 in let grown : run.history ≡ r.history ++ may.added = may.begins ∙ ap (λ h. h ++ may.added) has in
      let fits : Fits o run = record {
        program = program;
        limits = limits;
        room = subst (λ (b : Origin). 2 * b.limits.steps + 256 ≤ length run.history + run.spare) same may.room;
        covered = subst (λ p. IsHistory p o.limits.steps run.history) program (subst (λ (t : Limits). IsHistory run.program t.steps run.history) limits known);
        begins = begins_trans o.history r.history run.history r.begins (may.added, grown);
      } in
      let one : holds_turn v ≡ 1 = ap (λ b. cond b 1 0) holds in let least = term_le holds_turn s.views id v at in let turn = r.turn in let most = r.one in (
        w,
        gives,
        tt,
        turn_step o s r id 0 v w (set s.homes 0 (some (Some run))) run.history at alive alive refl refl refl (length-set s.homes 0 (some (Some run)) ∙ r.one_slot) (omega arith)
            (omega arith)
            (λ _. (run, set_here s.homes 0 (some (Some run)) (let d = r.one_slot in omega arith), refl, may.served ∙ (l.holder holds).1, fits))
            fits.covered (may.added, grown)
            (λ u. (let sum : unit_counts run.history u ≡ unit_counts r.history u + unit_counts may.added u = ap (λ h. unit_counts h u) grown ∙ unit_counts-append r.history may.added u in
            let new : unit_counts may.added u ≡ pends u v = sym (unit_counts-steps may.added u) ∙ ap (λ es. unit_counts es u) may.records ∙ unit_counts-one v.pending v.number u in omega arith))
            record {
              origin = l.origin;
              pending = λ u e. cc;
              due = λ u e. subst (λ p. due_after p run.history v.number ≡ Some u) program e;
              number = l.number;
              made = l.made;
              given = begins_self run.history;
              met = begins_trans v.met r.history run.history l.met (may.added, grown);
              holder = λ e. absurd (true≢false (sym e));
            }
            (λ j x other e alive'. (let lx : Live o r.history r.served x = r.live j x e alive' in record {
              origin = lx.origin;
              pending = lx.pending;
              due = λ u due. subst (λ h. due_after o.program h x.number ≡ Some u) (sym grown) (stays law o.program o.limits.steps x.number u r.history may.added (subst (IsHistory o.program o.limits.steps) grown fits.covered) (lx.due u due)
                  (none_of may.added v.pending v.number x.number may.records (λ same'. other (sym (r.apart id j v x at e alive alive' same')))));
              number = lx.number;
              made = lx.made;
              given = begins_trans x.given r.history run.history lx.given (may.added, grown);
              met = begins_trans x.met r.history run.history lx.met (may.added, grown);
              holder = λ also. (let two = terms_le holds_turn s.views id j v x other at e in let one' : holds_turn x ≡ 1 = ap (λ b. cond b 1 0) also in absurd (omega arith));
            })),
        (λ run' e. (let same' : run ≡ run' = ap (run_in run) e in λ i. (after_give v (same' i) (due_after (same' i).program (same' i).history v.number), []))),
      )

  pub gives_at : (slots id : ℕ) (m : Known) (v : View) (run : RunState) (st : Step (Option RunState)) → m ≡ (v, (0, Some run) ∷ []) → v.spent ≡ false → v.holding ≡ true → IsHistory run.program run.limits.steps run.history → MayGive v run
      → Allows (Kept o) slots id m 0 (λ _. 0) (giving st m)
  gives_at slots id m v run st e alive holds known may = subst (λ (x : Known). Allows (Kept o) slots id x 0 (λ _. 0) (giving st x)) (sym e) (gives_turn slots id v run st alive holds known may)
