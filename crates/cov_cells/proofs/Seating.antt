-- New seats, joined seats, and the end.
use Rattle.std.proofs.Common.{◌≡◌, ◌≢◌, ℕ, suc, ◌+◌, ◌*◌, ◌<◌, ◌≤◌, cond, Bool, true, false, ltb, List, [], ◌∷◌, ◌++◌, length, get_or, set, sym, refl, ap, ◌∙◌, subst, ⊎_elim, arith, Option, Some, None, length-set, length-append, get_or-set_other, get_or-set_same, ne_eqb, true≢false}
use mathlib.Core.Logic.{dite}
use mathlib.Core.Option.{some, some-ne-none, some-injective}
use native.Mathlib.Decide.{ℕ_discrete}
use lib.ListN.{get_elem?}
use Rattle.atomic_table.specs.Table.{Me, Step, keeps, Splits, Joins, Allows}
use Rattle.atomic_table.proofs.Lists.{at_set, set_here, set_else}
use Rattle.go_meaning.specs.declared.event.Event.{Event}
use Rattle.go_state.specs.Runs.{RunState}
use Rattle.go_meaning.specs.Entries.{is_unit, unit_counts}
use Rattle.cov_cells.specs.declared.view.Origin.{Origin}
use Rattle.cov_cells.specs.declared.view.View.{View}
use Rattle.cov_cells.specs.Rule.{Begins, total, times, tally, pends, holds_turn, seats_in, IsWord, Live, Spent, Apart, Kept, Known}
use Rattle.cov_cells.specs.Steps.{after_split, new_view, after_join, spent_view, longer, shorter, history_in, looking}
use Rattle.cov_cells.proofs.Sums.{total-append, total-set, term_le, terms_le, times-append, times-none, at_end, low, all_of}
use Rattle.cov_cells.proofs.Turning.{St, each_set, apart_set, unmoved}

each_end : (P : View → Type 0) (views : List View) (w : View) → P w → ((j : ℕ) (x : View) → get_elem? views j ≡ some x → P x) → (j : ℕ) (x : View) → get_elem? (views ++ w ∷ []) j ≡ some x → P x
each_end P views w here others j x e = ⊎_elim (λ t. others j x t) (λ t. subst P t.1 here) (at_end views w x j e)

apart_end : (views : List View) (w : View) → ((j : ℕ) (x : View) → get_elem? views j ≡ some x → x.spent ≡ false → x.number ≢ w.number) → Apart views → Apart (views ++ w ∷ [])
apart_end views w new apart i j x y ex ey sx sy same =
    ⊎_elim (λ old. ⊎_elim (λ old'. apart i j x y old old' sx sy same) (λ t. absurd (new i x old sx (same ∙ ap (λ (z : View). z.number) (sym t.1)))) (at_end views w y j ey))
    (λ t. ⊎_elim (λ old'. absurd (new j y old' sy (sym same ∙ ap (λ (z : View). z.number) (sym t.1)))) (λ t'. t.0 ∙ sym t'.0) (at_end views w y j ey))
    (at_end views w x i ex)

apart_spend : (views : List View) (id : ℕ) (w : View) → w.spent ≡ true → Apart views → Apart (set views id w)
apart_spend views id w gone apart i j x y ex ey sx sy same =
    ⊎_elim (λ t. absurd (true≢false (sym gone ∙ ap (λ (z : View). z.spent) t.1 ∙ sx)))
    (λ t. ⊎_elim (λ t'. absurd (true≢false (sym gone ∙ ap (λ (z : View). z.spent) t'.1 ∙ sy))) (λ t'. apart i j x y t.1 t'.1 sx sy same) (at_set views id j w y ey))
    (at_set views id i w x ex)

begins_longer : (a b h : List Event) (c : Bool) → Begins a h → Begins b h → Begins (cond c b a) h
begins_longer a b h true p q = q
begins_longer a b h false p q = p

-- of two beginnings of one list the shorter begins the longer
pub begins_other : (a b h : List Event) → Begins a h → Begins b h → length a ≤ length b → Begins a b
begins_other [] b h p q le = (b, refl)
begins_other (x ∷ a) [] h p q le = absurd (omega arith)
begins_other (x ∷ a) (y ∷ b) [] p q le = absurd (let e = ap length p.1 in omega arith)
begins_other (x ∷ a) (y ∷ b) (z ∷ h) p q le =
    let e : z ∷ h ≡ x ∷ (a ++ p.0) = p.1 in let d : z ∷ h ≡ y ∷ (b ++ q.0) = q.1 in
    let here : y ≡ x = cc in let t : h ≡ a ++ p.0 = cc in let u : h ≡ b ++ q.0 = cc in
    let r = begins_other a b h (p.0, t) (q.0, u) (omega arith) in (r.0, (λ i. here i ∷ r.1 i))

module _ (o : Origin) where
  pub splits : (id : ℕ) (v : View) → v.spent ≡ false → v.number ≡ 0 → v.holding ≡ true → Splits (Kept o) id v (after_split v) (new_view v)
  splits id v alive zero holds s r at =
      let w : View = after_split v in let n : View = new_view v in let l : Live o r.history r.served v = r.live id v at alive in
      let vs : List View = set s.views id w in let served : v.served ≡ r.served = (l.holder holds).1 in
      let one : holds_turn v ≡ 1 = ap (λ b. cond b 1 0) holds in let least = term_le holds_turn s.views id v at in let turn = r.turn in
      let older = λ (j : ℕ) (x : View) (other : j ≢ id) (e : get_elem? s.views j ≡ some x) (alive' : x.spent ≡ false). (let lx : Live o r.history r.served x = r.live j x e alive' in lx) in
      record {
        history = r.history;
        served = suc r.served;
        starting = r.starting;
        wide = r.wide;
        one_slot = r.one_slot;
        turn = (let sums = total-set holds_turn s.views id v w at in let end = total-append holds_turn vs (n ∷ []) in omega arith);
        one = r.one;
        home = λ e. absurd (omega arith);
        words = λ u inside. (let sums = total-set (tally u) s.views id v w at in let end = total-append (tally u) vs (n ∷ []) in let none = times-none u in
            let same : total (tally u) (vs ++ n ∷ []) ≡ total (tally u) s.views = omega arith in
            subst (λ x. IsWord o.mode (get_or o.words u 0) x (get_or s.words (suc u) 0)) (sym same) (r.words u inside));
        covered = r.covered;
        begins = r.begins;
        recorded = λ u. (let sums = total-set (tally u) s.views id v w at in let end = total-append (tally u) vs (n ∷ []) in let none = times-none u in
            let pend = total-set (pends u) s.views id v w at in let pend' = total-append (pends u) vs (n ∷ []) in let before = r.recorded u in omega arith);
        live = each_end (λ x. x.spent ≡ false → Live o r.history (suc r.served) x) vs n
            (λ _. record {
              origin = l.origin;
              pending = λ u e. cc;
              due = λ u e. cc;
              number = omega arith;
              made = λ e. absurd (omega arith);
              given = subst (λ (b : Option Origin). Begins (history_in b) r.history) (sym l.origin) r.begins;
              met = (r.history, refl);
              holder = λ e. absurd (true≢false (sym e));
            })
            (each_set (λ x. x.spent ≡ false → Live o r.history (suc r.served) x) s.views id w
            (λ _. record {
              origin = l.origin;
              pending = l.pending;
              due = l.due;
              number = (let h = l.number in omega arith);
              made = λ e. ap suc (l.made zero);
              given = l.given;
              met = l.met;
              holder = λ e. ((l.holder holds).0, ap suc served);
            })
            (λ j x other e alive'. (let lx : Live o r.history r.served x = r.live j x e alive' in record {
              origin = lx.origin;
              pending = lx.pending;
              due = lx.due;
              number = (let h = lx.number in omega arith);
              made = λ zero'. absurd (other (sym (r.apart id j v x at e alive alive' (zero ∙ sym zero'))));
              given = lx.given;
              met = lx.met;
              holder = λ also. (let two = terms_le holds_turn s.views id j v x other at e in let one' : holds_turn x ≡ 1 = ap (λ b. cond b 1 0) also in let most = r.one in absurd (omega arith));
            })));
        spent = each_end (λ x. x.spent ≡ true → Spent x) vs n (λ e. absurd (true≢false (sym e)))
            (each_set (λ x. x.spent ≡ true → Spent x) s.views id w (λ e. absurd (true≢false (sym e ∙ alive))) (λ j x _. r.spent j x));
        apart = apart_end vs n (each_set (λ x. x.spent ≡ false → x.number ≢ suc v.served) s.views id w (λ _ e. absurd (omega arith))
            (λ j x _ e alive' same. (let h = (r.live j x e alive').number in absurd (omega arith)))) (apart_set s.views id v w at refl refl r.apart);
        gathered = (let sums = total-set seats_in s.views id v w at in let end = total-append seats_in vs (n ∷ []) in let before = r.gathered in omega arith);
      }

  pub joins : (id : ℕ) (v : View) (other : ℕ) (w : View) → v.spent ≡ false → w.spent ≡ false → w.holding ≡ false → w.due ≡ None → w.pending ≡ None
      → Joins (Kept o) id v other w (after_join v w) spent_view
  joins id v other w alive alive' rests due pending s r at apart at' =
      let b : View = after_join v w in let vs : List View = set s.views id b in let there : get_elem? s.views other ≡ some w = sym (set_else s.views id other b apart) ∙ at' in
      let l : Live o r.history r.served v = r.live id v at alive in let lw : Live o r.history r.served w = r.live other w there alive' in
      record {
        history = r.history;
        served = r.served;
        starting = r.starting;
        wide = r.wide;
        one_slot = r.one_slot;
        turn = (let sums = total-set holds_turn s.views id v b at in let sums' = total-set holds_turn vs other w spent_view at' in let zero : holds_turn w ≡ 0 = ap (λ c. cond c 1 0) rests in let before = r.turn in omega arith);
        one = r.one;
        home = r.home;
        words = λ u inside. (let sums = total-set (tally u) s.views id v b at in let sums' = total-set (tally u) vs other w spent_view at' in let none = times-none u in let both = times-append u v.counted w.counted in
            let same : total (tally u) (set vs other spent_view) ≡ total (tally u) s.views = omega arith in
            subst (λ x. IsWord o.mode (get_or o.words u 0) x (get_or s.words (suc u) 0)) (sym same) (r.words u inside));
        covered = r.covered;
        begins = r.begins;
        recorded = λ u. (let sums = total-set (tally u) s.views id v b at in let sums' = total-set (tally u) vs other w spent_view at' in let none = times-none u in let both = times-append u v.counted w.counted in
            let pend = total-set (pends u) s.views id v b at in let pend' = total-set (pends u) vs other w spent_view at' in
            let zero : pends u w ≡ 0 = ap (λ d. is_unit d u) pending in let before = r.recorded u in omega arith);
        live = each_set (λ x. x.spent ≡ false → Live o r.history r.served x) vs other spent_view (λ e. absurd (true≢false e))
            (λ j x _. each_set (λ x. x.spent ≡ false → Live o r.history r.served x) s.views id b (λ _. record {
              origin = l.origin;
              pending = λ u e. ((l.pending u e).0, (let h = (l.pending u e).1 in let both = times-append u v.counted w.counted in omega arith));
              due = l.due;
              number = l.number;
              made = l.made;
              given = begins_longer v.given w.given r.history _ l.given lw.given;
              met = begins_longer w.given v.given r.history _ lw.given l.given;
              holder = l.holder;
            }) (λ j x _. r.live j x) j x);
        spent = each_set (λ x. x.spent ≡ true → Spent x) vs other spent_view (λ _. record { counted = refl; due = refl; pending = refl; holding = refl })
            (λ j x _. each_set (λ x. x.spent ≡ true → Spent x) s.views id b (λ e. absurd (true≢false (sym e ∙ alive))) (λ j x _. r.spent j x) j x);
        apart = apart_spend vs other spent_view refl (apart_set s.views id v b at refl refl r.apart);
        gathered = (let sums = total-set seats_in s.views id v b at in let sums' = total-set seats_in vs other w spent_view at' in
            let one : seats_in v ≡ suc v.gathered = ap (λ c. cond c 0 (suc v.gathered)) alive in let two : seats_in w ≡ suc w.gathered = ap (λ c. cond c 0 (suc w.gathered)) alive' in
            let three : seats_in b ≡ suc (suc (v.gathered + w.gathered)) = ap (λ c. cond c 0 (suc (suc (v.gathered + w.gathered)))) alive in let before = r.gathered in omega arith);
      }

  pub looks : (slots id i : ℕ) (m : Known) (st : Step (Option RunState)) → m.0.spent ≡ false → Allows (Kept o) slots id m i (λ n. n) (looking st m)
  looks slots id i m st alive s r one_slot at small = (m.0, keeps, tt, unmoved o s i id m.0 r at, (refl, begins_other m.0.met m.0.given r.history (r.live id m.0 at alive).met (r.live id m.0 at alive).given))
