-- The start and the end.
use Rattle.std.proofs.Common.{◌≡◌, ◌≢◌, ℕ, zero, suc, ◌+◌, ◌*◌, ◌%◌, ◌^◌, ◌<◌, ◌≤◌, cond, Bool, true, false, List, [], ◌∷◌, ◌++◌, length, drop, get_or, set, sym, refl, ap, ◌∙◌, subst, ⊎_elim, arith, Option, Some, None, add-zero, true≢false}
use Rattle.std.proofs.Math.Nat.{mod-eq_of_lt}
use Rattle.std.proofs.Math.Seq.{drop-append_seam}
use mathlib.Core.Option.{some, some-ne-none, some-injective}
use lib.ListN.{get_elem?}
use Rattle.atomic_table.specs.Table.{State, opening, Final, Seen}
use Rattle.go_meaning.specs.declared.event.Event.{Event}
use Rattle.go_state.specs.Runs.{RunState}
use Rattle.go_meaning.specs.Histories.{IsHistory}
use Rattle.go_meaning.specs.Entries.{is_unit, unit_counts}
use Rattle.cov_outside.specs.declared.mode.Mode.{Mode}
use Rattle.cov_outside.specs.declared.mode.Mode.TheVariants.{Set, Count, Atomic}
use Rattle.cov_cells.specs.declared.view.Origin.{Origin}
use Rattle.cov_cells.specs.declared.view.View.{View}
use Rattle.cov_cells.specs.Rule.{Begins, total, times, tally, pends, holds_turn, seats_in, word_after, IsWord, Fits, Live, Spent, Kept, IsHome, first_view, gained, IsLast}
use Rattle.cov_cells.proofs.Sums.{times-none, all_of}
use Rattle.cov_cells.proofs.Following.{begins_self, unit_counts-append}
use Rattle.cov_cells.proofs.Turning.{St}

begun : (mode : Mode) (n : ℕ) → n < 2 ^ 32 → IsWord mode n 0 n
begun Atomic n low = ap (λ k. k % 2 ^ 32) (sym (add-zero n))
begun Count n low = ap (λ k. k % 2 ^ 32) (sym (add-zero n))
begun Set n low = mod-eq_of_lt low

-- the only view stands first
sole : (v w : View) (j : ℕ) → get_elem? (v ∷ []) j ≡ some w → (v ≡ w) × (j ≡ 0)
sole v w zero e = (some-injective v w e, refl)
sole v w (suc j) e = absurd (some-ne-none w (sym e))

pub opens : (o : Origin) (ws : List ℕ) (run : RunState) → length o.words ≡ o.program.units → length ws ≡ suc o.program.units → get_or ws 0 0 ≡ 0 → ((u : ℕ) → get_or ws (suc u) 0 ≡ get_or o.words u 0)
    → ((u : ℕ) → u < o.program.units → get_or o.words u 0 < 2 ^ 32) → Fits o run → run.history ≡ o.history → run.served ≡ 0 → Kept o (opening ws (Some run ∷ []) (first_view o))
opens o ws run starting long zero' same small fits history served = let v : View = first_view o in record {
  history = o.history;
  served = 0;
  starting = starting;
  wide = long;
  one_slot = refl;
  turn = zero';
  one = omega arith;
  home = λ _. (run, refl, history, served, fits);
  words = λ u low. (let none = times-none u in let sum : total (tally u) (v ∷ []) ≡ 0 = omega arith in
      subst (λ (x : ℕ × ℕ). IsWord o.mode (get_or o.words u 0) x.0 x.1) (λ i. (sym sum i, sym (same u) i)) (begun o.mode (get_or o.words u 0) (small u low)));
  covered = subst (IsHistory o.program o.limits.steps) history fits.covered;
  begins = begins_self o.history;
  recorded = λ u. (let none = times-none u in omega arith);
  live = λ j w e _. subst (λ x. Live o o.history 0 x) (sole v w j e).0 record {
    origin = refl;
    pending = λ u e. cc;
    due = λ u e. cc;
    number = omega arith;
    made = λ _. refl;
    given = begins_self o.history;
    met = (o.history, refl);
    holder = λ e. absurd (true≢false (sym e));
  };
  spent = λ j w e gone. absurd (true≢false (sym gone ∙ ap (λ (x : View). x.spent) (sym (sole v w j e).0)));
  apart = λ i j x y ex ey _ _ _. (sole v x i ex).1 ∙ sym (sole v y j ey).1;
  gathered = refl;
}

bright : (b : Bool) (n : ℕ) → cond b 0 (suc n) ≡ 0 → b ≡ true
bright true n e = refl
bright false n e = absurd (omega arith)

dark : (x : View) → seats_in x ≡ 0 → x.spent ≡ true
dark x e = bright x.spent x.gathered e

-- The end, by the words of the table.
pub record Ends (o : Origin) (v : View) (ws : List ℕ) (run : RunState) : Type 0 where
  pub fits : Fits o run
  pub grown : run.history ≡ o.history ++ gained o run
  pub given : Begins v.given run.history
  pub served : run.served ≡ v.made
  pub words : (u : ℕ) → u < o.program.units → IsWord o.mode (get_or o.words u 0) (unit_counts (gained o run) u) (get_or ws (suc u) 0)

pub ends : (o : Origin) (s : St) (r : Kept o s) (id : ℕ) (v : View) → get_elem? s.views id ≡ some v → v.spent ≡ false → IsLast v → (run : RunState) × (get_elem? s.homes 0 ≡ some (some (Some run))) × Ends o v s.words run
ends o s r id v at alive last =
    let l : Live o r.history r.served v = r.live id v at alive in let made : v.made ≡ r.served = l.made last.number in
    let mine : seats_in v ≡ suc v.gathered = ap (λ c. cond c 0 (suc v.gathered)) alive in let g = last.gathered in
    let whole : total seats_in s.views ≡ seats_in v = (let h = r.gathered in omega arith) in
    let others = λ (f : View → ℕ) (none : (x : View) → Spent x → f x ≡ 0). all_of seats_in f s.views id v at whole
    (λ j x e light. none x (r.spent j x e (dark x light))) in
    let turn : get_or s.words 0 0 ≡ 0 = (let all = others holds_turn (λ x gone. ap (λ c. cond c 1 0) gone.holding) in let rests : holds_turn v ≡ 0 = ap (λ c. cond c 1 0) last.rests in let h = r.turn in omega arith) in
    let home = r.home turn in let run : RunState = home.0 in let rest = home.4.begins in
    let extra : gained o run ≡ rest.0 = ap (drop (length o.history)) rest.1 ∙ drop-append_seam o.history rest.0 in (
      run,
      home.1,
      record {
        fits = home.4;
        grown = rest.1 ∙ ap (λ l. o.history ++ l) (sym extra);
        given = subst (Begins v.given) (sym home.2) l.given;
        served = home.3 ∙ sym made;
        words = λ u low. (let none = times-none u in
            let tallies = others (tally u) (λ x gone. ap (times u) gone.counted ∙ none) in
            let pendings = others (pends u) (λ x gone. ap (λ d. is_unit d u) gone.pending) in
            let idle : pends u v ≡ 0 = ap (λ d. is_unit d u) last.done.1 in
            let sum : unit_counts r.history u ≡ unit_counts o.history u + unit_counts rest.0 u =
            ap (λ h. unit_counts h u) (sym home.2 ∙ rest.1) ∙ unit_counts-append o.history rest.0 u in
            let e : total (tally u) s.views ≡ unit_counts rest.0 u = (let h = r.recorded u in omega arith) in
            subst (λ n. IsWord o.mode (get_or o.words u 0) n (get_or s.words (suc u) 0)) (e ∙ ap (λ h. unit_counts h u) (sym extra)) (r.words u low));
      },
    )

abbrev some_or : RunState → Option RunState → RunState
some_or d None = d
some_or d (Some x) = x

pub closes : (o : Origin) (ws : List ℕ) (xs : List (Option RunState)) (id : ℕ) (v : View) (out : Option RunState) → Final (Seen (Kept o) id v) ws xs → v.spent ≡ false → IsLast v → get_elem? xs 0 ≡ some out
    → (run : RunState) × (out ≡ Some run) × Ends o v ws run
closes o ws xs id v out f alive last at = let e = ends o f.0 f.1.0 id v f.1.1 alive last in
    (e.0, some-injective out (Some e.0) (sym at ∙ f.4 0 (Some e.0) e.1), subst (λ w. Ends o v w e.0) f.2 e.2)

pub closes_at : (o : Origin) (ws : List ℕ) (xs : List (Option RunState)) (id : ℕ) (v : View) (out : Option RunState) (run : RunState) → Final (Seen (Kept o) id v) ws xs → v.spent ≡ false → IsLast v → get_elem? xs 0 ≡ some out
    → out ≡ Some run → Ends o v ws run
closes_at o ws xs id v out run f alive last at is = let e = closes o ws xs id v out f alive last at in subst (Ends o v ws) (ap (some_or run) (sym e.1 ∙ is)) e.2

pub get_of : (l : List ℕ) (i a : ℕ) → get_elem? l i ≡ some a → get_or l i 0 ≡ a
get_of [] i a e = absurd (some-ne-none a (sym e))
get_of (x ∷ xs) zero a e = some-injective x a e
get_of (x ∷ xs) (suc i) a e = get_of xs i a e

pub one_more : (xs : List ℕ) (x : ℕ) (f : ℕ → ℕ) → ((u : ℕ) → u < length xs → get_or xs u 0 ≡ f u) → x ≡ f (length xs) → (u : ℕ) → u < suc (length xs) → get_or (xs ++ x ∷ []) u 0 ≡ f u
one_more [] x f old new zero h = new
one_more [] x f old new (suc u) h = absurd (omega arith)
one_more (y ∷ xs) x f old new zero h = old 0 (omega arith)
one_more (y ∷ xs) x f old new (suc u) h = one_more xs x (λ k. f (suc k)) (λ k l. old (suc k) (omega arith)) new u (omega arith)
