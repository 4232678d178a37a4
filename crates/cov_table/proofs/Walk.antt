-- Entries that rise strictly are a map's entries as they stand.
use Rattle.std.proofs.Common.{◌≡◌, ℕ, ◌+◌, ◌≤◌, min, Bool, true, false, T, cond, ◌&&◌, List, [], ◌∷◌, ◌++◌, Some, None, refl, sym, ap, subst, ◌∙◌, arith, length}
use Rattle.std.specs.Prelude.{unwrap_or}
use Rattle.std.specs.FinMap as finmap
use Rattle.std.specs.FinMap.Entries.{below_all, by_order}
use Rattle.std.specs.Cmp.{IsTotalOrder}
use Rattle.std.specs.Ordering.{is_lt, is_eq}
use Rattle.std.specs.declared.cmp.Ordering.{Ordering}
use Rattle.std.specs.declared.cmp.Ordering.TheVariants.{Less, Equal, Greater}
use Rattle.cov_table.specs.Counts.{count_of, with_counts}
use Rattle.cov_table.proofs.Counting.{sum_up_to}

pub both : (a b : Bool) → T (a && b) → T a × T b
both true b p = (tt, p)
both false b p = absurd p

pair : (a b : Bool) → T a → T b → T (a && b)
pair true b p q = q
pair false b p q = absurd p

pub less : (o : Ordering) → T (is_lt o) → o ≡ Less
less Less p = refl
less Equal p = absurd p
less Greater p = absurd p

-- no count is above the greatest
abbrev pub Bounded : {K : Type 0} → ℕ → List (K × ℕ) → Type 0
Bounded most [] = Unit {0}
Bounded most (e ∷ es) = (e.1 ≤ most) × Bounded most es

module _ {K X : Type 0} (R : K → K → Ordering) where
  absent_below : (k : K) (es : List (K × X)) → T (below_all R k es) → finmap.find R k es ≡ None
  absent_below k [] h = refl
  absent_below k (e ∷ es) h =
      let b = both _ _ h in
      ap (λ o. cond (is_eq o) (Some e.1) (finmap.find R k es)) (less _ b.0) ∙ absent_below k es b.1

  put_below : (k : K) (v : X) (es : List (K × X)) → T (below_all R k es) → finmap.put R k v es ≡ (k, v) ∷ es
  put_below k v [] h = refl
  put_below k v (e ∷ es) h = ap (λ o. by_order o ((k, v) ∷ e ∷ es) ((e.0, v) ∷ es) (e ∷ finmap.put R k v es)) (less _ (both _ _ h).0)

  below_push : IsTotalOrder R → (x : K) (es : List (K × X)) (k l : K × X) → R k.0 l.0 ≡ Less → T (below_all R x (es ++ k ∷ [])) → T (below_all R x ((es ++ k ∷ []) ++ l ∷ []))
  below_push o x [] k l e h = let a = both _ _ h in pair _ _ a.0 (pair _ true (subst (λ r. T (is_lt r)) (sym (o.trans x k.0 l.0 (less _ a.0) e)) tt) tt)
  below_push o x (y ∷ es) k l e h = let a = both _ _ h in pair _ _ a.0 (below_push o x es k l e a.1)

  -- a greater entry at the end
  pub rises_push : IsTotalOrder R → (es : List (K × X)) (k l : K × X) → R k.0 l.0 ≡ Less → T (finmap.is_sorted R (es ++ k ∷ [])) → T (finmap.is_sorted R ((es ++ k ∷ []) ++ l ∷ []))
  rises_push o [] k l e h = pair _ true (pair _ true (subst (λ r. T (is_lt r)) (sym e) tt) tt) tt
  rises_push o (y ∷ es) k l e h = let a = both _ _ h in pair _ _ (below_push o y.0 es k l e a.0) (rises_push o es k l e a.1)

  -- the order reads the keys alone
  below_key : (x : K) (es : List (K × X)) (k l : K × X) → k.0 ≡ l.0 → T (below_all R x (es ++ k ∷ [])) → T (below_all R x (es ++ l ∷ []))
  below_key x [] k l e h = subst (λ (y : K). T (is_lt (R x y) && true)) e h
  below_key x (y ∷ es) k l e h = let a = both _ _ h in pair _ _ a.0 (below_key x es k l e a.1)

  pub rises_key : (es : List (K × X)) (k l : K × X) → k.0 ≡ l.0 → T (finmap.is_sorted R (es ++ k ∷ [])) → T (finmap.is_sorted R (es ++ l ∷ []))
  rises_key [] k l e h = tt
  rises_key (y ∷ es) k l e h = let a = both _ _ h in pair _ _ (below_key y.0 es k l e a.0) (rises_key es k l e a.1)

nil : {A : Type 0} (es : List A) → length es ≡ 0 → es ≡ []
nil [] h = refl
nil (e ∷ es) h = absurd (omega arith)

pub no_entries : {K X : Type 0} (R : K → K → Ordering) → finmap.entries (finmap.empty {K = K} {X = X} {R = R}) ≡ []
no_entries {K} {X} R = nil _ (sym (finmap.len-entries (finmap.empty {K = K} {X = X} {R = R})) ∙ finmap.len-empty R X)

small : (most n : ℕ) → n ≤ most → min (0 + n) most ≡ n
small most n h = omega arith

pub entries_counts : {K : Type 0} {R : K → K → Ordering} (most : ℕ) → IsTotalOrder R → (es : List (K × ℕ)) → T (finmap.is_sorted R es) → Bounded most es → finmap.entries (with_counts {R = R} (sum_up_to most) finmap.empty es) ≡ es
entries_counts {R = R} most o [] h b = no_entries R
entries_counts {K} {R} most o (e ∷ es) h b =
    let p = both _ _ h in
    let m : finmap.FinMap R ℕ = with_counts (sum_up_to most) finmap.empty es in
    let rest : finmap.entries m ≡ es = entries_counts most o es p.1 b.1 in
    let none : finmap.get m e.0 ≡ None = finmap.get-entries m e.0 ∙ ap (finmap.find R e.0) rest ∙ absent_below R e.0 es p.0 in
    let value : min (count_of m e.0 + e.1) most ≡ e.1 = ap (λ v. min (unwrap_or v 0 + e.1) most) none ∙ small most e.1 b.0 in
    finmap.entries-insert o m e.0 (min (count_of m e.0 + e.1) most)
    ∙ ap (finmap.put R e.0 (min (count_of m e.0 + e.1) most)) rest
    ∙ put_below R e.0 _ es p.0
    ∙ ap (λ (v : ℕ). (e.0, v) ∷ es) value

pub entries_firsts : {K X : Type 0} {R : K → K → Ordering} → IsTotalOrder R → (es : List (K × X)) → T (finmap.is_sorted R es) → finmap.entries (finmap.from_entries {R = R} es) ≡ es
entries_firsts {R = R} o [] h = no_entries R
entries_firsts {K} {X} {R} o (e ∷ es) h =
    let p = both _ _ h in
    finmap.entries-insert o (finmap.from_entries es) e.0 e.1
    ∙ ap (finmap.put R e.0 e.1) (entries_firsts o es p.1)
    ∙ put_below R e.0 e.1 es p.0
