-- The counted program and the erased one are programs.
use Rattle.std.proofs.Common.{◌≡◌, ℕ, zero, suc, ◌+◌, ◌<◌, ◌≤◌, Bool, true, false, cond, List, [], ◌∷◌, ◌++◌, Option, Some, None, refl, sym, ap, ◌∙◌, subst, map, length, inl, inr, ◌⊎◌, arith}
use mathlib.Core.Path.{fun_ext}
use Rattle.std.specs.Prelude.{slice_get, slice_index_or, flat_map}
use Rattle.std.specs.Option.{MatchOption}
use Rattle.std.proofs.lemmas.List.{length-map}
use Rattle.go_meaning.specs.declared.program.Function.{Function}
use Rattle.go_meaning.specs.declared.node.Node.{Node}
use Rattle.go_meaning.specs.declared.node.NodeForm.{NodeForm}
use Rattle.go_meaning.specs.declared.node.NodeForm.TheVariants as node
use Rattle.go_meaning.specs.Programs.{Parts, list_at, form_of, form_at, is_cut}
use Rattle.go_meaning.specs.Lists.{Nest, Walk, one, nested_in, within, cutting_order}
use Rattle.go_meaning.specs.WellFormed.{IsWithin, IsStatement, IsProgram}
use Rattle.go_meaning.specs.Units.{is_breaker, starts_first, starts_later, units_from, units_of_list, units_in, units_of, counter, counted_from, counted_list, counted_in, counted_lists, counted}
use Rattle.go_meaning.specs.Erasing.{is_count, drop_counts, erase_program}
use Rattle.go_meaning.specs.Laws.{CountedIsProgram, ErasedIsProgram}

-- ---- counters hold no lists

abbrev nested : Walk → ℕ → List Node → List Nest
nested w m ns = flat_map (λ (s : Node). nested_in w m s.form) ns

nested_from : (w : Walk) (m u : ℕ) (b : Bool) (ns : List Node) → nested w m (counted_from u b ns) ≡ nested w m ns
nested_from w m u b [] = refl
nested_from w m u b (n ∷ ns) = by (starts_later b n.form) (nested_from w m (suc u) (is_breaker n.form) ns) (nested_from w m u (is_breaker n.form) ns)
  where
    by : (t : Bool) → nested w m (counted_from (suc u) (is_breaker n.form) ns) ≡ nested w m ns → nested w m (counted_from u (is_breaker n.form) ns) ≡ nested w m ns → nested w m (cond t (counter u ∷ n ∷ counted_from (suc u) (is_breaker n.form) ns) (n ∷ counted_from u (is_breaker n.form) ns)) ≡ nested w m (n ∷ ns)
    by true e f = ap (λ l. nested_in w m n.form ++ l) e
    by false e f = ap (λ l. nested_in w m n.form ++ l) f

nested_list : (w : Walk) (m u : ℕ) (ns : List Node) → nested w m (counted_list u ns) ≡ nested w m ns
nested_list w m u [] = refl
nested_list w m u (n ∷ ns) = by (starts_first n.form)
  where
    by : (t : Bool) → nested w m (cond t (counter u ∷ n ∷ counted_from (suc u) (is_breaker n.form) ns) (n ∷ counted_from u (is_breaker n.form) ns)) ≡ nested w m (n ∷ ns)
    by true = ap (λ l. nested_in w m n.form ++ l) (nested_from w m (suc u) (is_breaker n.form) ns)
    by false = ap (λ l. nested_in w m n.form ++ l) (nested_from w m u (is_breaker n.form) ns)

nested_counted : (w : Walk) (m : ℕ) (b : Bool) (u : ℕ) (ns : List Node) → nested w m (counted_in b u ns) ≡ nested w m ns
nested_counted w m false u ns = refl
nested_counted w m true u ns = nested_list w m u ns

count_nests : (w : Walk) (m : ℕ) (form : NodeForm) → is_count form ≡ true → nested_in w m form ≡ []
count_nests w m (node.Count u) h = refl
count_nests w m form h = cc

nested_dropped : (w : Walk) (m : ℕ) (ns : List Node) → nested w m (drop_counts ns) ≡ nested w m ns
nested_dropped w m [] = refl
nested_dropped w m (n ∷ ns) = by (is_count n.form) refl (nested_dropped w m ns)
  where
    by : (t : Bool) → is_count n.form ≡ t → nested w m (drop_counts ns) ≡ nested w m ns → nested w m (cond t (drop_counts ns) (n ∷ drop_counts ns)) ≡ nested w m (n ∷ ns)
    by true e h = h ∙ sym (ap (λ l. l ++ nested w m ns) (count_nests w m n.form e))
    by false e h = ap (λ l. nested_in w m n.form ++ l) h

-- ---- the lists of the counted program, and its counters

record IsCountedList (ns counted_ns : List Node) (below : ℕ) : Type 0 where
  first : ℕ
  cut : Bool
  list : counted_ns ≡ counted_in cut first ns
  units : first + units_in cut ns ≤ below

list_counted : (cut : ℕ → Bool) (u k : ℕ) (ls : List (List Node)) (n : ℕ) → IsCountedList (slice_index_or ls n []) (slice_index_or (counted_lists cut u k ls) n []) (u + units_of cut k ls)
list_counted cut u k [] zero = record { first = u; cut = false; list = refl; units = omega arith }
list_counted cut u k [] (suc n) = record { first = u; cut = false; list = refl; units = omega arith }
list_counted cut u k (l ∷ ls) zero = record { first = u; cut = cut k; list = refl; units = omega arith }
list_counted cut u k (l ∷ ls) (suc n) =
    let h = list_counted cut (u + units_in (cut k) l) (suc k) ls n in
    record { first = h.first; cut = h.cut; list = h.list; units = omega (arith, h.units) }

-- a counter of a unit below a number, or a statement of the list
abbrev IsFrom : List Node → ℕ → NodeForm → Type 0
IsFrom ns below form = ((w : ℕ) × (form ≡ node.Count w) × (w < below)) ⊎ ((j : ℕ) × (form_of (slice_get ns j) ≡ Some form))

abbrev AreFrom : List Node → ℕ → Option NodeForm → Type 0
AreFrom ns below o = MatchOption o (Unit {0}) (IsFrom ns below)

later : (n : Node) (ns : List Node) (below below' : ℕ) → below ≤ below' → (o : Option NodeForm) → AreFrom ns below o → AreFrom (n ∷ ns) below' o
later n ns below below' h None a = tt
later n ns below below' h (Some form) (inl x) = inl (x.0, x.1, omega (arith, h, x.2))
later n ns below below' h (Some form) (inr x) = inr (suc x.0, x.1)

from_later : (u : ℕ) (b : Bool) (ns : List Node) (i : ℕ) → AreFrom ns (u + units_from b ns) (form_of (slice_get (counted_from u b ns) i))
from_later u b [] zero = tt
from_later u b [] (suc i) = tt
from_later u b (n ∷ ns) i = by (starts_later b n.form) i (λ j. from_later (suc u) (is_breaker n.form) ns j) (λ j. from_later u (is_breaker n.form) ns j)
  where
    by : (t : Bool) (i : ℕ) → ((j : ℕ) → AreFrom ns (suc u + units_from (is_breaker n.form) ns) (form_of (slice_get (counted_from (suc u) (is_breaker n.form) ns) j))) → ((j : ℕ) → AreFrom ns (u + units_from (is_breaker n.form) ns) (form_of (slice_get (counted_from u (is_breaker n.form) ns) j))) → AreFrom (n ∷ ns) (u + cond t (suc (units_from (is_breaker n.form) ns)) (units_from (is_breaker n.form) ns)) (form_of (slice_get (cond t (counter u ∷ n ∷ counted_from (suc u) (is_breaker n.form) ns) (n ∷ counted_from u (is_breaker n.form) ns)) i))
    by true zero f g = inl (u, refl, omega arith)
    by true (suc zero) f g = inr (0, refl)
    by true (suc (suc j)) f g = later n ns (suc u + units_from (is_breaker n.form) ns) _ (omega arith) (form_of (slice_get (counted_from (suc u) (is_breaker n.form) ns) j)) (f j)
    by false zero f g = inr (0, refl)
    by false (suc j) f g = later n ns (u + units_from (is_breaker n.form) ns) _ (omega arith) (form_of (slice_get (counted_from u (is_breaker n.form) ns) j)) (g j)

from_list : (u : ℕ) (ns : List Node) (i : ℕ) → AreFrom ns (u + units_of_list ns) (form_of (slice_get (counted_list u ns) i))
from_list u [] zero = inl (u, refl, omega arith)
from_list u [] (suc zero) = tt
from_list u [] (suc (suc i)) = tt
from_list u (n ∷ ns) i = by (starts_first n.form) i
  where
    by : (t : Bool) (i : ℕ) → AreFrom (n ∷ ns) (u + cond t (suc (units_from (is_breaker n.form) ns)) (units_from (is_breaker n.form) ns)) (form_of (slice_get (cond t (counter u ∷ n ∷ counted_from (suc u) (is_breaker n.form) ns) (n ∷ counted_from u (is_breaker n.form) ns)) i))
    by true zero = inl (u, refl, omega arith)
    by true (suc zero) = inr (0, refl)
    by true (suc (suc j)) = later n ns (suc u + units_from (is_breaker n.form) ns) _ (omega arith) (form_of (slice_get (counted_from (suc u) (is_breaker n.form) ns) j)) (from_later (suc u) (is_breaker n.form) ns j)
    by false zero = inr (0, refl)
    by false (suc j) = later n ns (u + units_from (is_breaker n.form) ns) _ (omega arith) (form_of (slice_get (counted_from u (is_breaker n.form) ns) j)) (from_later u (is_breaker n.form) ns j)

own : (ns : List Node) (below : ℕ) (i : ℕ) (o : Option NodeForm) → form_of (slice_get ns i) ≡ o → AreFrom ns below o
own ns below i None e = tt
own ns below i (Some form) e = inr (i, e)

from_counted : (b : Bool) (u : ℕ) (ns : List Node) (i : ℕ) → AreFrom ns (u + units_in b ns) (form_of (slice_get (counted_in b u ns) i))
from_counted false u ns i = own ns _ i (form_of (slice_get ns i)) refl
from_counted true u ns i = from_list u ns i

length_counted : (cut : ℕ → Bool) (u k : ℕ) (ls : List (List Node)) → length (counted_lists cut u k ls) ≡ length ls
length_counted cut u k [] = refl
length_counted cut u k (l ∷ ls) = ap suc (length_counted cut (u + units_in (cut k) l) (suc k) ls)

-- ---- two programs whose lists nest alike

module _ (P Q : Parts) (lists : length Q.lists ≡ length P.lists) (nests : (w : Walk) (m n : ℕ) → nested w m (list_at Q n) ≡ nested w m (list_at P n)) where
  same_within : (depth m n : ℕ) → within Q depth m n ≡ within P depth m n
  same_within zero m n = refl
  same_within (suc depth) m n =
      nests (within Q depth) m n
      ∙ ap (λ w. nested w m (list_at P n)) (fun_ext (λ a. fun_ext (λ b. same_within depth a b)))

  same_order : Q.functions ≡ P.functions → cutting_order Q ≡ cutting_order P
  same_order e =
      ap (λ fs. flat_map (λ (f : Function). one (within Q (length Q.lists)) 0 f.body) fs) e
      ∙ ap (λ d. flat_map (λ (f : Function). one (within Q d) 0 f.body) P.functions) lists
      ∙ ap (λ w. flat_map (λ (f : Function). one w 0 f.body) P.functions) (fun_ext (λ a. fun_ext (λ b. same_within (length P.lists) a b)))

-- ---- the counted program

module _ (P : Parts) (ok : IsProgram P) (none : P.units ≡ 0) where
  counted_length : length (counted P).lists ≡ length P.lists
  unfolding counted
  counted_length = length_counted (is_cut P) 0 0 P.lists

  counted_at : (n : ℕ) → IsCountedList (list_at P n) (list_at (counted P) n) (counted P).units
  unfolding counted
  counted_at n =
      let h = list_counted (is_cut P) 0 0 P.lists n in
      record { first = h.first; cut = h.cut; list = h.list; units = omega (arith, h.units) }

  counted_nests : (w : Walk) (m n : ℕ) → nested w m (list_at (counted P) n) ≡ nested w m (list_at P n)
  counted_nests w m n = let h = counted_at n in ap (nested w m) h.list ∙ nested_counted w m h.cut h.first (list_at P n)

  counted_functions : (counted P).functions ≡ P.functions
  unfolding counted
  counted_functions = refl

  counted_order : cutting_order (counted P) ≡ cutting_order P
  counted_order = same_order P (counted P) counted_length counted_nests counted_functions

  within_more : (m : ℕ) (form : NodeForm) → IsWithin P m form → IsWithin (counted P) m form
  within_more m (node.Count u) h = absurd (omega (arith, h, none))
  within_more m (node.Break k) h = h
  within_more m (node.Continue k) h = h
  within_more m (node.Fallthrough l) h = omega (arith, h, counted_length)
  within_more m (node.Select cs) h = h
  within_more m form h = tt

  statement_counted : (at : Nest) (form : NodeForm) → IsStatement P at form → IsStatement (counted P) at form
  unfolding counted
  statement_counted at form h = record { uses = h.uses; within = within_more at.marks form h.within }

  counter_is : (at : Nest) (w : ℕ) → w < (counted P).units → IsStatement (counted P) at (node.Count w)
  counter_is at w h = record { uses = tt; within = h }

  abbrev AreStatements : Parts → Option Nest → ℕ → Type 0
  AreStatements X o i = MatchOption o (Unit {0}) (λ at. MatchOption (form_at X at.list i) (Unit {0}) (IsStatement X at))

  statements_at : (at : Nest) → ((j : ℕ) → MatchOption (form_at P at.list j) (Unit {0}) (IsStatement P at)) → (i : ℕ) → MatchOption (form_at (counted P) at.list i) (Unit {0}) (IsStatement (counted P) at)
  statements_at at h i =
      let c = counted_at at.list in
      let F : List Node → Type 0 = λ l. MatchOption (form_of (slice_get l i)) (Unit {0}) (IsStatement (counted P) at) in
      subst F (sym c.list) (by (form_of (slice_get (counted_in c.cut c.first (list_at P at.list)) i)) (from_counted c.cut c.first (list_at P at.list) i) c.units)
    where
      by : (o : Option NodeForm) → {below : ℕ} → AreFrom (list_at P at.list) below o → below ≤ (counted P).units → MatchOption o (Unit {0}) (IsStatement (counted P) at)
      by None a b = tt
      by (Some form) (inl x) b = let G : NodeForm → Type 0 = IsStatement (counted P) at in subst G (sym x.1) (counter_is at x.0 (omega (arith, x.2, b)))
      by (Some form) (inr x) b =
          let H : Option NodeForm → Type 0 = λ o. MatchOption o (Unit {0}) (IsStatement P at) in
          statement_counted at form (subst H x.1 (h x.0))

  statements_counted : (o : Option Nest) → ((j : ℕ) → AreStatements P o j) → (i : ℕ) → AreStatements (counted P) o i
  statements_counted None h i = tt
  statements_counted (Some at) h i = statements_at at h i

  pub is_program : IsProgram (counted P)
  unfolding counted
  is_program = record {
    ordered = ap (map (λ (n : Nest). n.list)) counted_order ∙ ok.ordered ∙ ap (Rattle.std.specs.List.range_with_len 0) (sym counted_length);
    statements = λ k i. let F : List Nest → Type 0 = λ l. AreStatements (counted P) (slice_get l k) i in subst F (sym counted_order) (statements_counted (slice_get (cutting_order P) k) (λ j. ok.statements k j) i);
    params = ok.params;
    main = ok.main;
    packages = ok.packages;
  }

pub counted_is_program : CountedIsProgram
counted_is_program P ok none = is_program P ok none

-- ---- the erased program

lists_dropped : (ls : List (List Node)) (n : ℕ) → slice_index_or (map drop_counts ls) n [] ≡ drop_counts (slice_index_or ls n [])
lists_dropped [] zero = refl
lists_dropped [] (suc n) = refl
lists_dropped (l ∷ ls) zero = refl
lists_dropped (l ∷ ls) (suc n) = lists_dropped ls n

-- a statement of the list that is no counter
abbrev IsKept : List Node → NodeForm → Type 0
IsKept ns form = (is_count form ≡ false) × ((j : ℕ) × (form_of (slice_get ns j) ≡ Some form))

kept_later : (n : Node) (ns : List Node) (o : Option NodeForm) → MatchOption o (Unit {0}) (IsKept ns) → MatchOption o (Unit {0}) (IsKept (n ∷ ns))
kept_later n ns None h = tt
kept_later n ns (Some form) h = (h.0, (suc h.1.0, h.1.1))

kept : (ns : List Node) (i : ℕ) → MatchOption (form_of (slice_get (drop_counts ns) i)) (Unit {0}) (IsKept ns)
kept [] zero = tt
kept [] (suc i) = tt
kept (n ∷ ns) i = by (is_count n.form) refl i (kept ns)
  where
    by : (t : Bool) → is_count n.form ≡ t → (i : ℕ) → ((j : ℕ) → MatchOption (form_of (slice_get (drop_counts ns) j)) (Unit {0}) (IsKept ns)) → MatchOption (form_of (slice_get (cond t (drop_counts ns) (n ∷ drop_counts ns)) i)) (Unit {0}) (IsKept (n ∷ ns))
    by true e i h = kept_later n ns (form_of (slice_get (drop_counts ns) i)) (h i)
    by false e zero h = (e, (0, refl))
    by false e (suc i) h = kept_later n ns (form_of (slice_get (drop_counts ns) i)) (h i)

module _ (Q : Parts) (ok : IsProgram Q) where
  abbrev E : Parts
  E = erase_program Q

  erased_length : length E.lists ≡ length Q.lists
  erased_length = length-map Q.lists drop_counts

  erased_nests : (w : Walk) (m n : ℕ) → nested w m (list_at E n) ≡ nested w m (list_at Q n)
  erased_nests w m n = ap (nested w m) (lists_dropped Q.lists n) ∙ nested_dropped w m (list_at Q n)

  erased_order : cutting_order E ≡ cutting_order Q
  erased_order = same_order Q E erased_length erased_nests refl

  within_erased : (m : ℕ) (form : NodeForm) → is_count form ≡ false → IsWithin Q m form → IsWithin E m form
  within_erased m (node.Count u) e h = cc
  within_erased m (node.Break k) e h = h
  within_erased m (node.Continue k) e h = h
  within_erased m (node.Fallthrough l) e h = omega (arith, h, erased_length)
  within_erased m (node.Select cs) e h = h
  within_erased m form e h = tt

  statement_erased : (at : Nest) (form : NodeForm) → is_count form ≡ false → IsStatement Q at form → IsStatement E at form
  statement_erased at form e h = record { uses = h.uses; within = within_erased at.marks form e h.within }

  abbrev AreIn : Parts → Option Nest → ℕ → Type 0
  AreIn X o i = MatchOption o (Unit {0}) (λ at. MatchOption (form_at X at.list i) (Unit {0}) (IsStatement X at))

  erased_at : (at : Nest) → ((j : ℕ) → MatchOption (form_at Q at.list j) (Unit {0}) (IsStatement Q at)) → (i : ℕ) → MatchOption (form_at E at.list i) (Unit {0}) (IsStatement E at)
  erased_at at h i =
      let F : List Node → Type 0 = λ l. MatchOption (form_of (slice_get l i)) (Unit {0}) (IsStatement E at) in
      subst F (sym (lists_dropped Q.lists at.list)) (by (form_of (slice_get (drop_counts (list_at Q at.list)) i)) (kept (list_at Q at.list) i))
    where
      by : (o : Option NodeForm) → MatchOption o (Unit {0}) (IsKept (list_at Q at.list)) → MatchOption o (Unit {0}) (IsStatement E at)
      by None k = tt
      by (Some form) k =
          let H : Option NodeForm → Type 0 = λ o. MatchOption o (Unit {0}) (IsStatement Q at) in
          statement_erased at form k.0 (subst H k.1.1 (h k.1.0))

  statements_erased : (o : Option Nest) → ((j : ℕ) → AreIn Q o j) → (i : ℕ) → AreIn E o i
  statements_erased None h i = tt
  statements_erased (Some at) h i = erased_at at h i

  pub erased_program : IsProgram E
  erased_program = record {
    ordered = ap (map (λ (n : Nest). n.list)) erased_order ∙ ok.ordered ∙ ap (Rattle.std.specs.List.range_with_len 0) (sym erased_length);
    statements = λ k i. let F : List Nest → Type 0 = λ l. AreIn E (slice_get l k) i in subst F (sym erased_order) (statements_erased (slice_get (cutting_order Q) k) (λ j. ok.statements k j) i);
    params = ok.params;
    main = ok.main;
    packages = ok.packages;
  }

pub erased_is_program : ErasedIsProgram
erased_is_program Q ok = erased_program Q ok
