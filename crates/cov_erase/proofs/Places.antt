-- A place and what stands there, with and without counters.
use Rattle.std.proofs.Common.{◌≡◌, ℕ, zero, suc, Bool, true, false, cond, List, [], ◌∷◌, Option, Some, None, refl, ap, ◌∙◌, map}
use Rattle.std.specs.Prelude.{slice_get, slice_index_or}
use Rattle.std.specs.Option.{MatchOption}
use Rattle.go_meaning.specs.declared.node.Node.{Node}
use Rattle.go_meaning.specs.declared.node.NodeForm.{NodeForm}
use Rattle.go_meaning.specs.declared.node.NodeForm.TheVariants as node
use Rattle.go_meaning.specs.Programs.{Parts, list_at, form_of, form_at}
use Rattle.go_meaning.specs.Steps.{count_of}
use Rattle.go_meaning.specs.Erasing.{is_count, drop_counts, erase_program, place_in, place_of}

-- no counter stands there
abbrev pub IsPlain : Option NodeForm → Type 0
IsPlain o = count_of o ≡ None

count_of_plain : (form : NodeForm) → IsPlain (Some form) → is_count form ≡ false
count_of_plain (node.Count u) h = cc
count_of_plain form h = refl

-- the same statement stands at the place
pub node_kept : (ns : List Node) (i : ℕ) → IsPlain (form_of (slice_get ns i)) → slice_get (drop_counts ns) (place_in ns i) ≡ slice_get ns i
node_kept [] zero h = refl
node_kept [] (suc i) h = refl
node_kept (n ∷ ns) zero h = rw (count_of_plain n.form h) refl
node_kept (n ∷ ns) (suc i) h = kept (is_count n.form) (node_kept ns i h)
  where
    kept : (b : Bool) → slice_get (drop_counts ns) (place_in ns i) ≡ slice_get ns i → slice_get (cond b (drop_counts ns) (n ∷ drop_counts ns)) (cond b (place_in ns i) (suc (place_in ns i))) ≡ slice_get ns i
    kept true e = e
    kept false e = e

-- past a statement that isn't a counter the place goes on by one, and past a counter it stays
pub place_next : (ns : List Node) (i : ℕ) → IsPlain (form_of (slice_get ns i)) → MatchOption (slice_get ns i) (Unit {0}) (λ n. place_in ns (suc i) ≡ suc (place_in ns i))
place_next [] i h = tt
place_next (n ∷ ns) zero h = rw (count_of_plain n.form h) refl
place_next (n ∷ ns) (suc i) h = goes (is_count n.form) (slice_get ns i) (place_next ns i h)
  where
    goes : (b : Bool) (o : Option Node) → MatchOption o (Unit {0}) (λ m. place_in ns (suc i) ≡ suc (place_in ns i)) → MatchOption o (Unit {0}) (λ m. cond b (place_in ns (suc i)) (suc (place_in ns (suc i))) ≡ suc (cond b (place_in ns i) (suc (place_in ns i))))
    goes b None e = tt
    goes true (Some m) e = e
    goes false (Some m) e = ap suc e

pub place_past_count : (ns : List Node) (i u : ℕ) → count_of (form_of (slice_get ns i)) ≡ Some u → place_in ns (suc i) ≡ place_in ns i
place_past_count [] i u h = cc
place_past_count (n ∷ ns) zero u h = past n.form h
  where
    past : (m : NodeForm) → count_of (Some m) ≡ Some u → cond (is_count m) (place_in ns 0) (suc (place_in ns 0)) ≡ 0
    past (node.Count w) e = refl
    past form e = cc
place_past_count (n ∷ ns) (suc i) u h = goes (is_count n.form) (place_past_count ns i u h)
  where
    goes : (b : Bool) → place_in ns (suc i) ≡ place_in ns i → cond b (place_in ns (suc i)) (suc (place_in ns (suc i))) ≡ cond b (place_in ns i) (suc (place_in ns i))
    goes true e = e
    goes false e = ap suc e

-- the lists of the erased program
lists_erased : (ls : List (List Node)) (n : ℕ) → slice_index_or (map drop_counts ls) n [] ≡ drop_counts (slice_index_or ls n [])
lists_erased [] zero = refl
lists_erased [] (suc n) = refl
lists_erased (l ∷ ls) zero = refl
lists_erased (l ∷ ls) (suc n) = lists_erased ls n

pub form_erased : (Q : Parts) (n i : ℕ) → IsPlain (form_at Q n i) → form_at (erase_program Q) n (place_of Q n i) ≡ form_at Q n i
form_erased Q n i h = ap (λ ns. form_of (slice_get ns (place_of Q n i))) (lists_erased Q.lists n) ∙ ap form_of (node_kept (list_at Q n) i h)

-- where a statement stands there
pub next_place : (Q : Parts) (n i : ℕ) → IsPlain (form_at Q n i) → MatchOption (form_at Q n i) (Unit {0}) (λ form. place_of Q n (suc i) ≡ suc (place_of Q n i))
next_place Q n i h = by (slice_get (list_at Q n) i) (place_next (list_at Q n) i h)
  where
    by : (o : Option Node) → MatchOption o (Unit {0}) (λ m. place_of Q n (suc i) ≡ suc (place_of Q n i)) → MatchOption (form_of o) (Unit {0}) (λ form. place_of Q n (suc i) ≡ suc (place_of Q n i))
    by None e = tt
    by (Some m) e = e
