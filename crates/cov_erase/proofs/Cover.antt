-- What stands at the places of a covered program.
use Rattle.std.proofs.Common.{◌≡◌, ℕ, zero, suc, ◌+◌, Bool, true, false, cond, List, [], ◌∷◌, Option, Some, None, refl, sym, ap, ◌∙◌, map}
use Rattle.std.specs.Prelude.{slice_get, slice_index_or}
use Rattle.std.proofs.lemmas.Option.{none-some}
use Rattle.go_meaning.specs.declared.node.Node.{Node}
use Rattle.go_meaning.specs.declared.node.NodeForm.{NodeForm}
use Rattle.go_meaning.specs.declared.node.NodeForm.TheVariants as node
use Rattle.go_meaning.specs.Programs.{Parts, list_at, form_of, form_at, is_cut}
use Rattle.go_meaning.specs.Steps.{count_of}
use Rattle.go_meaning.specs.Erasing.{is_count, drop_counts, erase_program, place_in, place_of, IsPlainList, ArePlain, IsUncounted}
use Rattle.go_meaning.specs.Units.{is_breaker, starts_first, starts_later, units_in, unit_from, unit_of_list, unit_in, unit_in_lists, unit_at, counter, counted_from, counted_list, counted_in, counted_lists, counted}
use Rattle.cov_erase.proofs.Places.{IsPlain}

pub plain_form : (form : NodeForm) → is_count form ≡ false → IsPlain (Some form)
plain_form (node.Count u) h = cc
plain_form form h = refl

abbrev pub IsOther : Option NodeForm → Type 0
IsOther None = ⊥
IsOther (Some form) = is_count form ≡ false

-- the place is the first, or a statement that is no counter stands just before it
abbrev pub IsFresh : List Node → ℕ → Type 0
IsFresh ns zero = Unit {0}
IsFresh ns (suc i) = IsOther (form_of (slice_get ns i))

fresh_tail : (n : Node) (ns : List Node) (i : ℕ) → IsFresh (n ∷ ns) (suc i) → IsFresh ns i
fresh_tail n ns zero h = tt
fresh_tail n ns (suc i) h = h

-- ---- dropping the counters gives the lists back

dropped_plain : (ns : List Node) → IsPlainList ns → drop_counts ns ≡ ns
dropped_plain [] h = refl
dropped_plain (n ∷ ns) h = rw h.0 (ap (λ l. n ∷ l) (dropped_plain ns h.1))

dropped_from : (u : ℕ) (b : Bool) (ns : List Node) → IsPlainList ns → drop_counts (counted_from u b ns) ≡ ns
dropped_from u b [] h = refl
dropped_from u b (n ∷ ns) h = by (starts_later b n.form) (dropped_from (suc u) (is_breaker n.form) ns h.1) (dropped_from u (is_breaker n.form) ns h.1)
  where
    by : (t : Bool) → drop_counts (counted_from (suc u) (is_breaker n.form) ns) ≡ ns → drop_counts (counted_from u (is_breaker n.form) ns) ≡ ns → drop_counts (cond t (counter u ∷ n ∷ counted_from (suc u) (is_breaker n.form) ns) (n ∷ counted_from u (is_breaker n.form) ns)) ≡ n ∷ ns
    by true e f = rw h.0 (ap (λ l. n ∷ l) e)
    by false e f = rw h.0 (ap (λ l. n ∷ l) f)

dropped_list : (u : ℕ) (ns : List Node) → IsPlainList ns → drop_counts (counted_list u ns) ≡ ns
dropped_list u [] h = refl
dropped_list u (n ∷ ns) h = by (starts_first n.form)
  where
    by : (t : Bool) → drop_counts (cond t (counter u ∷ n ∷ counted_from (suc u) (is_breaker n.form) ns) (n ∷ counted_from u (is_breaker n.form) ns)) ≡ n ∷ ns
    by true = rw h.0 (ap (λ l. n ∷ l) (dropped_from (suc u) (is_breaker n.form) ns h.1))
    by false = rw h.0 (ap (λ l. n ∷ l) (dropped_from u (is_breaker n.form) ns h.1))

dropped_in : (b : Bool) (u : ℕ) (ns : List Node) → IsPlainList ns → drop_counts (counted_in b u ns) ≡ ns
dropped_in false u ns h = dropped_plain ns h
dropped_in true u ns h = dropped_list u ns h

dropped_lists : (cut : ℕ → Bool) (u k : ℕ) (ls : List (List Node)) → ArePlain ls → map drop_counts (counted_lists cut u k ls) ≡ ls
dropped_lists cut u k [] h = refl
dropped_lists cut u k (l ∷ ls) h = ap (λ x. x ∷ map drop_counts (counted_lists cut (u + units_in (cut k) l) (suc k) ls)) (dropped_in (cut k) u l h.0) ∙ ap (λ xs. l ∷ xs) (dropped_lists cut (u + units_in (cut k) l) (suc k) ls h.1)

pub erased_counted : (P : Parts) → IsUncounted P → erase_program (counted P) ≡ P
unfolding counted
erased_counted P h =
    ap (λ ls. record P { lists = ls; units = 0 }) (dropped_lists (is_cut P) 0 0 P.lists h.lists)
    ∙ ap (λ n. record P { units = n }) (sym h.units)

-- ---- the unit of a place is that of the counter there

unit_from_is : (u : ℕ) (b : Bool) (ns : List Node) (j : ℕ) → IsPlainList ns → IsFresh (counted_from u b ns) j → unit_from u b ns (place_in (counted_from u b ns) j) ≡ count_of (form_of (slice_get (counted_from u b ns) j))
unit_from_is u b [] zero h f = refl
unit_from_is u b [] (suc j) h f = refl
unit_from_is u b (n ∷ ns) j h f = by (starts_later b n.form) refl j (λ k g. unit_from_is (suc u) (is_breaker n.form) ns k h.1 g) (λ k g. unit_from_is u (is_breaker n.form) ns k h.1 g) f
  where
    by : (t : Bool) → starts_later b n.form ≡ t → (j : ℕ) → ((k : ℕ) → IsFresh (counted_from (suc u) (is_breaker n.form) ns) k → unit_from (suc u) (is_breaker n.form) ns (place_in (counted_from (suc u) (is_breaker n.form) ns) k) ≡ count_of (form_of (slice_get (counted_from (suc u) (is_breaker n.form) ns) k))) → ((k : ℕ) → IsFresh (counted_from u (is_breaker n.form) ns) k → unit_from u (is_breaker n.form) ns (place_in (counted_from u (is_breaker n.form) ns) k) ≡ count_of (form_of (slice_get (counted_from u (is_breaker n.form) ns) k))) → IsFresh (cond t (counter u ∷ n ∷ counted_from (suc u) (is_breaker n.form) ns) (n ∷ counted_from u (is_breaker n.form) ns)) j → unit_from u b (n ∷ ns) (place_in (cond t (counter u ∷ n ∷ counted_from (suc u) (is_breaker n.form) ns) (n ∷ counted_from u (is_breaker n.form) ns)) j) ≡ count_of (form_of (slice_get (cond t (counter u ∷ n ∷ counted_from (suc u) (is_breaker n.form) ns) (n ∷ counted_from u (is_breaker n.form) ns)) j))
    by true e zero take skip f = rw e refl
    by true e (suc zero) take skip f = absurd cc
    by true e (suc (suc k)) take skip f = rw (h.0, e) (take k (fresh_tail n _ k f))
    by false e zero take skip f = rw e (sym (plain_form n.form h.0))
    by false e (suc k) take skip f = rw (h.0, e) (skip k (fresh_tail n _ k f))

unit_of_list_is : (u : ℕ) (ns : List Node) (j : ℕ) → IsPlainList ns → IsFresh (counted_list u ns) j → unit_of_list u ns (place_in (counted_list u ns) j) ≡ count_of (form_of (slice_get (counted_list u ns) j))
unit_of_list_is u [] zero h f = refl
unit_of_list_is u [] (suc zero) h f = absurd cc
unit_of_list_is u [] (suc (suc j)) h f = absurd f
unit_of_list_is u (n ∷ ns) j h f = by (starts_first n.form) refl j f
  where
    by : (t : Bool) → starts_first n.form ≡ t → (j : ℕ) → IsFresh (cond t (counter u ∷ n ∷ counted_from (suc u) (is_breaker n.form) ns) (n ∷ counted_from u (is_breaker n.form) ns)) j → unit_of_list u (n ∷ ns) (place_in (cond t (counter u ∷ n ∷ counted_from (suc u) (is_breaker n.form) ns) (n ∷ counted_from u (is_breaker n.form) ns)) j) ≡ count_of (form_of (slice_get (cond t (counter u ∷ n ∷ counted_from (suc u) (is_breaker n.form) ns) (n ∷ counted_from u (is_breaker n.form) ns)) j))
    by true e zero f = rw e refl
    by true e (suc zero) f = absurd cc
    by true e (suc (suc k)) f = rw (h.0, e) (unit_from_is (suc u) (is_breaker n.form) ns k h.1 (fresh_tail n _ k f))
    by false e zero f = rw e (sym (plain_form n.form h.0))
    by false e (suc k) f = rw (h.0, e) (unit_from_is u (is_breaker n.form) ns k h.1 (fresh_tail n _ k f))

plain_get : (ns : List Node) (i : ℕ) → IsPlainList ns → IsPlain (form_of (slice_get ns i))
plain_get [] i h = refl
plain_get (n ∷ ns) zero h = plain_form n.form h.0
plain_get (n ∷ ns) (suc i) h = plain_get ns i h.1

pub plain_lists : (ls : List (List Node)) (n i : ℕ) → ArePlain ls → IsPlain (form_of (slice_get (slice_index_or ls n []) i))
plain_lists [] zero i h = refl
plain_lists [] (suc n) i h = refl
plain_lists (l ∷ ls) zero i h = plain_get l i h.0
plain_lists (l ∷ ls) (suc n) i h = plain_lists ls n i h.1

unit_in_is : (b : Bool) (u : ℕ) (ns : List Node) (j : ℕ) → IsPlainList ns → IsFresh (counted_in b u ns) j → unit_in b u ns (place_in (counted_in b u ns) j) ≡ count_of (form_of (slice_get (counted_in b u ns) j))
unit_in_is false u ns j h f = sym (plain_get ns j h)
unit_in_is true u ns j h f = unit_of_list_is u ns j h f

-- in each list
fresh_in_lists : (cut : ℕ → Bool) (u k : ℕ) (ls : List (List Node)) (n j : ℕ) → ArePlain ls → IsFresh (slice_index_or (counted_lists cut u k ls) n []) j → unit_in_lists cut u k ls n (place_in (slice_index_or (counted_lists cut u k ls) n []) j) ≡ count_of (form_of (slice_get (slice_index_or (counted_lists cut u k ls) n []) j))
fresh_in_lists cut u k [] zero j h f = refl
fresh_in_lists cut u k [] (suc n) j h f = refl
fresh_in_lists cut u k (l ∷ ls) zero j h f = unit_in_is (cut k) u l j h.0 f
fresh_in_lists cut u k (l ∷ ls) (suc n) j h f = fresh_in_lists cut (u + units_in (cut k) l) (suc k) ls n j h.1 f

-- the unit of a fresh place is that of the counter there
pub unit_at_fresh : (P : Parts) → IsUncounted P → (n j : ℕ) → IsFresh (list_at (counted P) n) j → unit_at P n (place_of (counted P) n j) ≡ count_of (form_at (counted P) n j)
unfolding counted unit_at
unit_at_fresh P h n j f = fresh_in_lists (is_cut P) 0 0 P.lists n j h.lists f

-- ---- no two counters stand together

apart_from : (u : ℕ) (b : Bool) (ns : List Node) (j w : ℕ) → IsPlainList ns → count_of (form_of (slice_get (counted_from u b ns) j)) ≡ Some w → IsPlain (form_of (slice_get (counted_from u b ns) (suc j)))
apart_from u b [] j w h e = refl
apart_from u b (n ∷ ns) j w h e = by (starts_later b n.form) j (λ k g. apart_from (suc u) (is_breaker n.form) ns k w h.1 g) (λ k g. apart_from u (is_breaker n.form) ns k w h.1 g) e
  where
    by : (t : Bool) (j : ℕ) → ((k : ℕ) → count_of (form_of (slice_get (counted_from (suc u) (is_breaker n.form) ns) k)) ≡ Some w → IsPlain (form_of (slice_get (counted_from (suc u) (is_breaker n.form) ns) (suc k)))) → ((k : ℕ) → count_of (form_of (slice_get (counted_from u (is_breaker n.form) ns) k)) ≡ Some w → IsPlain (form_of (slice_get (counted_from u (is_breaker n.form) ns) (suc k)))) → count_of (form_of (slice_get (cond t (counter u ∷ n ∷ counted_from (suc u) (is_breaker n.form) ns) (n ∷ counted_from u (is_breaker n.form) ns)) j)) ≡ Some w → IsPlain (form_of (slice_get (cond t (counter u ∷ n ∷ counted_from (suc u) (is_breaker n.form) ns) (n ∷ counted_from u (is_breaker n.form) ns)) (suc j)))
    by true zero take skip g = plain_form n.form h.0
    by true (suc zero) take skip g = let p = plain_form n.form h.0 in absurd (none-some w (sym p ∙ g))
    by true (suc (suc k)) take skip g = take k g
    by false zero take skip g = let p = plain_form n.form h.0 in absurd (none-some w (sym p ∙ g))
    by false (suc k) take skip g = skip k g

apart_list : (u : ℕ) (ns : List Node) (j w : ℕ) → IsPlainList ns → count_of (form_of (slice_get (counted_list u ns) j)) ≡ Some w → IsPlain (form_of (slice_get (counted_list u ns) (suc j)))
apart_list u [] zero w h e = refl
apart_list u [] (suc j) w h e = refl
apart_list u (n ∷ ns) j w h e = by (starts_first n.form) j e
  where
    by : (t : Bool) (j : ℕ) → count_of (form_of (slice_get (cond t (counter u ∷ n ∷ counted_from (suc u) (is_breaker n.form) ns) (n ∷ counted_from u (is_breaker n.form) ns)) j)) ≡ Some w → IsPlain (form_of (slice_get (cond t (counter u ∷ n ∷ counted_from (suc u) (is_breaker n.form) ns) (n ∷ counted_from u (is_breaker n.form) ns)) (suc j)))
    by true zero g = plain_form n.form h.0
    by true (suc zero) g = let p = plain_form n.form h.0 in absurd (none-some w (sym p ∙ g))
    by true (suc (suc k)) g = apart_from (suc u) (is_breaker n.form) ns k w h.1 g
    by false zero g = let p = plain_form n.form h.0 in absurd (none-some w (sym p ∙ g))
    by false (suc k) g = apart_from u (is_breaker n.form) ns k w h.1 g

apart_in : (b : Bool) (u : ℕ) (ns : List Node) (j w : ℕ) → IsPlainList ns → count_of (form_of (slice_get (counted_in b u ns) j)) ≡ Some w → IsPlain (form_of (slice_get (counted_in b u ns) (suc j)))
apart_in false u ns j w h e = plain_get ns (suc j) h
apart_in true u ns j w h e = apart_list u ns j w h e

apart_lists : (cut : ℕ → Bool) (u k : ℕ) (ls : List (List Node)) (n j w : ℕ) → ArePlain ls → count_of (form_of (slice_get (slice_index_or (counted_lists cut u k ls) n []) j)) ≡ Some w → IsPlain (form_of (slice_get (slice_index_or (counted_lists cut u k ls) n []) (suc j)))
apart_lists cut u k [] n j w h e = by n
  where
    by : (n : ℕ) → IsPlain (form_of (slice_get (slice_index_or [] n []) (suc j)))
    by zero = refl
    by (suc n) = refl
apart_lists cut u k (l ∷ ls) zero j w h e = apart_in (cut k) u l j w h.0 e
apart_lists cut u k (l ∷ ls) (suc n) j w h e = apart_lists cut (u + units_in (cut k) l) (suc k) ls n j w h.1 e

pub apart : (P : Parts) → IsUncounted P → (n j w : ℕ) → count_of (form_at (counted P) n j) ≡ Some w → IsPlain (form_at (counted P) n (suc j))
unfolding counted
apart P h n j w e = apart_lists (is_cut P) 0 0 P.lists n j w h.lists e
