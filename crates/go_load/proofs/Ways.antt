-- Lists that lead back to a start past packages that were met.
use Rattle.std.proofs.Common.{◌≡◌, ℕ, ◌+◌, ◌<◌, ◌⊎◌, inl, inr, ⊎_elim, Bool, true, false, List, [], ◌∷◌, ◌++◌, length, sym, ap, subst, ◌∙◌, arith, set, get_or, get_or-set_same, get_or-set_other}
use Rattle.std.specs.Prelude.{not, cond}
use Rattle.std.specs.List.{Contains}
use Rattle.std.proofs.lemmas.Bool.{cases_eq}
use Rattle.std.proofs.lemmas.List.Elements.{Contains-append_left, Contains-push, Contains-push_cases}
use Rattle.std.proofs.lemmas.List.Sums.{sum_by-set}
use Rattle.go_load.specs.Graph.{Rows, LeadsBack}
use Rattle.go_load.specs.Marks.{is_marked, count_unmarked, IsDead, IsSearched}

-- ---- membership

in_last : (xs : List ℕ) (v x : ℕ) → v ≡ x → Contains (xs ++ v ∷ []) x
in_last xs v x e = subst (Contains (xs ++ v ∷ [])) e (Contains-push xs v)

in_front : (xs : List ℕ) (v x : ℕ) → Contains xs x → Contains (xs ++ v ∷ []) x
in_front xs v x c = Contains-append_left xs (v ∷ []) x c

-- one more on both sides
more : (xs ys : List ℕ) (v : ℕ) → ((x : ℕ) → Contains xs x → Contains ys x) → (x : ℕ) → Contains (xs ++ v ∷ []) x → Contains (ys ++ v ∷ []) x
more xs ys v f x c = ⊎_elim (λ a. in_front ys v x (f x a)) (λ e. in_last ys v x e) (Contains-push_cases xs v x c)

more_but : (xs ys : List ℕ) (v w : ℕ) → ((x : ℕ) → Contains xs x → Contains ys x ⊎ (v ≡ x)) → (x : ℕ) → Contains (xs ++ w ∷ []) x → Contains (ys ++ w ∷ []) x ⊎ (v ≡ x)
more_but xs ys v w f x c =
    ⊎_elim (λ a. ⊎_elim (λ b. inl (in_front ys w x b)) (λ e. inr e) (f x a)) (λ e. inl (in_last ys w x e)) (Contains-push_cases xs w x c)

-- ---- past fewer, or through one

-- what leads back past packages does so past fewer
pub past_fewer : (graph : Rows) (start u : ℕ) (us met met' : List ℕ) → ((x : ℕ) → Contains met' x → Contains met x) → LeadsBack graph start met u us → LeadsBack graph start met' u us
past_fewer graph start u [] met met' f h = h
past_fewer graph start u (v ∷ vs) met met' f h = (h.0, h.1, λ c. h.2 (f v c), past_fewer graph start v vs (met ++ v ∷ []) (met' ++ v ∷ []) (more met' met v f) h.3)

-- what leads back past some does so past one more too, or leads through that one
pub past_or_through : (graph : Rows) (start v : ℕ) (base : List ℕ) (u : ℕ) (us met met' : List ℕ) → ((x : ℕ) → Contains met' x → Contains met x ⊎ (v ≡ x)) → ((x : ℕ) → Contains base x → Contains met x)
    → LeadsBack graph start met u us → LeadsBack graph start met' u us ⊎ ((ws : List ℕ) × LeadsBack graph start (base ++ v ∷ []) v ws)
past_or_through graph start v base u [] met met' f g h = inl h
past_or_through graph start v base u (w ∷ ws) met met' f g h =
    ⊎_elim
    (λ same.
    inr (ws, past_fewer graph start v ws (met ++ v ∷ []) (base ++ v ∷ []) (more base met v g) (subst (λ (z : ℕ). LeadsBack graph start (met ++ z ∷ []) z ws) (sym same) h.3)))
    (λ other.
    ⊎_elim (λ r. inl (h.0, h.1, λ c. ⊎_elim h.2 other (f w c), r)) (λ r. inr r)
    (past_or_through graph start v base w ws (met ++ w ∷ []) (met' ++ w ∷ []) (more_but met' met v w f) (λ x c. in_front met w x (g x c)) h.3))
    (cases_eq v w)

-- ---- a search

dead_past_fewer : (graph : Rows) (start : ℕ) (path : List ℕ) (v w : ℕ) → IsDead graph start (path ++ v ∷ []) v → IsDead graph start ((path ++ v ∷ []) ++ w ∷ []) w → IsDead graph start (path ++ w ∷ []) w
dead_past_fewer graph start path v w dv dw us h =
    ⊎_elim (λ r. dw us r) (λ r. dv r.0 r.1)
    (past_or_through graph start v path w us (path ++ w ∷ []) ((path ++ v ∷ []) ++ w ∷ [])
    (more_but (path ++ v ∷ []) path v w (λ x c. Contains-push_cases path v x c)) (λ x c. in_front path w x c) h)

-- a dead package is taken off the path
pub popped : (graph : Rows) (start : ℕ) (path : List ℕ) (v : ℕ) (marks : List Bool) → IsDead graph start (path ++ v ∷ []) v → IsSearched graph start (path ++ v ∷ []) marks → IsSearched graph start path marks
popped graph start path v marks dead s = record {
  on_path = λ u lt c. s.on_path u lt (in_front path v u c);
  others = λ u m.
      ⊎_elim
      (λ c. ⊎_elim (λ a. inl a) (λ e. inr (subst (λ (z : ℕ). IsDead graph start (path ++ z ∷ []) z) e dead)) (Contains-push_cases path v u c))
      (λ d. inr (dead_past_fewer graph start path v u dead d))
      (s.others u m);
}

-- a package is marked
pub marked_same : (marks : List Bool) (v u : ℕ) → v < length marks → v ≡ u → is_marked (set marks v true) u ≡ true
marked_same marks v u lt e = subst (λ (z : ℕ). is_marked (set marks v true) z ≡ true) e (get_or-set_same marks v true false lt)

pub marked_more : (marks : List Bool) (v u : ℕ) → v < length marks → is_marked marks u ≡ true → is_marked (set marks v true) u ≡ true
marked_more marks v u lt m = ⊎_elim (λ e. marked_same marks v u lt (sym e)) (λ ne. get_or-set_other marks v u true false ne ∙ m) (cases_eq u v)

pub marked_before : (marks : List Bool) (v u : ℕ) → is_marked (set marks v true) u ≡ true → (v ≡ u) ⊎ (is_marked marks u ≡ true)
marked_before marks v u m = ⊎_elim (λ e. inl (sym e)) (λ ne. inr (sym (get_or-set_other marks v u true false ne) ∙ m)) (cases_eq u v)

-- a package is put on the path and marked
pub pushed : (graph : Rows) (start : ℕ) (path : List ℕ) (v : ℕ) (marks : List Bool) → v < length marks → IsSearched graph start path marks → IsSearched graph start (path ++ v ∷ []) (set marks v true)
pushed graph start path v marks lt s = record {
  on_path = λ u beyond c. ⊎_elim (λ a. marked_more marks v u lt (s.on_path u beyond a)) (λ e. marked_same marks v u lt e) (Contains-push_cases path v u c);
  others = λ u m.
      ⊎_elim (λ e. inl (in_last path v u e))
      (λ old.
      ⊎_elim (λ c. inl (in_front path v u c))
      (λ d. inr (λ us h. d us (past_fewer graph start u us ((path ++ v ∷ []) ++ u ∷ []) (path ++ u ∷ []) (more path (path ++ v ∷ []) u (λ x c. in_front path v x c)) h)))
      (s.others u old))
      (marked_before marks v u m);
}

-- one fewer is unmarked
pub one_fewer : (marks : List Bool) (v : ℕ) → v < length marks → is_marked marks v ≡ false → count_unmarked (set marks v true) + 1 ≡ count_unmarked marks
one_fewer marks v lt unmarked =
    let f : Bool → ℕ = λ b. cond (not b) 1 0 in
    let total = sum_by-set f marks v true false lt in
    let one : f (get_or marks v false) ≡ 1 = ap f unmarked in
    omega (arith, total, one)
