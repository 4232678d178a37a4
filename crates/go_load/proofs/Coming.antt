-- Packages that come one after the other.
use Rattle.std.proofs.Common.{◌≡◌, ℕ, zero, suc, take, ◌<◌, ◌≤◌, ⊎_elim, Bool, true, false, List, [], ◌∷◌, ◌++◌, length, sym, subst, ◌∙◌, arith, set, get_or, get_or-set_same, get_or-set_other, append_assoc}
use Rattle.std.specs.List.{Contains, list_all}
use Rattle.std.proofs.lemmas.Bool.{cases_eq, cases_lt, both_ways, and_parts, and_cases, true≢false}
use Rattle.std.proofs.lemmas.List.{length-set, take-append-le, take_all}
use Rattle.std.proofs.lemmas.List.Elements.{Contains-append_left, Contains-push, Contains-push_cases}
use Rattle.go_load.specs.Graph.{Rows, imports, MayCome, ComeAfter}
use Rattle.go_load.specs.Marks.{is_marked, AreMarked, IsFree, IsNotFree, Await}
use Rattle.go_load.proofs.Ways.{marked_same, marked_more, marked_before}

pub may_come : (graph : Rows) (marks : List Bool) (come : List ℕ) (u : ℕ) → AreMarked marks come → IsFree graph marks u → MayCome graph come u
may_come graph marks come u are free = record {
  is_package = free.is_package;
  is_new = λ c. both_ways (is_marked marks u) free.is_new (are.marked u c);
  after_imports = λ v i. are.only v (free.after_imports v i);
}

pub may_not_come : (graph : Rows) (marks : List Bool) (come : List ℕ) (u : ℕ) → AreMarked marks come → IsNotFree graph marks u → MayCome graph come u → ⊥
may_not_come graph marks come u are not_free may =
    ⊎_elim (λ m. may.is_new (are.only u m)) (λ w. both_ways (is_marked marks w.0) w.2 (are.marked w.0 (may.after_imports w.0 w.1))) not_free

-- the least free package is the next
pub one_more : (graph : Rows) (marks : List Bool) (come : List ℕ) (u : ℕ) → AreMarked marks come → IsFree graph marks u → ((v : ℕ) → v < u → IsNotFree graph marks v)
    → ((us : List ℕ) → ComeAfter graph come us → ComeAfter graph [] (come ++ us)) → (us : List ℕ) → ComeAfter graph (come ++ u ∷ []) us → ComeAfter graph [] ((come ++ u ∷ []) ++ us)
one_more graph marks come u are free least so_far us after =
    let may : MayCome graph come u = may_come graph marks come u are free in
    let first : (v : ℕ) → MayCome graph come v → u ≤ v = λ v m. ⊎_elim (λ lt. absurd (may_not_come graph marks come v are (least v lt) m)) (λ le. le) (cases_lt v u) in
    subst (ComeAfter graph []) (sym (append_assoc come (u ∷ []) us)) (so_far (u ∷ us) (may, first, after))

pub none_more : (graph : Rows) (marks : List Bool) (come : List ℕ) → AreMarked marks come → ((u : ℕ) → u < length graph → IsNotFree graph marks u) → ComeAfter graph come []
none_more graph marks come are none u may = may_not_come graph marks come u are (none u may.is_package) may

pub are_marked_more : (marks : List Bool) (come : List ℕ) (v : ℕ) → v < length marks → AreMarked marks come → AreMarked (set marks v true) (come ++ v ∷ [])
are_marked_more marks come v lt are = record {
  marked = λ u c. ⊎_elim (λ a. marked_more marks v u lt (are.marked u a)) (λ e. marked_same marks v u lt e) (Contains-push_cases come v u c);
  only = λ u m. ⊎_elim (λ e. subst (Contains (come ++ v ∷ [])) e (Contains-push come v)) (λ old. Contains-append_left come (v ∷ []) u (are.only u old)) (marked_before marks v u m);
}

pub await_marked : (graph : Rows) (marks : List Bool) (awaited : List ℕ) (v : ℕ) → v < length marks → Await graph marks awaited → Await graph (set marks v true) awaited
await_marked graph marks awaited v lt a = record { many = a.many; bounds = a.bounds; came = λ u w below i. marked_more marks v w lt (a.came u w below i) }

-- one package awaits another number
pub await_set : (graph : Rows) (marks : List Bool) (awaited : List ℕ) (u n : ℕ) → u < length awaited → n ≤ length graph → ((w : ℕ) → w < n → imports graph u w ≡ true → is_marked marks w ≡ true) → Await graph marks awaited → Await graph marks (set awaited u n)
await_set graph marks awaited u n lt le came a = record {
  many = length-set awaited u n ∙ a.many;
  bounds = λ w. ⊎_elim (λ e. subst (λ (z : ℕ). z ≤ length graph) (sym (same w e)) le) (λ ne. subst (λ (z : ℕ). z ≤ length graph) (sym (get_or-set_other awaited u w n 0 ne)) (a.bounds w)) (cases_eq w u);
  came = λ w x below i.
      ⊎_elim (λ e. came x (subst (λ (z : ℕ). x < z) (same w e) below) (subst (λ (z : ℕ). imports graph z x ≡ true) e i))
      (λ ne. a.came w x (subst (λ (z : ℕ). x < z) (get_or-set_other awaited u w n 0 ne) below) i)
      (cases_eq w u);
}
  where
    same : (w : ℕ) → w ≡ u → get_or (set awaited u n) w 0 ≡ n
    same w e = subst (λ (z : ℕ). get_or (set awaited u n) z 0 ≡ n) (sym e) (get_or-set_same awaited u n 0 lt)

-- all are marked, or one is left
pub all_marked : (marks : List Bool) → list_all (λ m. m) marks ≡ true → (u : ℕ) → u < length marks → is_marked marks u ≡ true
all_marked [] all u lt = absurd (omega arith)
all_marked (m ∷ ms) all zero lt = (and_parts m (list_all (λ b. b) ms) all).0
all_marked (m ∷ ms) all (suc u) lt = all_marked ms (and_parts m (list_all (λ b. b) ms) all).1 u (omega arith)

pub one_left : (marks : List Bool) → list_all (λ m. m) marks ≡ false → (u : ℕ) × (u < length marks) × (is_marked marks u ≡ false)
one_left [] all = absurd (true≢false all)
one_left (m ∷ ms) all =
    ⊎_elim (λ e. (0, omega arith, e)) (λ e. let r = one_left ms e in (suc r.0, (let lt : r.0 < length ms = r.1 in omega arith), r.2)) (and_cases m (list_all (λ b. b) ms) all)

-- what was lent and given back
pub lent : (n : ℕ) (xs ys : List ℕ) → length xs ≡ n → take n (xs ++ ys) ≡ xs
lent n xs ys e = take-append-le n xs ys (omega arith) ∙ take_all n xs (omega arith)
