-- Packages that are marked by their paths.
use Rattle.std.proofs.Common.{◌≡◌, ℕ, zero, suc, ◌+◌, ◌<◌, inl, inr, Bool, true, false, List, [], ◌∷◌, ◌++◌, length, map, take, replicate, cond, get_or, set, Result, Ok, Err, refl, sym, ap, subst, ◌∙◌, arith}
use Rattle.std.specs.Prelude.{◌||◌, filter}
use Rattle.std.specs.FinMap as finmap
use Rattle.std.specs.Cmp.Lexicographic.{slice_cmp, nat_list_cmp_total}
use Rattle.std.specs.declared.cmp.Ordering.{Ordering}
use Rattle.std.specs.List.{list_any}
use Rattle.std.specs.List.Sorted.{IsBinarySearchResult, IsNonDecreasingBy, IsSearchInRange, IsSortedBy}
use Rattle.std.specs.Ordering.{is_lt, nat_cmp, ordering_index, ordering_reverse}
use Rattle.std.specs.declared.cmp.Ordering.TheVariants.{Less, Equal, Greater}
use Rattle.std.proofs.lemmas.Bool.{cases_lt}
use Rattle.std.proofs.lemmas.Cmp.{tied_itself}
use Rattle.std.proofs.lemmas.List.{append_assoc, append-nil, map-append, take_more}
use Rattle.std.proofs.lemmas.List.Concat.{flat_map-append}
use Rattle.std.proofs.lemmas.List.Elements.{filter-append}
use Rattle.std.proofs.lemmas.List.Sorted.{searchable_from_sorted}
use Rattle.std.proofs.lemmas.Slice.Eq.{bytes_eq-Decides}
use Rattle.go_load.specs.Loading.{DoPathsRise, marks_of}
use Rattle.go_load.specs.Packages.{imports_of}
use Rattle.go_load.specs.Paths.{same}
use Rattle.go_ast.specs.declared.file.Import.{Import}
use Rattle.go_load.specs.declared.contents.Found.{Found}
use Rattle.go_load.specs.declared.contents.Source.{Source}

abbrev pub by_path : List ℕ → List ℕ → Ordering
by_path = slice_cmp nat_cmp

-- ---- paths

pub equal_paths : (a b : List ℕ) → by_path a b ≡ Equal → a ≡ b
equal_paths = finmap.slice_cmp-IsAntisymmetric finmap.nat_cmp-IsAntisymmetric

apart_by : (a b : List ℕ) (o : Ordering) → by_path a b ≡ o → (o ≡ Equal → ⊥) → a ≡ b → ⊥
apart_by a b o is other eq = other (sym is ∙ ap (by_path a) (sym eq) ∙ tied_itself nat_list_cmp_total a)

same_is : (a b : List ℕ) → a ≡ b → same a b ≡ true
same_is a b eq = (bytes_eq-Decides a b).1 eq

not_true : (t : Bool) → (t ≡ true → ⊥) → t ≡ false
not_true true other = absurd (other refl)
not_true false other = refl

same_not : (a b : List ℕ) → (a ≡ b → ⊥) → same a b ≡ false
same_not a b other = not_true (same a b) (λ is. other ((bytes_eq-Decides a b).0 is))

-- ---- marks

or_true : (a b : Bool) → b ≡ true → (a || b) ≡ true
or_true true b is = refl
or_true false b is = is

any_with : (q p : List ℕ) (seen : List (List ℕ)) → q ≡ p → list_any (same q) (seen ++ p ∷ []) ≡ true
any_with q p [] eq = ap (λ b. b || false) (same_is q p eq)
any_with q p (s ∷ seen) eq = or_true (same q s) (list_any (same q) (seen ++ p ∷ [])) (any_with q p seen eq)

any_without : (q p : List ℕ) (seen : List (List ℕ)) → (q ≡ p → ⊥) → list_any (same q) (seen ++ p ∷ []) ≡ list_any (same q) seen
any_without q p [] other = ap (λ b. b || false) (same_not q p other)
any_without q p (s ∷ seen) other = ap (λ b. same q s || b) (any_without q p seen other)

cons_same : {a b : Bool} {as' bs : List Bool} → a ≡ b → as' ≡ bs → a ∷ as' ≡ b ∷ bs
cons_same e es i = e i ∷ es i

-- no package has the path
pub none_marked : (founds : List Found) (seen : List (List ℕ)) (p : List ℕ) → ((k : ℕ) (d : Found) → k < length founds → (get_or founds k d).path ≡ p → ⊥) → marks_of founds (seen ++ p ∷ []) ≡ marks_of founds seen
none_marked [] seen p other = refl
none_marked (f ∷ founds) seen p other = cons_same (any_without f.path p seen (other 0 f (omega arith))) (none_marked founds seen p (λ k d lt. other (suc k) d (omega (arith, lt))))

-- the package at a place has it, and no other
pub one_marked : (founds : List Found) (seen : List (List ℕ)) (p : List ℕ) (at : ℕ) → at < length founds → ((d : Found) → (get_or founds at d).path ≡ p)
    → ((k : ℕ) (d : Found) → k < length founds → (k ≡ at → ⊥) → (get_or founds k d).path ≡ p → ⊥) → set (marks_of founds seen) at true ≡ marks_of founds (seen ++ p ∷ [])
one_marked [] seen p at lt is other = absurd (omega (arith, lt))
one_marked (f ∷ founds) seen p zero lt is other =
    cons_same (sym (any_with f.path p seen (is f))) (sym (none_marked founds seen p (λ k d lt'. other (suc k) d (omega (arith, lt')) (λ eq. omega (arith, eq)))))
one_marked (f ∷ founds) seen p (suc at) lt is other =
    cons_same (sym (any_without f.path p seen (other 0 f (omega arith) (λ eq. omega (arith, eq)))))
    (one_marked founds seen p at (omega (arith, lt)) is (λ k d lt' apart. other (suc k) d (omega (arith, lt')) (λ eq. apart (omega (arith, eq)))))

-- ---- imports, one after the other

pub own_more : (own : List ℕ → Bool) (imports : List Import) (i : ℕ) (this : Import) → i < length imports → this ≡ get_or imports i this
    → filter own (map (λ x. x.path) (take (i + 1) imports)) ≡ filter own (map (λ x. x.path) (take i imports)) ++ cond (own this.path) (this.path ∷ []) []
own_more own imports i this lt is =
    ap (λ xs. filter own (map (λ x. x.path) xs)) (take_more imports i this lt ∙ ap (λ x. take i imports ++ x ∷ []) (sym is))
    ∙ ap (filter own) (map-append (λ x. x.path) (take i imports) (this ∷ []))
    ∙ filter-append own (map (λ x. x.path) (take i imports)) (this.path ∷ [])

-- one import that is marked, and one that isn't
pub marks_more : (founds : List Found) (own : List ℕ → Bool) (imports : List Import) (i : ℕ) (this : Import) (seen : List (List ℕ)) → i < length imports → this ≡ get_or imports i this → own this.path ≡ true
    → marks_of founds ((seen ++ filter own (map (λ x. x.path) (take i imports))) ++ this.path ∷ []) ≡ marks_of founds (seen ++ filter own (map (λ x. x.path) (take (i + 1) imports)))
marks_more founds own imports i this seen lt is yes' =
    let before = filter own (map (λ x. x.path) (take i imports)) in
    ap (marks_of founds) (append_assoc seen before (this.path ∷ []) ∙ ap (λ ps. seen ++ ps) (sym (own_more own imports i this lt is ∙ ap (λ b. before ++ cond b (this.path ∷ []) []) yes')))

pub marks_same : (founds : List Found) (own : List ℕ → Bool) (imports : List Import) (i : ℕ) (this : Import) (seen : List (List ℕ)) → i < length imports → this ≡ get_or imports i this → own this.path ≡ false
    → marks_of founds (seen ++ filter own (map (λ x. x.path) (take i imports))) ≡ marks_of founds (seen ++ filter own (map (λ x. x.path) (take (i + 1) imports)))
marks_same founds own imports i this seen lt is no' =
    let before = filter own (map (λ x. x.path) (take i imports)) in
    ap (λ ps. marks_of founds (seen ++ ps)) (sym (own_more own imports i this lt is ∙ ap (λ b. before ++ cond b (this.path ∷ []) []) no' ∙ append-nil before))

-- the imports of one source file more
pub sources_more : (own : List ℕ → Bool) (sources : List Source) (i : ℕ) (this : Source) → i < length sources → this ≡ get_or sources i this
    → filter own (imports_of (take i sources)) ++ filter own (map (λ x. x.path) this.tree.imports) ≡ filter own (imports_of (take (i + 1) sources))
sources_more own sources i this lt is =
    let one : imports_of (this ∷ []) ≡ map (λ x. x.path) this.tree.imports = append-nil (map (λ x. x.path) this.tree.imports) in
    sym (ap (λ ss. filter own (imports_of ss)) (take_more sources i this lt ∙ ap (λ x. take i sources ++ x ∷ []) (sym is))
    ∙ ap (filter own) (flat_map-append (λ (s : Source). map (λ x. x.path) s.tree.imports) (take i sources) (this ∷ []))
    ∙ filter-append own (imports_of (take i sources)) (imports_of (this ∷ []))
    ∙ ap (λ ps. filter own (imports_of (take i sources)) ++ filter own ps) one)

-- nothing is marked
pub none_yet : (founds : List Found) → replicate (length founds) false ≡ marks_of founds []
none_yet [] = refl
none_yet (f ∷ founds) = ap (λ bs. false ∷ bs) (none_yet founds)

-- ---- a search

module _ (founds : List Found) (rise : DoPathsRise founds) (p : List ℕ) where
  sorted : IsSortedBy (λ (a b : Found). is_lt (by_path a.path b.path)) founds
  sorted k d low lt =
      let a = (get_or founds k d).path in
      let b = (get_or founds (k + 1) d).path in
      let less : by_path a b ≡ Less = rise k (k + 1) d (omega arith) lt in
      ap is_lt (nat_list_cmp_total.antisymm b a ∙ ap ordering_reverse less)

  searchable : IsNonDecreasingBy (λ (f : Found). ordering_index (by_path f.path p)) founds
  searchable = searchable_from_sorted nat_list_cmp_total (λ (f : Found). f.path) founds p sorted

  others : (at : ℕ) → at < length founds → ((d : Found) → (get_or founds at d).path ≡ p) → (k : ℕ) (d : Found) → k < length founds → (k ≡ at → ⊥) → (get_or founds k d).path ≡ p → ⊥
  others at lt is k d lt' other eq =
      elim (cases_lt k at) [
        | inl below ↦ apart_by _ _ Less (rise k at d below lt) (λ e. cc) (eq ∙ sym (is d))
        | inr above ↦ apart_by _ _ Less (rise at k d (omega (arith, above, other)) lt') (λ e. cc) (is d ∙ sym eq)
      ]

  pub marked_by : (r : Result ℕ ℕ) → IsSearchInRange r (length founds) → IsBinarySearchResult (λ (f : Found). by_path f.path p) founds r → (seen : List (List ℕ))
      → (at : ℕ) → r ≡ Ok at → set (marks_of founds seen) at true ≡ marks_of founds (seen ++ p ∷ [])
  marked_by (Ok at') in_range found seen at is =
      let same_at : at' ≡ at = cc in
      subst (λ n. set (marks_of founds seen) n true ≡ marks_of founds (seen ++ p ∷ [])) same_at
      (let here : (d : Found) → (get_or founds at' d).path ≡ p = λ d. equal_paths _ p (found d) in one_marked founds seen p at' in_range here (others at' in_range here))
  marked_by (Err at') in_range found seen at is = cc

  pub unmarked_by : (r : Result ℕ ℕ) → IsSearchInRange r (length founds) → IsBinarySearchResult (λ (f : Found). by_path f.path p) founds r → (seen : List (List ℕ))
      → (at : ℕ) → r ≡ Err at → marks_of founds seen ≡ marks_of founds (seen ++ p ∷ [])
  unmarked_by (Ok at') in_range found seen at is = cc
  unmarked_by (Err at') in_range parted seen at is =
      let point = parted searchable in
      sym (none_marked founds seen p (λ k d lt.
      elim (cases_lt k at') [
        | inl below ↦ apart_by _ _ Less (point.0 k d (omega arith) below) (λ e. cc)
        | inr above ↦ apart_by _ _ Greater (point.1 k d above lt) (λ e. cc)
      ]))
