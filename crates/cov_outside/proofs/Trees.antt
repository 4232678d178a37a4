-- Entries in order stand for a map.
use Rattle.std.proofs.Common.{◌≡◌, ℕ, ◌+◌, ◌<◌, suc, zero, Bool, true, false, T, List, [], ◌∷◌, ◌++◌, length, take, drop, get_or, set, map, Some, Result, Ok, Err, refl, sym, ap, subst, ◌∙◌, add-one, arith}
use Rattle.std.specs.Prelude.{OnOk, OnErr}
use Rattle.std.proofs.lemmas.Option.{slice_get-get_or, get_or_from_slice_get}
use Rattle.std.proofs.Math.Seq.{drop-cons}
use Rattle.std.specs.FinMap as finmap
use Rattle.std.specs.FinMap.Entries.{is_sorted-put}
use Rattle.std.specs.Ordering.{nat_cmp}
use Rattle.std.specs.declared.cmp.Ordering.TheVariants.{Equal}
use Rattle.std.specs.Cmp.Lexicographic.{slice_cmp, nat_list_cmp_total}
use Rattle.std.specs.String.{string_bytes}
use Rattle.cov_outside.specs.Tree.{Tree}
use Rattle.cov_outside.specs.declared.entries.Entry.{Entry}
use Rattle.cov_outside.specs.Memory.{pair_of, pairs_of, IsPlace}

abbrev pub Pairs : Type 0
Pairs = List (List ℕ × List ℕ)

abbrev pub IsInOrder : Pairs → Type 0
IsInOrder ps = finmap.is_sorted (slice_cmp nat_cmp) ps ≡ true

sure : (b : Bool) → b ≡ true → T b
sure b e = subst T (sym e) tt

is_true : (b : Bool) → T b → b ≡ true
is_true true h = refl
is_true false h = absurd h

in_order : (ps : Pairs) → IsInOrder ps → T (finmap.is_sorted (slice_cmp nat_cmp) ps)
in_order ps h = sure (finmap.is_sorted (slice_cmp nat_cmp) ps) h

abbrev pub tree_of : Pairs → Tree
tree_of ps = finmap.from_sorted ps

abbrev pub put_pair : List ℕ → List ℕ → Pairs → Pairs
put_pair k v ps = finmap.put (slice_cmp nat_cmp) k v ps

pub nothing : (ps : Pairs) → ps ≡ [] → tree_of ps ≡ finmap.empty
nothing ps e = finmap.empty_of_len (tree_of ps) (finmap.len-entries (tree_of ps) ∙ ap length (finmap.entries-from_sorted (slice_cmp nat_cmp) ps (in_order ps (ap (finmap.is_sorted (slice_cmp nat_cmp)) e))) ∙ ap length e)

put_order : (ps qs : Pairs) (k v : List ℕ) → IsInOrder ps → qs ≡ put_pair k v ps → IsInOrder qs
put_order ps qs k v h e = ap (finmap.is_sorted (slice_cmp nat_cmp)) e ∙ is_true _ (is_sorted-put (slice_cmp nat_cmp) nat_list_cmp_total k v ps (in_order ps h))

-- a put among entries in order is one into the map
put_in : (ps qs : Pairs) (k v : List ℕ) → IsInOrder ps → qs ≡ put_pair k v ps → tree_of qs ≡ finmap.insert (tree_of ps) k v
put_in ps qs k v h e =
    let here : finmap.entries (tree_of ps) ≡ ps = finmap.entries-from_sorted (slice_cmp nat_cmp) ps (in_order ps h) in
    let there : finmap.entries (tree_of qs) ≡ qs = finmap.entries-from_sorted (slice_cmp nat_cmp) qs (in_order qs (put_order ps qs k v h e)) in
    finmap.same_entries_map (tree_of qs) (finmap.insert (tree_of ps) k v) (there ∙ e ∙ sym (finmap.entries-insert nat_list_cmp_total (tree_of ps) k v ∙ ap (finmap.put (slice_cmp nat_cmp) k v) here))

pub order_kept : {A E : Type 0} (r : Result A E) (old new : List Entry) (k v : List ℕ) → IsInOrder (pairs_of old) → OnOk r (pairs_of new ≡ put_pair k v (pairs_of old)) → OnErr r (new ≡ old) → IsInOrder (pairs_of new)
order_kept (Ok x) old new k v h ok err = put_order (pairs_of old) (pairs_of new) k v h ok
order_kept (Err x) old new k v h ok err = subst (λ es. IsInOrder (pairs_of es)) (sym err) h

pub inserted : {A E : Type 0} (r : Result A E) (old new : List Entry) (k v : List ℕ) → IsInOrder (pairs_of old) → OnOk r (pairs_of new ≡ put_pair k v (pairs_of old)) → OnOk r (tree_of (pairs_of new) ≡ finmap.insert (tree_of (pairs_of old)) k v)
inserted (Ok x) old new k v h ok = put_in (pairs_of old) (pairs_of new) k v h ok
inserted (Err x) old new k v h ok = tt

pub get_in : (ps : Pairs) (k : List ℕ) → IsInOrder ps → finmap.get (tree_of ps) k ≡ finmap.find (slice_cmp nat_cmp) k ps
get_in ps k h = finmap.get-from_sorted (slice_cmp nat_cmp) ps k (in_order ps h)

pub keys_in : (ps : Pairs) → IsInOrder ps → finmap.keys (tree_of ps) ≡ map (λ e. e.0) ps
keys_in ps h = ap (map (λ e. e.0)) (finmap.entries-from_sorted (slice_cmp nat_cmp) ps (in_order ps h))

drop_here : (es : List Entry) (i : ℕ) (e : Entry) → i < length es → e ≡ get_or es i e → drop i es ≡ e ∷ drop (i + 1) es
drop_here es i e lt is = drop-cons es i e lt ∙ ap (λ (x : Entry). x ∷ drop (suc i) es) (sym is) ∙ rw add-one refl

pub at_equal : (path name : List ℕ) (es : List Entry) (i : ℕ) (e : Entry) → i < length es → e ≡ get_or es i e → Equal ≡ slice_cmp nat_cmp path name → name ≡ string_bytes e.path
    → ((v : List ℕ) → put_pair path v (pairs_of es) ≡ pairs_of (take i es) ++ put_pair path v (pairs_of (drop i es))) → IsPlace path es (Ok i)
at_equal path name es i e lt is same named inv =
    let ties : slice_cmp nat_cmp path (string_bytes e.path) ≡ Equal = ap (slice_cmp nat_cmp path) (sym named) ∙ sym same in (
      e,
      slice_get-get_or es i e lt ∙ ap (λ (x : Entry). Some x) (sym is),
      lt,
      λ v. inv v ∙ ap (λ (t : List Entry). pairs_of (take i es) ++ put_pair path v (pairs_of t)) (drop_here es i e lt is) ∙ rw ties refl,
    )

set_parts : (es : List Entry) (i : ℕ) (x : Entry) → i < length es → pairs_of (set es i x) ≡ pairs_of (take i es) ++ pair_of x ∷ pairs_of (drop (suc i) es)
set_parts [] i x lt = absurd (omega arith)
set_parts (e ∷ es) zero x lt = refl
set_parts (e ∷ es) (suc i) x lt = ap (λ (t : Pairs). pair_of e ∷ t) (set_parts es i x (omega arith))

pub replaced : (path v : List ℕ) (es : List Entry) (i : ℕ) (x old : Entry) → IsPlace path es (Ok i) → old ≡ get_or es i old → pair_of x ≡ (string_bytes old.path, v)
    → pairs_of (set es i x) ≡ put_pair path v (pairs_of es)
replaced path v es i x old place was pair =
    let here : place.0 ≡ old = sym (get_or_from_slice_get es i place.0 old place.1) ∙ sym was in
    set_parts es i x place.2 ∙ rw (← add-one) (ap (λ (p : List ℕ × List ℕ). pairs_of (take i es) ++ p ∷ pairs_of (drop (i + 1) es)) (pair ∙ ap (λ (e : Entry). (string_bytes e.path, v)) (sym here))) ∙ sym (place.3 v)
