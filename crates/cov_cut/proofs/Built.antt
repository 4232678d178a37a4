-- Conditions of trees that are built.
use Rattle.std.proofs.Common.{◌≡◌, ℕ, suc, zero, ◌+◌, ◌≤◌, ◌<◌, List, [], ◌∷◌, ◌++◌, length, get_or, take, Bool, true, false, cond, sym, ap, subst, ◌∙◌, arith}
use Rattle.std.specs.Prelude.{All}
use Rattle.std.proofs.lemmas.List.Elements.{All-append}
use Rattle.std.proofs.lemmas.List.{append-nil, append_assoc, take_all}
use Rattle.go_ast.specs.declared.block.Stmt.{Stmt}
use Rattle.cov_cut.specs.Outline.{Kind, braces, clause, no_list, next_list, marks, Listing, lists_among, lists_along}
use Rattle.cov_cut.specs.Outlining.{Braced, other_kind}
use Rattle.cov_cut.specs.Layers.{outlines}
use Rattle.cov_cut.specs.Units.{frame, FrameFits, Fits}
use Rattle.cov_cut.proofs.Walks.{length_marks}
use Rattle.cov_cut.proofs.Clauses.{own}
use Rattle.std.specs.List.{flat_map}
use Rattle.std.proofs.lemmas.Grind.{flat_map-append}
use Rattle.go_ast.specs.declared.decl.Decl.{Decl}
use Rattle.go_ast.specs.declared.decl.Decl.TheVariants as decl
use Rattle.go_ast.specs.declared.decl.Func.{Func}
use Rattle.cov_cut.specs.Units.{cut_in, is_cut}
use Rattle.cov_cut.proofs.Files.{AllFit}
use Rattle.cov_cut.proofs.Walks.{func_lists_are}
use Rattle.cov_cut.specs.Layers.{block_layer}
use Rattle.cov_cut.specs.Outlining.{body}

at_cons : {X : Type 0} (P : X → Type 0) (x : X) (xs : List X) → P x → All P xs → (k : ℕ) (d : X) → k < suc (length xs) → P (get_or (x ∷ xs) k d)
at_cons P x xs h all zero d lt = h
at_cons P x xs h all (suc k) d lt = all k d (omega arith)

pub all_cons : {X : Type 0} (P : X → Type 0) (x : X) (xs : List X) → P x → All P xs → All P (x ∷ xs)
all_cons P x xs h all = λ k d lt. at_cons P x xs h all k d lt

-- one list
pub listing_fits : (k : Kind) (list : List Stmt) → FrameFits (frame k) → length list ≤ 1000 → Fits (record { kind = k; statements = marks (outlines list) })
listing_fits k list f h = record { places = f; statements = let e : length (marks (outlines list)) ≡ length list = length_marks list in omega arith }

pub along_fits : (k : Kind) (list : List Stmt) → FrameFits (frame k) → length list ≤ 1000 → All Fits (lists_among (outlines list))
    → All Fits (lists_along (next_list k (outlines list) no_list))
along_fits k list f h all =
    all_cons Fits (record { kind = k; statements = marks (outlines list) }) (lists_among (outlines list) ++ []) (listing_fits k list f h)
    (subst (All Fits) (sym (append-nil (lists_among (outlines list)))) all)

-- ---- small numbers

pub braces_fit : (left right : ℕ) → left < 1000000 → right < 1000000 → FrameFits (frame (braces left right))
braces_fit left right l r = record { start = omega arith; insert = omega arith; end = omega arith; empty = omega arith }

pub other_fit : (b : Braced) (after : ℕ) (hidden : Bool) → after < 1000000 → b.left < 1000000 → b.right < 1000000 → FrameFits (frame (other_kind after b hidden))
other_fit b after true a l r = record { start = omega arith; insert = omega arith; end = omega arith; empty = omega arith }
other_fit b after false a l r = record { start = omega arith; insert = omega arith; end = omega arith; empty = omega arith }

pub clause_fit : (colon : ℕ) → colon < 1000000 → FrameFits (frame (clause colon))
clause_fit colon h = record { start = omega arith; insert = omega arith; end = omega arith; empty = omega arith }

pub own_fits : (colon : ℕ) (list : List Stmt) → colon < 1000000 → length list ≤ 1000 → All Fits (own colon list)
own_fits colon list h small =
    all_cons Fits (record { kind = clause colon; statements = marks (outlines list) }) [] (listing_fits (clause colon) list (clause_fit colon h) small) (λ k d lt. absurd (omega arith))

-- ---- one more item

taken : {A : Type 0} (xs : List A) (i : ℕ) (x : A) → i < length xs → x ≡ get_or xs i x → take (i + 1) xs ≡ take i xs ++ x ∷ []
taken [] i x h e = absurd (omega arith)
taken (y ∷ ys) zero x h e = ap (λ z. z ∷ []) (sym e)
taken (y ∷ ys) (suc i) x h e =
    ap (λ (k : ℕ). take k (y ∷ ys)) (let f : suc i + 1 ≡ suc (i + 1) = omega arith in f) ∙ ap (λ l. y ∷ l) (taken ys i x (omega arith) e)

module _ {A : Type 0} (all : List A → List Listing) (one : A → List Listing) (nil : all [] ≡ []) (cons : (x : A) (xs : List A) → all (x ∷ xs) ≡ one x ++ all xs) where
  all_two : (xs ys : List A) → all (xs ++ ys) ≡ all xs ++ all ys
  all_two [] ys = sym (ap (λ l. l ++ all ys) nil)
  all_two (x ∷ xs) ys =
      cons x (xs ++ ys) ∙ ap (λ l. one x ++ l) (all_two xs ys) ∙ sym (append_assoc (one x) (all xs) (all ys)) ∙ ap (λ l. l ++ all ys) (sym (cons x xs))

  all_one : (x : A) → all (x ∷ []) ≡ one x
  all_one x = cons x [] ∙ ap (λ l. one x ++ l) nil ∙ append-nil (one x)

  pub fits_more : (xs : List A) (i : ℕ) (x : A) → i < length xs → x ≡ get_or xs i x → All Fits (all (take i xs)) → All Fits (one x) → All Fits (all (take (i + 1) xs))
  fits_more xs i x h e front here =
      subst (All Fits) (sym (ap all (taken xs i x h e) ∙ all_two (take i xs) (x ∷ []) ∙ ap (λ l. all (take i xs) ++ l) (all_one x)))
      (All-append Fits (all (take i xs)) (one x) front here)

  pub fits_whole : (xs : List A) (i : ℕ) → length xs ≤ i → All Fits (all (take i xs)) → All Fits (all xs)
  fits_whole xs i h f = subst (λ l. All Fits (all l)) (take_all i xs h) f

-- ---- declarations

cut_by : (b : Bool) (f : Func) → AllFit f → All AllFit (cond b (f ∷ []) [])
cut_by true f h = all_cons AllFit f [] h (λ k d lt. absurd (omega arith))
cut_by false f h = λ k d lt. absurd (omega arith)

pub func_in : (f : Func) → All Fits (lists_along (body (block_layer f.body) no_list)) → All AllFit (cut_in (decl.Func f))
func_in f h = cut_by (is_cut f) f (subst (All Fits) (sym (func_lists_are f)) h)

pub decls_more : (ds : List Decl) (i : ℕ) (x : Decl) → i < length ds → x ≡ get_or ds i x
    → All AllFit (flat_map cut_in (take i ds)) → All AllFit (cut_in x) → All AllFit (flat_map cut_in (take (i + 1) ds))
decls_more ds i x h e front here =
    subst (All AllFit) (sym (ap (flat_map cut_in) (taken ds i x h e) ∙ flat_map-append cut_in (take i ds) (x ∷ []) ∙ ap (λ l. flat_map cut_in (take i ds) ++ l) (append-nil (cut_in x))))
    (All-append AllFit (flat_map cut_in (take i ds)) (cut_in x) front here)

pub decls_whole : (ds : List Decl) (i : ℕ) → length ds ≤ i → All AllFit (flat_map cut_in (take i ds)) → All AllFit (flat_map cut_in ds)
decls_whole ds i h f = subst (λ l. All AllFit (flat_map cut_in l)) (take_all i ds h) f
