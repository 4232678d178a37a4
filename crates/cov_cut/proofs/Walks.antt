-- Steps of walks that append units.
use Rattle.std.proofs.Common.{◌≡◌, ℕ, List, [], ◌∷◌, ◌++◌, Result, Ok, Err, refl, sym, ap, ◌∙◌, append_assoc, ap₂, subst, Bool, true, false, length, length-append, unwrap_or, map, get_or, drop, ◌+◌, ◌<◌, ◌^◌, arith, suc, zero}
use Rattle.std.specs.Prelude.{OnOk, All}
use Rattle.std.proofs.lemmas.Grind.{flat_map-append}
use Rattle.std.proofs.lemmas.List.{append-nil, get_or_append_left}
use Rattle.go_ast.specs.declared.block.Stmt.{Stmt}
use Rattle.go_ast.specs.declared.block.StmtForm.{out-StmtForm}
use Rattle.cov_cut.specs.declared.frame.Frame.{Frame}
use Rattle.cov_cut.specs.Outline.{Mark, Kind, node, Nodes, Lists, no_list, next_list, marks, Listing, lists_in, lists_among, lists_along}
use Rattle.cov_cut.specs.Outlining.{Shape, Braced, body, node_of, outline, form_outline}
use Rattle.cov_cut.specs.Layers.{outlines, mark, block_layer, form_lists}
use Rattle.cov_cut.specs.Units.{func_lists, frame, list_units, units_in, listing_units, FrameFits, Fits}
use Rattle.go_ast.specs.declared.decl.Func.{Func}
use Rattle.cov_cut.proofs.Opened.{outline_is, block_is, form_is}
use Rattle.cov_cut.proofs.Segments.{marks_are}
use Rattle.std.specs.declared.alloc.AllocError.{AllocError}
use Rattle.cov_cut.specs.declared.unit.Unit.{Unit as CutUnit}

-- what was to come is a first part, which is appended, and a rest
pub joined : (old new first rest total done : List CutUnit) → old ++ total ≡ done → total ≡ first ++ rest → new ≡ old ++ first → new ++ rest ≡ done
joined old new first rest total done e f g =
    ap (λ l. l ++ rest) g ∙ append_assoc old first rest ∙ ap (λ l. old ++ l) (sym f) ∙ e

-- two parts, appended one after the other
pub appended : (r : Result (Unit {0}) AllocError) (old middle new first rest total : List CutUnit)
    → middle ≡ old ++ first → OnOk r (new ≡ middle ++ rest) → total ≡ first ++ rest → OnOk r (new ≡ old ++ total)
appended (Ok u) old middle new first rest total f g e = g ∙ ap (λ l. l ++ rest) f ∙ append_assoc old first rest ∙ ap (λ l. old ++ l) (sym e)
appended (Err u) old middle new first rest total f g e = tt

-- ---- conditions

pub all_left : {X : Type 0} (P : X → Type 0) (xs ys : List X) → All P (xs ++ ys) → All P xs
all_left P xs ys h = λ k d lt. subst P (get_or_append_left xs ys d k lt) (h k d (omega (arith, length-append xs ys)))

pub all_right : {X : Type 0} (P : X → Type 0) (xs ys : List X) → All P (xs ++ ys) → All P ys
all_right P [] ys h = h
all_right P (x ∷ xs) ys h = all_right P xs ys (λ k d lt. h (suc k) d (omega arith))

pub fits_left : (xs ys : List Listing) → All Fits (xs ++ ys) → All Fits xs
fits_left = all_left Fits

pub fits_right : (xs ys : List Listing) → All Fits (xs ++ ys) → All Fits ys
fits_right = all_right Fits

pub fits_first : (x : Listing) (xs : List Listing) → All Fits (x ∷ xs) → Fits x
fits_first x xs h = h 0 x (omega arith)

pub fits_rest : (x : Listing) (xs : List Listing) → All Fits (x ∷ xs) → All Fits xs
fits_rest x xs h = λ k d lt. h (suc k) d (omega arith)

pub fits_along : (xs ys : List Listing) → xs ≡ ys → All Fits xs → All Fits ys
fits_along xs ys e h = subst (All Fits) e h

pub length_marks : (xs : List Stmt) → length (marks (outlines xs)) ≡ length xs
length_marks [] = refl
length_marks (x ∷ xs) = ap suc (length_marks xs)

-- ---- lists

pub units_of_both : (xs ys : List Listing) → units_in (xs ++ ys) ≡ units_in xs ++ units_in ys
units_of_both xs ys = flat_map-append listing_units xs ys

-- one list and those in its statements
pub one_list : (k : Kind) (f : Frame) (list : List Stmt) → f ≡ frame k
    → units_in (lists_along (next_list k (outlines list) no_list)) ≡ list_units f (map mark list) ++ units_in (lists_among (outlines list))
one_list k f list e =
    ap₂ (λ a b. a ++ b) (ap (list_units (frame k)) (marks_are list) ∙ ap (λ g. list_units g (map mark list)) (sym e)) (ap units_in (append-nil (lists_among (outlines list))))

pub along_split : (k : Kind) (ns : Nodes) (more : Lists) → lists_along (next_list k ns more) ≡ lists_along (next_list k ns no_list) ++ lists_along more
along_split k ns more = ap (λ l. record { kind = k; statements = marks ns } ∷ l ++ lists_along more) (sym (append-nil (lists_among ns)))

by_order : (t : Bool) (m n : Mark) (l : Lists) → lists_in (node m t l) ≡ lists_in (node n t l)
by_order true m n l = refl
by_order false m n l = refl

pub walk_is : (s : Stmt) → lists_in (outline s) ≡ form_lists (out-StmtForm s.form)
walk_is s =
    ap lists_in (outline_is s)
    ∙ by_order (form_outline s.form).together
    (record { start = s.span.start; boundary = unwrap_or (form_outline s.form).boundary s.span.end; stop = s.span.end; breaks = (form_outline s.form).breaks })
    (record { start = 0; boundary = unwrap_or (form_outline s.form).boundary 0; stop = 0; breaks = (form_outline s.form).breaks })
    (form_outline s.form).inside
    ∙ ap (λ (x : Shape). lists_in (node_of 0 0 x)) (form_is s.form)

-- ---- loops over a list whose items each have lists

pub drop_at : {A : Type 0} (xs : List A) (i : ℕ) (x : A) → i < length xs → x ≡ get_or xs i x → drop i xs ≡ x ∷ drop (i + 1) xs
drop_at [] i x h e = absurd (omega arith)
drop_at (y ∷ ys) zero x h e = ap (λ z. z ∷ ys) (sym e)
drop_at (y ∷ ys) (suc i) x h e = drop_at ys i x (omega arith) e ∙ ap (λ (k : ℕ). x ∷ drop k (y ∷ ys)) (let f : suc (i + 1) ≡ suc i + 1 = omega arith in f)

module _ {A : Type 0} (all : List A → List Listing) (one : A → List Listing) (cons : (x : A) (xs : List A) → all (x ∷ xs) ≡ one x ++ all xs) where
  pub walk_step : (xs : List A) (i : ℕ) (x : A) (old new done : List CutUnit) → i < length xs → x ≡ get_or xs i x
      → old ++ units_in (all (drop i xs)) ≡ done → new ≡ old ++ units_in (one x) → new ++ units_in (all (drop (i + 1) xs)) ≡ done
  walk_step xs i x old new done h e before step =
      joined old new (units_in (one x)) (units_in (all (drop (i + 1) xs))) (units_in (all (drop i xs))) done before
      (ap (λ l. units_in (all l)) (drop_at xs i x h e) ∙ ap units_in (cons x (drop (i + 1) xs)) ∙ units_of_both (one x) (all (drop (i + 1) xs)))
      step

  at_step : (xs : List A) (i : ℕ) (x : A) → i < length xs → x ≡ get_or xs i x → all (drop i xs) ≡ one x ++ all (drop (i + 1) xs)
  at_step xs i x h e = ap all (drop_at xs i x h e) ∙ cons x (drop (i + 1) xs)

  pub fits_here : (xs : List A) (i : ℕ) (x : A) → i < length xs → x ≡ get_or xs i x → All Fits (all (drop i xs)) → All Fits (one x)
  fits_here xs i x h e f = fits_left (one x) (all (drop (i + 1) xs)) (fits_along _ _ (at_step xs i x h e) f)

  pub fits_later : (xs : List A) (i : ℕ) (x : A) → i < length xs → x ≡ get_or xs i x → All Fits (all (drop i xs)) → All Fits (all (drop (i + 1) xs))
  fits_later xs i x h e f = fits_right (one x) (all (drop (i + 1) xs)) (fits_along _ _ (at_step xs i x h e) f)

-- ---- one list and those in its statements, by the code's steps

module _ (k : Kind) (list same : List Stmt) (s : same ≡ list) where
  pub list_frame : All Fits (lists_along (next_list k (outlines list) no_list)) → FrameFits (frame k)
  list_frame h = (fits_first (record { kind = k; statements = marks (outlines list) }) (lists_among (outlines list) ++ []) h).places

  pub list_length : All Fits (lists_along (next_list k (outlines list) no_list)) → length same < 2 ^ 32
  list_length h =
      let f : length (marks (outlines list)) < 2 ^ 32 = (fits_first (record { kind = k; statements = marks (outlines list) }) (lists_among (outlines list) ++ []) h).statements in
      subst (λ n. n < 2 ^ 32) (length_marks list ∙ ap length (sym s)) f

  pub list_among : All Fits (lists_along (next_list k (outlines list) no_list)) → All Fits (lists_among (outlines same))
  list_among h =
      subst (λ l. All Fits (lists_among (outlines l))) (sym s)
      (fits_left (lists_among (outlines list)) [] (fits_rest (record { kind = k; statements = marks (outlines list) }) (lists_among (outlines list) ++ []) h))

  pub list_step : (r : Result (Unit {0}) AllocError) (f : Frame) (old middle new : List CutUnit) → f ≡ frame k
      → middle ≡ old ++ list_units f (map mark same) → OnOk r (new ≡ middle ++ units_in (lists_among (outlines same)))
      → OnOk r (new ≡ old ++ units_in (lists_along (next_list k (outlines list) no_list)))
  list_step r f old middle new e first rest =
      appended r old middle new (list_units f (map mark same)) (units_in (lists_among (outlines same))) (units_in (lists_along (next_list k (outlines list) no_list))) first rest
      (one_list k f list e ∙ ap (λ l. list_units f (map mark l) ++ units_in (lists_among (outlines l))) (sym s))

-- ---- several lists

pub along_first : (k : Kind) (ns : Nodes) (more : Lists) → All Fits (lists_along (next_list k ns more)) → All Fits (lists_along (next_list k ns no_list))
along_first k ns more h = fits_left (lists_along (next_list k ns no_list)) (lists_along more) (fits_along _ _ (along_split k ns more) h)

pub along_rest : (k : Kind) (ns : Nodes) (more : Lists) → All Fits (lists_along (next_list k ns more)) → All Fits (lists_along more)
along_rest k ns more h = fits_right (lists_along (next_list k ns no_list)) (lists_along more) (fits_along _ _ (along_split k ns more) h)

-- the units of lists that are two parts, appended one after the other
pub both_step : (r : Result (Unit {0}) AllocError) (first rest all : List Listing) (old middle new : List CutUnit) → all ≡ first ++ rest
    → middle ≡ old ++ units_in first → OnOk r (new ≡ middle ++ units_in rest) → OnOk r (new ≡ old ++ units_in all)
both_step r first rest all old middle new e f g =
    appended r old middle new (units_in first) (units_in rest) (units_in all) f g (ap units_in e ∙ units_of_both first rest)

-- ---- functions

pub func_lists_are : (f : Func) → func_lists f ≡ lists_along (body (block_layer f.body) no_list)
unfolding func_lists
func_lists_are f = ap (λ (b : Braced). lists_along (body b no_list)) (block_is f.body)
