-- Clauses one at a time.
use Rattle.std.proofs.Common.{◌≡◌, ℕ, List, [], ◌∷◌, ◌++◌, refl, sym, ap, ◌∙◌, subst, length, map, get_or, drop, ◌+◌, ◌<◌, ◌^◌}
use Rattle.std.specs.Prelude.{All}
use Rattle.std.proofs.lemmas.List.{append-nil}
use Rattle.go_ast.specs.declared.block.Stmt.{Stmt}
use Rattle.go_ast.specs.declared.block.CaseClause.{CaseClause, out-CaseClause}
use Rattle.go_ast.specs.declared.block.CommClause.{CommClause, out-CommClause}
use Rattle.cov_cut.specs.declared.unit.Unit.{Unit as CutUnit}
use Rattle.cov_cut.specs.declared.frame.Frame.{Frame}
use Rattle.cov_cut.specs.Outline.{clause, marks, Listing, heads, lists_among, lists_behind}
use Rattle.cov_cut.specs.Outlining.{clause_lists}
use Rattle.cov_cut.specs.Layers.{outlines, mark, case_layer, comm_layer}
use Rattle.cov_cut.specs.Units.{frame, list_units, units_in, Fits}
use Rattle.cov_cut.proofs.Segments.{marks_are}
use Rattle.cov_cut.proofs.Walks.{walk_step, fits_here, fits_later, fits_first, length_marks}

-- one clause's own list
abbrev pub own : ℕ → List Stmt → List Listing
own colon list = record { kind = clause colon; statements = marks (outlines list) } ∷ []

own_units : (colon : ℕ) (list same : List Stmt) (f : Frame) → f ≡ frame (clause colon) → same ≡ list → units_in (own colon list) ≡ list_units f (map mark same)
own_units colon list same f e s =
    append-nil (list_units (frame (clause colon)) (marks (outlines list)))
    ∙ ap (list_units (frame (clause colon))) (marks_are list)
    ∙ ap (λ g. list_units g (map mark list)) (sym e)
    ∙ ap (λ l. list_units f (map mark l)) (sym s)

own_colon : (colon : ℕ) (list : List Stmt) → All Fits (own colon list) → colon + 1 < 2 ^ 32
own_colon colon list h = (fits_first (record { kind = clause colon; statements = marks (outlines list) }) [] h).places.start

own_length : (colon : ℕ) (list same : List Stmt) → same ≡ list → All Fits (own colon list) → length same < 2 ^ 32
own_length colon list same s h =
    let f : length (marks (outlines list)) < 2 ^ 32 = (fits_first (record { kind = clause colon; statements = marks (outlines list) }) [] h).statements in
    subst (λ k. k < 2 ^ 32) (length_marks list ∙ ap length (sym s)) f

-- ---- of a `switch`

abbrev pub case_heads : List CaseClause → List Listing
case_heads cs = heads (clause_lists (map case_layer cs))

abbrev pub case_head : CaseClause → List Listing
case_head c = own (out-CaseClause c).colon (out-CaseClause c).list

abbrev pub case_behinds : List CaseClause → List Listing
case_behinds cs = lists_behind (clause_lists (map case_layer cs))

abbrev pub case_behind : CaseClause → List Listing
case_behind c = lists_among (outlines (out-CaseClause c).list)

pub case_step : (cs : List CaseClause) (i : ℕ) (x : CaseClause) (same : List Stmt) (f : Frame) (old new done : List CutUnit)
    → i < length cs → x ≡ get_or cs i x → f ≡ frame (clause (out-CaseClause x).colon) → same ≡ (out-CaseClause x).list
    → old ++ units_in (case_heads (drop i cs)) ≡ done → new ≡ old ++ list_units f (map mark same) → new ++ units_in (case_heads (drop (i + 1) cs)) ≡ done
case_step cs i x same f old new done h e k s before step =
    walk_step case_heads case_head (λ c ds. refl) cs i x old new done h e before
    (step ∙ ap (λ l. old ++ l) (sym (own_units (out-CaseClause x).colon (out-CaseClause x).list same f k s)))

pub case_colon : (cs : List CaseClause) (i : ℕ) (x : CaseClause) → i < length cs → x ≡ get_or cs i x → All Fits (case_heads (drop i cs)) → (out-CaseClause x).colon + 1 < 2 ^ 32
case_colon cs i x h e f = own_colon (out-CaseClause x).colon (out-CaseClause x).list (fits_here case_heads case_head (λ c ds. refl) cs i x h e f)

pub case_length : (cs : List CaseClause) (i : ℕ) (x : CaseClause) (same : List Stmt) → i < length cs → x ≡ get_or cs i x → same ≡ (out-CaseClause x).list → All Fits (case_heads (drop i cs)) → length same < 2 ^ 32
case_length cs i x same h e s f = own_length (out-CaseClause x).colon (out-CaseClause x).list same s (fits_here case_heads case_head (λ c ds. refl) cs i x h e f)

pub case_later : (cs : List CaseClause) (i : ℕ) (x : CaseClause) → i < length cs → x ≡ get_or cs i x → All Fits (case_heads (drop i cs)) → All Fits (case_heads (drop (i + 1) cs))
case_later = fits_later case_heads case_head (λ c ds. refl)

pub case_behind_step : (cs : List CaseClause) (i : ℕ) (x : CaseClause) (same : List Stmt) (old new done : List CutUnit)
    → i < length cs → x ≡ get_or cs i x → same ≡ (out-CaseClause x).list
    → old ++ units_in (case_behinds (drop i cs)) ≡ done → new ≡ old ++ units_in (lists_among (outlines same)) → new ++ units_in (case_behinds (drop (i + 1) cs)) ≡ done
case_behind_step cs i x same old new done h e s before step =
    walk_step case_behinds case_behind (λ c ds. refl) cs i x old new done h e before (step ∙ ap (λ l. old ++ units_in (lists_among (outlines l))) s)

pub case_behind_here : (cs : List CaseClause) (i : ℕ) (x : CaseClause) (same : List Stmt) → i < length cs → x ≡ get_or cs i x → same ≡ (out-CaseClause x).list → All Fits (case_behinds (drop i cs)) → All Fits (lists_among (outlines same))
case_behind_here cs i x same h e s f = subst (λ l. All Fits (lists_among (outlines l))) (sym s) (fits_here case_behinds case_behind (λ c ds. refl) cs i x h e f)

pub case_behind_later : (cs : List CaseClause) (i : ℕ) (x : CaseClause) → i < length cs → x ≡ get_or cs i x → All Fits (case_behinds (drop i cs)) → All Fits (case_behinds (drop (i + 1) cs))
case_behind_later = fits_later case_behinds case_behind (λ c ds. refl)

-- ---- of a `select`

abbrev pub comm_heads : List CommClause → List Listing
comm_heads cs = heads (clause_lists (map comm_layer cs))

abbrev pub comm_head : CommClause → List Listing
comm_head c = own (out-CommClause c).colon (out-CommClause c).list

abbrev pub comm_behinds : List CommClause → List Listing
comm_behinds cs = lists_behind (clause_lists (map comm_layer cs))

abbrev pub comm_behind : CommClause → List Listing
comm_behind c = lists_among (outlines (out-CommClause c).list)

pub comm_step : (cs : List CommClause) (i : ℕ) (x : CommClause) (same : List Stmt) (f : Frame) (old new done : List CutUnit)
    → i < length cs → x ≡ get_or cs i x → f ≡ frame (clause (out-CommClause x).colon) → same ≡ (out-CommClause x).list
    → old ++ units_in (comm_heads (drop i cs)) ≡ done → new ≡ old ++ list_units f (map mark same) → new ++ units_in (comm_heads (drop (i + 1) cs)) ≡ done
comm_step cs i x same f old new done h e k s before step =
    walk_step comm_heads comm_head (λ c ds. refl) cs i x old new done h e before
    (step ∙ ap (λ l. old ++ l) (sym (own_units (out-CommClause x).colon (out-CommClause x).list same f k s)))

pub comm_colon : (cs : List CommClause) (i : ℕ) (x : CommClause) → i < length cs → x ≡ get_or cs i x → All Fits (comm_heads (drop i cs)) → (out-CommClause x).colon + 1 < 2 ^ 32
comm_colon cs i x h e f = own_colon (out-CommClause x).colon (out-CommClause x).list (fits_here comm_heads comm_head (λ c ds. refl) cs i x h e f)

pub comm_length : (cs : List CommClause) (i : ℕ) (x : CommClause) (same : List Stmt) → i < length cs → x ≡ get_or cs i x → same ≡ (out-CommClause x).list → All Fits (comm_heads (drop i cs)) → length same < 2 ^ 32
comm_length cs i x same h e s f = own_length (out-CommClause x).colon (out-CommClause x).list same s (fits_here comm_heads comm_head (λ c ds. refl) cs i x h e f)

pub comm_later : (cs : List CommClause) (i : ℕ) (x : CommClause) → i < length cs → x ≡ get_or cs i x → All Fits (comm_heads (drop i cs)) → All Fits (comm_heads (drop (i + 1) cs))
comm_later = fits_later comm_heads comm_head (λ c ds. refl)

pub comm_behind_step : (cs : List CommClause) (i : ℕ) (x : CommClause) (same : List Stmt) (old new done : List CutUnit)
    → i < length cs → x ≡ get_or cs i x → same ≡ (out-CommClause x).list
    → old ++ units_in (comm_behinds (drop i cs)) ≡ done → new ≡ old ++ units_in (lists_among (outlines same)) → new ++ units_in (comm_behinds (drop (i + 1) cs)) ≡ done
comm_behind_step cs i x same old new done h e s before step =
    walk_step comm_behinds comm_behind (λ c ds. refl) cs i x old new done h e before (step ∙ ap (λ l. old ++ units_in (lists_among (outlines l))) s)

pub comm_behind_here : (cs : List CommClause) (i : ℕ) (x : CommClause) (same : List Stmt) → i < length cs → x ≡ get_or cs i x → same ≡ (out-CommClause x).list → All Fits (comm_behinds (drop i cs)) → All Fits (lists_among (outlines same))
comm_behind_here cs i x same h e s f = subst (λ l. All Fits (lists_among (outlines l))) (sym s) (fits_here comm_behinds comm_behind (λ c ds. refl) cs i x h e f)

pub comm_behind_later : (cs : List CommClause) (i : ℕ) (x : CommClause) → i < length cs → x ≡ get_or cs i x → All Fits (comm_behinds (drop i cs)) → All Fits (comm_behinds (drop (i + 1) cs))
comm_behind_later = fits_later comm_behinds comm_behind (λ c ds. refl)
