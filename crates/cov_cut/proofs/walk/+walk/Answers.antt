use Rattle.std.proofs.Common.{◌≡◌, ◌++◌, List, map, ◌∙◌, refl, sym, subst, rules}
use Rattle.std.specs.Prelude.{OnOk}
use Rattle.go_ast.specs.declared.block.Block.{out-Block}
use Rattle.go_ast.specs.declared.block.Other.{out-Other}
use Rattle.go_ast.specs.declared.block.Stmt.{Stmt}
use Rattle.go_ast.specs.declared.block.StmtForm.{out-StmtForm}
use Rattle.cov_cut.specs.Outline.{braces, no_list, heads, lists_along, Listing, lists_in, lists_among, lists_behind}
use Rattle.cov_cut.specs.Outlining.{outline, body, clause_lists}
use Rattle.cov_cut.specs.Layers.{kind_after, block_layer, case_layer, comm_layer, other_layer, other_option, outlines, form_lists}
use Rattle.cov_cut.specs.Units.{units_in}
use Rattle.cov_cut.proofs.Walks.{along_first, along_rest, along_split, both_step, fits_left, fits_right, list_frame, list_length, list_among, list_step, fits_along, fits_here, fits_later, walk_is, walk_step}
use Rattle.cov_cut.proofs.Clauses.{case_behind_here, case_behind_later, case_behind_step, comm_behind_here, comm_behind_later, comm_behind_step}
use Rattle.go_ast.specs.declared.block.Block.{the_lemmas as block_lemmas}
use Rattle.go_ast.specs.declared.block.Other.{the_lemmas as other_lemmas}
use Rattle.go_ast.specs.declared.block.StmtForm.{the_lemmas as form_lemmas}
use Rattle.go_ast.specs.declared.block.Stmt.{the_lemmas as stmt_lemmas}
use Rattle.go_ast.specs.declared.block.CaseClause.{the_lemmas as case_lemmas}
use Rattle.go_ast.specs.declared.block.CommClause.{the_lemmas as comm_lemmas}
use Rattle.cov_cut.proofs.walk.+walk.Goals as goal

pub cut_block-braces-requires-clause-left_fits : goal.cut_block-braces-requires-clause-left_fits
cut_block-braces-requires-clause-left_fits t c =
    let b = out-Block c.args.block.now in
    (list_frame (braces b.left b.right) b.list c.as_slice-list.result.now c.as_slice-list.ensures c.requires.fits).insert

pub cut_block-braces-requires-clause-right_fits : goal.cut_block-braces-requires-clause-right_fits
cut_block-braces-requires-clause-right_fits t c =
    let b = out-Block c.args.block.now in
    (list_frame (braces b.left b.right) b.list c.as_slice-list.result.now c.as_slice-list.ensures c.requires.fits).end

pub cut_block-cut_list-requires : goal.cut_block-cut_list-requires
cut_block-cut_list-requires t c =
    let b = out-Block c.args.block.now in
    list_length (braces b.left b.right) b.list c.as_slice-list.result.now c.as_slice-list.ensures c.requires.fits

pub cut_block-walk_list-requires : goal.cut_block-walk_list-requires
cut_block-walk_list-requires t c =
    let b = out-Block c.args.block.now in
    (search (rules, block_lemmas), list_among (braces b.left b.right) b.list c.as_slice-list.result.now c.as_slice-list.ensures c.requires.fits)

pub cut_block-returns : goal.cut_block-returns
cut_block-returns t c =
    let b = out-Block c.args.block.now in
    list_step (braces b.left b.right) b.list c.as_slice-list.result.now c.as_slice-list.ensures c.walk_list.result c.braces.result _ _ _ c.braces.ensures c.in_ok-cut_list.ensures c.walk_list.ensures

pub cut_other-other_frame-requires : goal.cut_other-other_frame-requires
cut_other-other_frame-requires t c =
    let b = out-Block (out-Other c.args.other.now).block in
    list_frame (kind_after c.args.other.now) b.list c.as_slice-list.result.now c.as_slice-list.ensures c.requires.fits

pub cut_other-cut_list-requires : goal.cut_other-cut_list-requires
cut_other-cut_list-requires t c =
    let b = out-Block (out-Other c.args.other.now).block in
    list_length (kind_after c.args.other.now) b.list c.as_slice-list.result.now c.as_slice-list.ensures c.requires.fits

pub cut_other-walk_list-requires : goal.cut_other-walk_list-requires
cut_other-walk_list-requires t c =
    let b = out-Block (out-Other c.args.other.now).block in
    (search (rules, other_lemmas, block_lemmas), list_among (kind_after c.args.other.now) b.list c.as_slice-list.result.now c.as_slice-list.ensures c.requires.fits)

pub cut_other-returns : goal.cut_other-returns
cut_other-returns t c =
    let b = out-Block (out-Other c.args.other.now).block in
    list_step (kind_after c.args.other.now) b.list c.as_slice-list.result.now c.as_slice-list.ensures c.walk_list.result c.other_frame.result _ _ _ c.other_frame.ensures c.in_ok-cut_list.ensures c.walk_list.ensures

pub walk-walk_form-requires : goal.walk-walk_form-requires
walk-walk_form-requires t c = (search (rules, stmt_lemmas), fits_along _ _ (walk_is c.args.s.now) c.requires.fits)

pub walk-returns : goal.walk-returns
walk-returns t c =
    let P : List Listing → Type 0 = λ l. OnOk c.walk_form.result (c.walk_form.new.units ≡ c.args.units.now ++ units_in l) in
    subst P (sym (walk_is c.args.s.now)) c.walk_form.ensures

pub walk_cases-walk_list-requires : goal.walk_cases-walk_list-requires
walk_cases-walk_list-requires t c =
    (search (rules, case_lemmas), case_behind_here c.args.clauses.now c.loop-clause.clause-index c.clause-item.result c.as_slice.result.now c.loop-clause-test.true c.clause-item.is c.as_slice.ensures c.loop-clause.invariant.fits)

pub walk_cases-loop-clause-preserved : goal.walk_cases-loop-clause-preserved
walk_cases-loop-clause-preserved t c = record {
  left = case_behind_step c.args.clauses.now c.loop-clause.clause-index c.clause-item.result c.as_slice.result.now _ _ _ c.loop-clause-test.true c.clause-item.is c.as_slice.ensures c.loop-clause.invariant.left c.in_ok-walk_list.ensures;
  fits = case_behind_later c.args.clauses.now c.loop-clause.clause-index c.clause-item.result c.loop-clause-test.true c.clause-item.is c.loop-clause.invariant.fits;
}

pub walk_comms-walk_list-requires : goal.walk_comms-walk_list-requires
walk_comms-walk_list-requires t c =
    (search (rules, comm_lemmas), comm_behind_here c.args.clauses.now c.loop-clause.clause-index c.clause-item.result c.as_slice.result.now c.loop-clause-test.true c.clause-item.is c.as_slice.ensures c.loop-clause.invariant.fits)

pub walk_comms-loop-clause-preserved : goal.walk_comms-loop-clause-preserved
walk_comms-loop-clause-preserved t c = record {
  left = comm_behind_step c.args.clauses.now c.loop-clause.clause-index c.clause-item.result c.as_slice.result.now _ _ _ c.loop-clause-test.true c.clause-item.is c.as_slice.ensures c.loop-clause.invariant.left c.in_ok-walk_list.ensures;
  fits = comm_behind_later c.args.clauses.now c.loop-clause.clause-index c.clause-item.result c.loop-clause-test.true c.clause-item.is c.loop-clause.invariant.fits;
}

pub walk_form-cut_block-requires : goal.walk_form-cut_block-requires
walk_form-cut_block-requires t c =
    let same : form_lists (out-StmtForm c.args.form.now) ≡ lists_along (body (block_layer c.in-Block.body) no_list) = search (rules, form_lemmas) in
    (search (rules, form_lemmas), fits_along _ _ same c.requires.fits)

pub walk_form-cut_block-requires-in-For : goal.walk_form-cut_block-requires-in-For
walk_form-cut_block-requires-in-For t c =
    let same : form_lists (out-StmtForm c.args.form.now) ≡ lists_along (body (block_layer c.in-For.body) no_list) = search (rules, form_lemmas) in
    (search (rules, form_lemmas), fits_along _ _ same c.requires.fits)

pub walk_form-cut_block-requires-in-Range : goal.walk_form-cut_block-requires-in-Range
walk_form-cut_block-requires-in-Range t c =
    let same : form_lists (out-StmtForm c.args.form.now) ≡ lists_along (body (block_layer c.in-Range.body) no_list) = search (rules, form_lemmas) in
    (search (rules, form_lemmas), fits_along _ _ same c.requires.fits)

pub walk_form-cut_block-requires-in-If : goal.walk_form-cut_block-requires-in-If
walk_form-cut_block-requires-in-If t c =
    let b = out-Block c.in-If.then in
    let same : form_lists (out-StmtForm c.args.form.now) ≡ lists_along (body (block_layer c.in-If.then) (other_option c.in-If.other)) = search (rules, form_lemmas) in
    (search (rules, form_lemmas), along_first (braces b.left b.right) (outlines b.list) (other_option c.in-If.other) (fits_along _ _ same c.requires.fits))

pub walk_form-cut_other-requires : goal.walk_form-cut_other-requires
walk_form-cut_other-requires t c =
    let b = out-Block c.in-If.then in
    let same : form_lists (out-StmtForm c.args.form.now) ≡ lists_along (body (block_layer c.in-If.then) (other_layer c.in-Some.other)) = search (rules, form_lemmas) in
    (search (rules, form_lemmas), along_rest (braces b.left b.right) (outlines b.list) (other_layer c.in-Some.other) (fits_along _ _ same c.requires.fits))

pub walk_form-returns-in-Some : goal.walk_form-returns-in-Some
walk_form-returns-in-Some t c =
    let b = out-Block c.in-If.then in
    let same : form_lists (out-StmtForm c.args.form.now) ≡ lists_along (body (block_layer c.in-If.then) (other_layer c.in-Some.other)) = search (rules, form_lemmas) in
    both_step c.cut_other.result (lists_along (body (block_layer c.in-If.then) no_list)) (lists_along (other_layer c.in-Some.other)) _ _ _ _ (same ∙ along_split (braces b.left b.right) (outlines b.list) (other_layer c.in-Some.other)) c.in_ok-cut_block-in-If.ensures c.cut_other.ensures

pub walk_form-cut_cases-requires : goal.walk_form-cut_cases-requires
walk_form-cut_cases-requires t c =
    let cs = clause_lists (map case_layer c.as_slice-list.result.now) in
    let same : form_lists (out-StmtForm c.args.form.now) ≡ heads cs ++ lists_behind cs = search (rules, form_lemmas, c.as_slice-list.ensures) in
    record { fits = fits_left (heads cs) (lists_behind cs) (fits_along _ _ same c.requires.fits) }

pub walk_form-walk_cases-requires : goal.walk_form-walk_cases-requires
walk_form-walk_cases-requires t c =
    let cs = clause_lists (map case_layer c.as_slice-list.result.now) in
    let same : form_lists (out-StmtForm c.args.form.now) ≡ heads cs ++ lists_behind cs = search (rules, form_lemmas, c.as_slice-list.ensures) in
    (search (rules, form_lemmas), fits_right (heads cs) (lists_behind cs) (fits_along _ _ same c.requires.fits))

pub walk_form-returns-in_ok-cut_cases-in-Switch : goal.walk_form-returns-in_ok-cut_cases-in-Switch
walk_form-returns-in_ok-cut_cases-in-Switch t c =
    let cs = clause_lists (map case_layer c.as_slice-list.result.now) in
    let same : form_lists (out-StmtForm c.args.form.now) ≡ heads cs ++ lists_behind cs = search (rules, form_lemmas, c.as_slice-list.ensures) in
    both_step c.walk_cases.result (heads cs) (lists_behind cs) (form_lists (out-StmtForm c.args.form.now)) _ _ _ same c.in_ok-cut_cases-in-Switch.ensures c.walk_cases.ensures

pub walk_form-cut_comms-requires : goal.walk_form-cut_comms-requires
walk_form-cut_comms-requires t c =
    let cs = clause_lists (map comm_layer c.as_slice-list-in-Select.result.now) in
    let same : form_lists (out-StmtForm c.args.form.now) ≡ heads cs ++ lists_behind cs = search (rules, form_lemmas, c.as_slice-list-in-Select.ensures) in
    record { fits = fits_left (heads cs) (lists_behind cs) (fits_along _ _ same c.requires.fits) }

pub walk_form-walk_comms-requires : goal.walk_form-walk_comms-requires
walk_form-walk_comms-requires t c =
    let cs = clause_lists (map comm_layer c.as_slice-list-in-Select.result.now) in
    let same : form_lists (out-StmtForm c.args.form.now) ≡ heads cs ++ lists_behind cs = search (rules, form_lemmas, c.as_slice-list-in-Select.ensures) in
    (search (rules, form_lemmas), fits_right (heads cs) (lists_behind cs) (fits_along _ _ same c.requires.fits))

pub walk_form-returns-in_ok-cut_comms-in-Select : goal.walk_form-returns-in_ok-cut_comms-in-Select
walk_form-returns-in_ok-cut_comms-in-Select t c =
    let cs = clause_lists (map comm_layer c.as_slice-list-in-Select.result.now) in
    let same : form_lists (out-StmtForm c.args.form.now) ≡ heads cs ++ lists_behind cs = search (rules, form_lemmas, c.as_slice-list-in-Select.ensures) in
    both_step c.walk_comms.result (heads cs) (lists_behind cs) (form_lists (out-StmtForm c.args.form.now)) _ _ _ same c.in_ok-cut_comms-in-Select.ensures c.walk_comms.ensures

-- the lists in statements, one statement after another
abbrev all : List Stmt → List Listing
all ss = lists_among (outlines ss)

abbrev one : Stmt → List Listing
one s = lists_in (outline s)

pub walk_list-walk-requires : goal.walk_list-walk-requires
walk_list-walk-requires t c =
    (search (rules, stmt_lemmas), fits_here all one (λ s ss. refl) c.args.list.now c.loop-s.s-index c.s-item.result c.loop-s-test.true c.s-item.is c.loop-s.invariant.fits)

pub walk_list-loop-s-preserved : goal.walk_list-loop-s-preserved
walk_list-loop-s-preserved t c = record {
  left = walk_step all one (λ s ss. refl) c.args.list.now c.loop-s.s-index c.s-item.result _ _ _ c.loop-s-test.true c.s-item.is c.loop-s.invariant.left c.in_ok-walk.ensures;
  fits = fits_later all one (λ s ss. refl) c.args.list.now c.loop-s.s-index c.s-item.result c.loop-s-test.true c.s-item.is c.loop-s.invariant.fits;
}
