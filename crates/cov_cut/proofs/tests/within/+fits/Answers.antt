use Rattle.std.proofs.Common.{◌≡◌, ◌++◌, List, map, ◌∙◌, refl, sym, subst, rules, ◌≤◌, length, ◌<◌}
use Rattle.std.specs.Prelude.{All}
use Rattle.std.proofs.lemmas.List.Elements.{All-append}
use Rattle.go_ast.specs.declared.block.Block.{out-Block}
use Rattle.go_ast.specs.declared.block.Other.{out-Other}
use Rattle.go_ast.specs.declared.block.Stmt.{Stmt}
use Rattle.go_ast.specs.declared.block.StmtForm.{out-StmtForm}
use Rattle.go_ast.specs.declared.block.StmtForm.{the_lemmas as form_lemmas}
use Rattle.go_ast.specs.declared.block.CaseClause.{out-CaseClause}
use Rattle.go_ast.specs.declared.block.CommClause.{out-CommClause}
use Rattle.cov_cut.specs.Outline.{braces, no_list, heads, lists_along, Listing, lists_in, lists_among, lists_behind}
use Rattle.cov_cut.specs.Outlining.{outline, body, clause_lists}
use Rattle.cov_cut.specs.Layers.{kind_after, block_layer, case_layer, comm_layer, other_option, outlines, form_lists}
use Rattle.cov_cut.specs.Units.{Fits}
use Rattle.cov_cut.proofs.Walks.{along_split, fits_along, walk_is}
use Rattle.cov_cut.proofs.Clauses.{case_heads, case_head, case_behinds, case_behind, comm_heads, comm_head, comm_behinds, comm_behind}
use Rattle.cov_cut.proofs.Built.{along_fits, braces_fit, other_fit, own_fits, fits_more, fits_whole}
use Rattle.cov_cut.proofs.tests.within.+fits.Goals as goal

abbrev all : List Stmt → List Listing
all ss = lists_among (outlines ss)

abbrev one : Stmt → List Listing
one s = lists_in (outline s)

abbrev small_list : List Stmt → Type 0
small_list l = length l ≤ 1000

abbrev fit_list : List Stmt → Type 0
fit_list l = All Fits (all l)

pub block_fits-returns-then-are_small : goal.block_fits-returns-then-are_small
block_fits-returns-then-are_small t c = λ e.
    let b = out-Block c.args.block.now in
    let small : (0 < 1000000) × (b.left < 1000000) × (b.right < 1000000) = c.are_small.ensures c.if-are_small.true in
    along_fits (braces b.left b.right) b.list (braces_fit b.left b.right small.1 small.2)
    (subst small_list c.as_slice.ensures (c.list_fits.ensures.small e)) (subst fit_list c.as_slice.ensures (c.list_fits.ensures.fits e))

pub other_fits-returns-then-are_small : goal.other_fits-returns-then-are_small
other_fits-returns-then-are_small t c = λ e.
    let o = out-Other c.args.other.now in
    let b = out-Block o.block in
    let small : (o.after < 1000000) × (b.left < 1000000) × (b.right < 1000000) = c.are_small.ensures c.if-are_small.true in
    along_fits (kind_after c.args.other.now) b.list (other_fit (block_layer o.block) o.after b.hidden small.0 small.1 small.2)
    (subst small_list c.as_slice.ensures (c.list_fits.ensures.small e)) (subst fit_list c.as_slice.ensures (c.list_fits.ensures.fits e))

pub form_fits-returns-then-block_fits : goal.form_fits-returns-then-block_fits
form_fits-returns-then-block_fits t c = λ e.
    let b = out-Block c.in-If.then in
    let first = lists_along (body (block_layer c.in-If.then) no_list) in
    let rest = lists_along (other_option c.in-If.other) in
    let same : form_lists (out-StmtForm c.args.form.now) ≡ lists_along (body (block_layer c.in-If.then) (other_option c.in-If.other)) = search (rules, form_lemmas) in
    fits_along _ _ (sym (same ∙ along_split (braces b.left b.right) (outlines b.list) (other_option c.in-If.other)))
    (All-append Fits first rest (c.block_fits-in-If.ensures c.if-block_fits.true) (c.option_fits.ensures e))

pub list_fits-loop-s-preserved : goal.list_fits-loop-s-preserved
list_fits-loop-s-preserved t c =
    fits_more all one refl (λ s ss. refl) c.args.list.now c.loop-s.s-index c.s-item.result c.loop-s-test.true c.s-item.is c.loop-s.invariant (c.stmt_fits.ensures c.if-not-stmt_fits.false)

pub list_fits-returns-clause-fits : goal.list_fits-returns-clause-fits
list_fits-returns-clause-fits t c = λ e. fits_whole all one refl (λ s ss. refl) c.args.list.now c.loop-s.s-index c.loop-s-test.false c.loop-s.invariant

pub cases_fit-loop-clause-preserved : goal.cases_fit-loop-clause-preserved
cases_fit-loop-clause-preserved t c =
    let x = c.clause-item.result in
    let colon : (out-CaseClause x).colon < 1000000 = c.clause_fits.ensures.colon c.if-not-clause_fits.false in
    let small = subst small_list c.as_slice.ensures (c.clause_fits.ensures.small c.if-not-clause_fits.false) in
    let among = subst fit_list c.as_slice.ensures (c.clause_fits.ensures.fits c.if-not-clause_fits.false) in
    record {
      heads = fits_more case_heads case_head refl (λ d ds. refl) c.args.clauses.now c.loop-clause.clause-index x c.loop-clause-test.true c.clause-item.is c.loop-clause.invariant.heads
          (own_fits (out-CaseClause x).colon (out-CaseClause x).list colon small);
      behind = fits_more case_behinds case_behind refl (λ d ds. refl) c.args.clauses.now c.loop-clause.clause-index x c.loop-clause-test.true c.clause-item.is c.loop-clause.invariant.behind among;
    }

pub cases_fit-returns-clause-heads : goal.cases_fit-returns-clause-heads
cases_fit-returns-clause-heads t c = λ e. fits_whole case_heads case_head refl (λ d ds. refl) c.args.clauses.now c.loop-clause.clause-index c.loop-clause-test.false c.loop-clause.invariant.heads

pub cases_fit-returns-clause-behind : goal.cases_fit-returns-clause-behind
cases_fit-returns-clause-behind t c = λ e. fits_whole case_behinds case_behind refl (λ d ds. refl) c.args.clauses.now c.loop-clause.clause-index c.loop-clause-test.false c.loop-clause.invariant.behind

pub form_fits-returns-in-Switch : goal.form_fits-returns-in-Switch
form_fits-returns-in-Switch t c = λ e.
    let cs = clause_lists (map case_layer c.as_slice.result.now) in
    let same : form_lists (out-StmtForm c.args.form.now) ≡ heads cs ++ lists_behind cs = search (rules, form_lemmas, c.as_slice.ensures) in
    fits_along _ _ (sym same) (All-append Fits (heads cs) (lists_behind cs) (c.cases_fit.ensures.heads e) (c.cases_fit.ensures.behind e))

pub comms_fit-loop-clause-preserved : goal.comms_fit-loop-clause-preserved
comms_fit-loop-clause-preserved t c =
    let x = c.clause-item.result in
    let colon : (out-CommClause x).colon < 1000000 = c.clause_fits.ensures.colon c.if-not-clause_fits.false in
    let small = subst small_list c.as_slice.ensures (c.clause_fits.ensures.small c.if-not-clause_fits.false) in
    let among = subst fit_list c.as_slice.ensures (c.clause_fits.ensures.fits c.if-not-clause_fits.false) in
    record {
      heads = fits_more comm_heads comm_head refl (λ d ds. refl) c.args.clauses.now c.loop-clause.clause-index x c.loop-clause-test.true c.clause-item.is c.loop-clause.invariant.heads
          (own_fits (out-CommClause x).colon (out-CommClause x).list colon small);
      behind = fits_more comm_behinds comm_behind refl (λ d ds. refl) c.args.clauses.now c.loop-clause.clause-index x c.loop-clause-test.true c.clause-item.is c.loop-clause.invariant.behind among;
    }

pub comms_fit-returns-clause-heads : goal.comms_fit-returns-clause-heads
comms_fit-returns-clause-heads t c = λ e. fits_whole comm_heads comm_head refl (λ d ds. refl) c.args.clauses.now c.loop-clause.clause-index c.loop-clause-test.false c.loop-clause.invariant.heads

pub comms_fit-returns-clause-behind : goal.comms_fit-returns-clause-behind
comms_fit-returns-clause-behind t c = λ e. fits_whole comm_behinds comm_behind refl (λ d ds. refl) c.args.clauses.now c.loop-clause.clause-index c.loop-clause-test.false c.loop-clause.invariant.behind

pub form_fits-returns-in-Select : goal.form_fits-returns-in-Select
form_fits-returns-in-Select t c = λ e.
    let cs = clause_lists (map comm_layer c.as_slice-in-Select.result.now) in
    let same : form_lists (out-StmtForm c.args.form.now) ≡ heads cs ++ lists_behind cs = search (rules, form_lemmas, c.as_slice-in-Select.ensures) in
    fits_along _ _ (sym same) (All-append Fits (heads cs) (lists_behind cs) (c.comms_fit.ensures.heads e) (c.comms_fit.ensures.behind e))

pub stmt_fits-returns : goal.stmt_fits-returns
stmt_fits-returns t c = λ e. fits_along _ _ (sym (walk_is c.args.s.now)) (c.form_fits.ensures e)
