use Rattle.std.proofs.Common.{◌≡◌, ◌++◌, List, map, sym, ap, subst, ◌∙◌, rules}
use Rattle.std.specs.Prelude.{OnOk}
use Rattle.go_ast.specs.declared.block.StmtForm.{out-StmtForm}
use Rattle.cov_cut.specs.Outline.{Listing, heads, lists_behind}
use Rattle.cov_cut.specs.Outlining.{clause_lists}
use Rattle.cov_cut.specs.Layers.{case_layer, comm_layer, form_lists}
use Rattle.cov_cut.specs.Counted.{else_ifs_in}
use Rattle.cov_cut.proofs.Walks.{walk_is}
use Rattle.cov_cut.proofs.Branches.{renamed, found_together}
use Rattle.go_ast.specs.declared.block.StmtForm.{the_lemmas as form_lemmas}
use Rattle.cov_cut.proofs.else_if.+branch.Goals as goal

pub find-returns : goal.find-returns
find-returns t c =
    let P : List Listing → Type 0 = λ l. OnOk c.find_in_form.result (c.find_in_form.new.spans.items ≡ c.args.spans.now.items ++ else_ifs_in l) in
    subst P (sym (walk_is c.args.s.now)) c.find_in_form.ensures

pub find_in_form-returns-in-Switch : goal.find_in_form-returns-in-Switch
find_in_form-returns-in-Switch t c =
    let cs = map case_layer c.as_slice.result.now in
    let same : form_lists (out-StmtForm c.args.form.now) ≡ heads (clause_lists cs) ++ lists_behind (clause_lists cs) = search (rules, form_lemmas, c.as_slice.ensures) in
    renamed c.find_in_cases.result _ _ _ _ (found_together cs ∙ ap else_ifs_in (sym same)) c.find_in_cases.ensures

pub find_in_form-returns-in-Select : goal.find_in_form-returns-in-Select
find_in_form-returns-in-Select t c =
    let cs = map comm_layer c.as_slice-in-Select.result.now in
    let same : form_lists (out-StmtForm c.args.form.now) ≡ heads (clause_lists cs) ++ lists_behind (clause_lists cs) = search (rules, form_lemmas, c.as_slice-in-Select.ensures) in
    renamed c.find_in_comms.result _ _ _ _ (found_together cs ∙ ap else_ifs_in (sym same)) c.find_in_comms.ensures
