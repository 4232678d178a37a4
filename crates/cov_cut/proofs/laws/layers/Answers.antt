use Rattle.std.proofs.Common.{◌∙◌, ap}
use Rattle.go_ast.specs.declared.block.Stmt.{Stmt}
use Rattle.cov_cut.specs.Outlining.{node_of}
use Rattle.cov_cut.proofs.Opened.{outline_is, form_is, block_is}
use Rattle.cov_cut.proofs.Walks.{func_lists_are}
use Rattle.cov_cut.proofs.laws.layers.Goals as goal

pub returns : goal.returns
returns c = record {
  statement = λ (s : Stmt). outline_is s ∙ ap (node_of s.span.start s.span.end) (form_is s.form);
  block = block_is;
  function = func_lists_are;
}
