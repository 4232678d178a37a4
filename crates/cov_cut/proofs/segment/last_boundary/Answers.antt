use Rattle.std.proofs.Common.{◌-◌, length, ap, ◌∙◌, arith}
use Rattle.go_ast.specs.declared.block.Stmt.{Stmt}
use Rattle.cov_cut.specs.Layers.{mark}
use Rattle.cov_cut.proofs.Segments.{boundary_at}
use Rattle.cov_cut.proofs.segment.last_boundary.Goals as goal

pub returns-in-len1-up : goal.returns-in-len1-up
returns-in-len1-up c =
    c.boundary.ensures ∙ ap (λ (s : Stmt). (mark s).boundary) c.last-item.is
    ∙ boundary_at c.args.segment.now (length c.args.segment.now - 1) c.last-item.result (omega arith)
