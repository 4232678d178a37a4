use Rattle.std.specs.Prelude.{codes, decimal}
use Rattle.cov_rewrite.proofs.Parts.{nine_parts}
use Rattle.cov_rewrite.proofs.trailer.push_type.Goals as goal

pub returns : goal.returns
returns c =
    let n = decimal c.args.count in
    nine_parts c.args.covered.now.items _ _ _ _ _ _ _ _ _ (codes "\nvar ") c.args.var.now (codes " = struct {\n\tCount [") n (codes "]uint32\n\tPos [3 * ") n (codes "]uint32\n\tNumStmt [") n (codes "]uint16\n}{\n")
    c.in_ok-extend_from_slice.ensures.items c.in_ok-extend_from_slice-2.ensures.items c.in_ok-extend_from_slice-3.ensures.items c.in_ok-push_number.ensures c.in_ok-extend_from_slice-4.ensures.items
    c.in_ok-push_number-2.ensures c.in_ok-extend_from_slice-5.ensures.items c.in_ok-push_number-3.ensures c.in_ok-extend_from_slice-6.ensures.items
