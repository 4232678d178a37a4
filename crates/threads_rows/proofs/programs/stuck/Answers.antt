use Rattle.std.proofs.Common.{◌∷◌, [], ap, ◌∙◌}
use Rattle.threads_rows.specs.Rows.{waiting_main}
use Rattle.threads_rows.proofs.InRange.{stuck_is}
use Rattle.threads_rows.proofs.programs.stuck.Goals as goal

pub program_with_group-requires : goal.program_with_group-requires
program_with_group-requires c = stuck_is c.in_ok-functions.functions c.in_ok-lists.lists c.in_ok-functions.ensures (c.in_ok-lists.ensures ∙ ap (λ b. b ∷ waiting_main ∷ []) c.new-body.ensures)
