use Rattle.std.proofs.Common.{ap, ◌∙◌}
use Rattle.std.specs.Prelude.{Option, unwrap_or}
use Rattle.cov_report.specs.declared.function_sums.FunctionSum.{FunctionSum}
use Rattle.cov_report.proofs.FunctionSumming.{lookup_named}
use Rattle.cov_report.proofs.function_sums.sum_before.Goals as goal

pub returns-in-Some : goal.returns-in-Some
returns-in-Some c =
    ap (λ (o : Option FunctionSum). unwrap_or o (record { start_line = c.args.unit.now.start_line; share = record { covered = 0; statements = 0 } })) (c.in-Some.ensures.value ∙ lookup_named c.args.name.now c.args.functions.now.entries)

pub returns-in-None : goal.returns-in-None
returns-in-None c =
    ap (λ (o : Option FunctionSum). unwrap_or o (record { start_line = c.args.unit.now.start_line; share = record { covered = 0; statements = 0 } })) (c.in-None.ensures.value ∙ lookup_named c.args.name.now c.args.functions.now.entries)
