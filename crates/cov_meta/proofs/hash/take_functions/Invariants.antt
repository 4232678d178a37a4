use Rattle.std.proofs.Common.{take}
use Rattle.std.specs.Prelude.{flat_map}
use Rattle.cov_meta.specs.Hash.{Takes, function_message}
use Rattle.cov_meta.proofs.hash.take_functions.Given as goal

abbrev pub invariant-loop-function : goal.invariant-loop-function
invariant-loop-function l = Takes l.fn.hasher l.hasher (flat_map function_message (take l.function-index l.functions))
