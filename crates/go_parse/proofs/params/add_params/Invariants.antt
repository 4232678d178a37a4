use Rattle.std.proofs.Common.{◌≡◌, ◌++◌, length}
use Rattle.std.specs.Prelude.{reverse}
use Rattle.go_grammar.specs.Decls.{params_of}
use Rattle.go_parse.proofs.params.add_params.Given as goal

abbrev pub decreases-loop-name : goal.decreases-loop-name
decreases-loop-name l = length l.names

abbrev pub invariant-loop-name : goal.invariant-loop-name
invariant-loop-name l = params_of l.names l.kind ++ reverse l.added.items ≡ params_of l.fn.names l.kind
