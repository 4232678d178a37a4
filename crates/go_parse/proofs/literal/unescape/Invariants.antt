use Rattle.std.proofs.Common.{◌≡◌, ◌++◌, length}
use Rattle.go_ast.specs.Literals.{IsQuotedBody}
use Rattle.go_grammar.specs.Values.{unescape_from}
use Rattle.go_parse.proofs.literal.unescape.Given as goal

abbrev pub decreases-loop-rest : goal.decreases-loop-rest
decreases-loop-rest l = length l.rest

abbrev pub invariant-loop-rest : goal.invariant-loop-rest
invariant-loop-rest l = record {
  so_far : l.value.items ++ unescape_from 0 l.rest ≡ unescape_from 0 l.body;
  quoted : IsQuotedBody l.rest;
}
