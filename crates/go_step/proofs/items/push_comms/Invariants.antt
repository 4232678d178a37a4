use Rattle.std.proofs.Common.{◌≡◌, ◌-◌, ◌++◌, flat_map, drop, length}
use Rattle.go_meaning.specs.declared.node.CommClause.{CommClause}
use Rattle.go_meaning.specs.Acts.{comm_items}
use Rattle.go_step.proofs.items.push_comms.Given as goal

abbrev pub invariant-loop-k : goal.invariant-loop-k
invariant-loop-k l = l.items ≡ flat_map (λ (c : CommClause). comm_items c.comm) (drop (length l.clauses - l.k) l.clauses) ++ l.fn.items
