use Rattle.std.proofs.Common.{◌≡◌, [], ◌∷◌, false, length, rules}
use Rattle.std.specs.Prelude.{replicate}
use Rattle.go_load.proofs.Finding.{unsearched}
use Rattle.go_load.proofs.cycle.cycle_from.Goals as goal

pub lead_back-requires-clause-searched : goal.lead_back-requires-clause-searched
lead_back-requires-clause-searched c =
    let marks : c.deref_mut.result.now ≡ replicate (length c.args.graph.now) false = search rules in
    let path : c.in_ok-path.path.items ≡ c.args.start ∷ [] = search rules in
    rw (marks, path) (unsearched c.args.graph.now c.args.start (length c.args.graph.now))
