use Rattle.cov_outside.specs.Memory.{pairs_of}
use Rattle.cov_outside.proofs.Trees.{keys_in}
use Rattle.cov_outside.proofs.entries.Contents.names.Goals as goal

pub returns-clause-names : goal.returns-clause-names
returns-clause-names c = rw (← c.self.view_is, keys_in (pairs_of c.self.inside.entries.items) c.self.invariant, ← c.deref.ensures.value) c.names_of.ensures.names
