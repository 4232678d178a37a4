use Rattle.std.proofs.Common.{map}
use Rattle.gocov_words.specs.Words.{meaning}
use Rattle.gocov_tools.proofs.Covers.{received_cover}
use Rattle.gocov_tools.proofs.top.answer.Goals as goal

pub returns-in-Ok-Cover-clause-received : goal.returns-in-Ok-Cover-clause-received
returns-in-Ok-Cover-clause-received g c =
    received_cover (g.F.Files.tree c.args.files.now) c.args.stamp (meaning (map (λ w. w.now) c.args.words.now)) c.in-Ok-Cover.args _ _ _ _ _ (rw c.in-Ok-Cover.field-0-is at c.in-Ok-Cover.ensures) c.cover.ensures.told
