use Rattle.std.proofs.Common.{subst, sym}
use Rattle.std.specs.Str.{IsUtf8}
use Rattle.gocov_tools.proofs.listing.list_dir.Goals as goal

pub returns-clause-utf8 : goal.returns-clause-utf8
returns-clause-utf8 g c = subst IsUtf8 (sym c.in_ok-dir.ensures) c.requires
