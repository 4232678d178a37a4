use Rattle.std.proofs.Common.{sym, subst, rules}
use Rattle.std.specs.Str.{IsUtf8}
use Rattle.std.specs.Prelude.{codes}
use Rattle.std.proofs.lemmas.Str.{IsUtf8-from_ascii}
use Rattle.go_load.proofs.Imports.{slash_utf8}
use Rattle.go_load.proofs.home.find_home.Goals as goal

pub read_text-requires : goal.read_text-requires
read_text-requires g c =
    let name : IsUtf8 (codes "go.mod") = IsUtf8-from_ascii (codes "go.mod") (search rules) in
    subst IsUtf8 (sym c.in_ok-path.ensures) (slash_utf8 c.args.dir (codes "go.mod") c.requires name)
