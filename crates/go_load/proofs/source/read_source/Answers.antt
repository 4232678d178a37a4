use Rattle.std.proofs.Common.{List, ℕ, ap, sym, subst, ◌∙◌}
use Rattle.std.specs.Str.{IsUtf8}
use Rattle.go_load.specs.Packages as spec
use Rattle.go_load.proofs.Imports.{slash_utf8}
use Rattle.go_load.proofs.source.read_source.Goals as goal

pub read_text-requires : goal.read_text-requires
read_text-requires g c =
    subst IsUtf8 (sym (c.in_ok-path.ensures ∙ ap (λ (name : List ℕ). spec.path_in c.args.dir.now name) c.bytes.ensures)) (slash_utf8 c.args.dir.now c.args.name.now c.requires.dir c.requires.name)
