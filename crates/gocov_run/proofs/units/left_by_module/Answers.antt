use Rattle.std.proofs.Common.{List, sym, subst}
use Rattle.std.specs.Prelude.{All}
use Rattle.go_ast.specs.declared.«module».Package.{Package}
use Rattle.go_ast.specs.declared.«module».SourceFile.{SourceFile}
use Rattle.go_load.specs.Loading.{IsTreeRead}
use Rattle.go_load.specs.Sources.{ReadsSources}
use Rattle.gocov_run.proofs.units.left_by_module.Goals as goal

pub left_by_files-requires : goal.left_by_files-requires
left_by_files-requires c =
    let Read : List SourceFile → Type 0 = All (λ (f : SourceFile). IsTreeRead ReadsSources f.tree) in
    let Package' : Package → Type 0 = λ p. Read p.files in
    let Packages : List Package → Type 0 = All Package' in
    let all = subst Packages (sym c.as_slice-package-items.ensures) c.requires in
    subst Read (sym c.as_slice.ensures) (subst Package' (sym c.package-item.is) (all c.loop-package.package-index c.package-item.result c.loop-package-test.true))
