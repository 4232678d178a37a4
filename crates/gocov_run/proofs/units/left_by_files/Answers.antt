use Rattle.std.proofs.Common.{sym, subst}
use Rattle.go_ast.specs.declared.«module».SourceFile.{SourceFile}
use Rattle.go_load.specs.Loading.{IsTreeRead}
use Rattle.go_load.specs.Sources.{ReadsSources}
use Rattle.gocov_run.proofs.units.left_by_files.Goals as goal

pub left_by_file-requires : goal.left_by_file-requires
left_by_file-requires c =
    let Read : SourceFile → Type 0 = λ f. IsTreeRead ReadsSources f.tree in
    subst Read (sym c.file-item.is) (c.requires c.loop-file.file-index c.file-item.result c.loop-file-test.true)
