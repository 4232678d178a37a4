use Rattle.std.proofs.Common.{◌∙◌, length}
use Rattle.go_ast.specs.declared.«module».Package.{Package}
use Rattle.gocov_run.proofs.Texts.{behind_more}
use Rattle.gocov_run.proofs.files.texts_after.Goals as goal

pub loop-package-preserved : goal.loop-package-preserved
loop-package-preserved c =
    c.texts_behind-left.ensures
    ∙ behind_more (λ (p : Package). length p.files) c.args.packages.now c.loop-package.package-index _ c.package-item.result c.args.texts.now c.loop-package.left.now c.loop-package-test.true c.package-item.is c.loop-package.invariant c.len.ensures
