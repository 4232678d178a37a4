use Rattle.std.proofs.Common.{subst, sym}
use Rattle.std.specs.Prelude.{All}
use Rattle.go_ast.specs.declared.decl.Decl.{Decl}
use Rattle.cov_cut.specs.Units.{cut_in}
use Rattle.cov_cut.proofs.Files.{AllFit}
use Rattle.cov_cut.proofs.Built.{func_in}
use Rattle.cov_cut.proofs.tests.within.decl_fits.Goals as goal

pub returns-in-Func : goal.returns-in-Func
returns-in-Func c = λ e. let P : Decl → Type 0 = λ d. All AllFit (cut_in d) in subst P (sym c.in-Func.is) (func_in c.in-Func.f (c.block_fits.ensures e))
