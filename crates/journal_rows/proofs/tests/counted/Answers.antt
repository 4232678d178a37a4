use Rattle.std.proofs.Common.{◌<◌, ◌^◌, sym, subst}
use Rattle.go_meaning.specs.Programs.{Parts, is_cut}
use Rattle.go_meaning.specs.Units.{units_of}
use Rattle.go_meaning.specs.Erasing.{IsUncounted}
use Rattle.journal_rows.proofs.Uncounted.{uncounted, few_units}
use Rattle.journal_rows.proofs.tests.counted.Goals as goal

pub with_counts-requires : goal.with_counts-requires
with_counts-requires c =
    let F : Parts → Type 0 = λ P. units_of (is_cut P) 0 P.lists < 2 ^ 32 in
    record {
      uncounted = subst IsUncounted (sym c.in_ok-program.ensures) uncounted;
      few = subst F (sym c.in_ok-program.ensures) few_units;
    }
