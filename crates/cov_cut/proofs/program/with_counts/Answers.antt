use Rattle.std.proofs.Common.{◌≡◌, ◌∙◌, sym, subst, rules}
use Rattle.go_meaning.specs.Programs.{Parts}
use Rattle.go_meaning.specs.Units.{counted}
use Rattle.go_meaning.specs.WellFormed.{IsProgram}
use Rattle.cov_cut.proofs.Numbered.{counted_is}
use Rattle.cov_cut.proofs.program.with_counts.Goals as goal

pub new-requires : goal.new-requires
new-requires c =
    let P = c.args.program.now in
    let Q : Parts = record { packages = c.in_ok-copy_packages.field-0; functions = c.in_ok-copy_functions.field-0; lists = c.lists-2.inside.items.items; globals = c.in_ok-copy_globals.field-0; units = c.in_ok-lists.units; main = c.main.result } in
    let is : Q ≡ counted P = counted_is P Q (search rules) (search rules) (search rules) (search rules) (search rules) (search rules) in
    subst IsProgram (sym is) (c.covering.ensures.counted P c.known.ensures c.requires.uncounted.units)

pub returns : goal.returns
returns c = c.new.ensures ∙ counted_is c.args.program.now _ (search rules) (search rules) (search rules) (search rules) (search rules) (search rules)
