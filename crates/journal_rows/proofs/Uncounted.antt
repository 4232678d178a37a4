-- The program of two workers has no counters, and few units.
use Rattle.std.proofs.Common.{◌<◌, ◌^◌, refl, lit<}
use Rattle.go_meaning.specs.Programs.{Parts, is_cut}
use Rattle.go_meaning.specs.Units.{units_of}
use Rattle.go_meaning.specs.Erasing.{IsUncounted}
use Rattle.go_samples.specs.Samples.{program_with_group, working_functions, working}

abbrev pub works : Parts
works = program_with_group 2 working_functions working

pub uncounted : IsUncounted works
uncounted = record { lists = ((refl, (refl, tt)), ((refl, tt), (tt, ((refl, (refl, (refl, (refl, tt)))), tt)))); units = refl }

pub few_units : units_of (is_cut works) 0 works.lists < 2 ^ 32
few_units = lit< tt
