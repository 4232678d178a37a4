use Rattle.std.proofs.Common.{◌≡◌, ℕ, ◌+◌, List, [], ◌++◌, map, take, drop, length, Ok}
use Rattle.go_types.specs.Checking.{and_then}
use Rattle.go_packages.specs.Imports as spec
use Rattle.go_packages.proofs.imports.enter.Given as goal

abbrev pub invariant-loop-number : goal.invariant-loop-number
invariant-loop-number l = spec.in_file l.imports l.file l.fn.names ≡ record l.names { locals = l.names.locals ++ spec.import_names l.file l.number (drop l.number l.imports) }
