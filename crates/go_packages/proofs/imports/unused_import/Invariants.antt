use Rattle.std.proofs.Common.{◌≡◌, ℕ, ◌+◌, List, [], ◌++◌, map, take, drop, length, Ok}
use Rattle.go_types.specs.Checking.{and_then}
use Rattle.go_packages.specs.Imports as spec
use Rattle.go_packages.proofs.imports.unused_import.Given as goal

abbrev pub invariant-loop-is_used : goal.invariant-loop-is_used
invariant-loop-is_used l = spec.unused_import l.used l.imports ≡ spec.unused_import (drop l.is_used-index l.used) l.left
