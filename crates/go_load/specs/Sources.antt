-- What reading a source of a module comes to.
use Rattle.std.specs.Prelude.{◌≡◌, Ok, Err}
use Rattle.cov_outside.specs.declared.limit.Which.{Which}
use Rattle.cov_outside.specs.declared.limit.Which.TheVariants as limits
use Rattle.go_load.specs.Readings.{Reading}
use Rattle.go_load.specs.declared.reader.ReadFault.TheVariants as faults
use Rattle.go_parse.specs.Answers.{IsSource, Fails}
use Rattle.go_parse.specs.declared.fault.SourceFault.{SourceFault}
use Rattle.go_parse.specs.declared.fault.SourceFault.TheVariants as source
use Rattle.go_parse.specs.declared.fault.WhichSource.{WhichSource}
use Rattle.go_parse.specs.declared.fault.WhichSource.TheVariants as which
use Rattle.go_load.specs.declared.reader.ReadFault.{ReadFault}

-- a limit of sources among all limits
abbrev pub limit_of : WhichSource → Which
limit_of which.SelectClauses = limits.SelectClauses
limit_of which.Depth = limits.Depth

-- a fault of a source as one of reading
abbrev pub read_fault : SourceFault → ReadFault
read_fault (source.At offset kind) = faults.At offset kind
read_fault (source.Limit w) = faults.Limit (limit_of w)
read_fault source.NoMemory = faults.NoMemory

-- The text's tokens spell the tree, or the text is no source for this reason.
abbrev pub ReadsSources : Reading
ReadsSources text (Ok file) = IsSource text file
ReadsSources text (Err e) = (fault : SourceFault) × Fails text fault × (e ≡ read_fault fault)
