-- The names of faults of sources in the lines of answers.
use Rattle.std.specs.Prelude.{ℕ, List, codes}
use Rattle.go_ast.specs.declared.kind.SourceKind.{SourceKind}
use Rattle.go_ast.specs.declared.kind.SourceKind.TheVariants as kinds

-- the name of a fault of a source
abbrev pub source_name : SourceKind → List ℕ
source_name kinds.BadUtf8 = codes "BadUtf8"
source_name kinds.BadCharacter = codes "BadCharacter"
source_name kinds.BadComment = codes "BadComment"
source_name kinds.BadNumber = codes "BadNumber"
source_name kinds.BadRune = codes "BadRune"
source_name kinds.BadText = codes "BadText"
source_name kinds.BadEscape = codes "BadEscape"
source_name kinds.CoverName = codes "CoverName"
source_name kinds.Unexpected = codes "Unexpected"
source_name kinds.Undeclared = codes "Undeclared"
source_name kinds.Redeclared = codes "Redeclared"
source_name kinds.NotExported = codes "NotExported"
source_name kinds.BadName = codes "BadName"
source_name kinds.WrongType = codes "WrongType"
source_name kinds.WrongCount = codes "WrongCount"
source_name kinds.NotConstant = codes "NotConstant"
source_name kinds.ConstRange = codes "ConstRange"
source_name kinds.ConstDivide = codes "ConstDivide"
source_name kinds.UntypedShift = codes "UntypedShift"
source_name kinds.BadCall = codes "BadCall"
source_name kinds.BadLabel = codes "BadLabel"
source_name kinds.DuplicateCase = codes "DuplicateCase"
source_name kinds.DuplicateDefault = codes "DuplicateDefault"
source_name kinds.MissingReturn = codes "MissingReturn"
source_name kinds.UnusedVariable = codes "UnusedVariable"
source_name kinds.UnusedLabel = codes "UnusedLabel"
source_name kinds.UnusedImport = codes "UnusedImport"
