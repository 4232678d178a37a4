-- The kinds of faults of a source.
use Rattle.go_ast.specs.declared.kind.LexKind.{LexKind}
use Rattle.go_ast.specs.declared.kind.LexKind.TheVariants as lex
use Rattle.go_ast.specs.declared.kind.SourceKind.{SourceKind}
use Rattle.go_ast.specs.declared.kind.SourceKind.TheVariants as source

-- the kind of the same name
abbrev pub source_kind : LexKind → SourceKind
source_kind lex.BadUtf8 = source.BadUtf8
source_kind lex.BadCharacter = source.BadCharacter
source_kind lex.BadComment = source.BadComment
source_kind lex.BadNumber = source.BadNumber
source_kind lex.BadRune = source.BadRune
source_kind lex.BadText = source.BadText
source_kind lex.BadEscape = source.BadEscape
