-- What a source is answered with.
use Rattle.std.specs.Prelude.{◌≡◌, ◌⊎◌, ◌≤◌, ℕ, List, length, Option, Some, None, slice_get}
use Rattle.go_ast.specs.declared.token.Token.{Token}
use Rattle.go_ast.specs.declared.kind.LexKind.{LexKind}
use Rattle.go_ast.specs.declared.kind.SourceKind.TheVariants.{Unexpected}
use Rattle.go_ast.specs.declared.file.File.{File}
use Rattle.go_ast.specs.Tokens.{HasTokens}
use Rattle.go_ast.specs.Faults.{IsFault}
use Rattle.go_ast.specs.Kinds.{source_kind}
use Rattle.go_lex.specs.declared.fault.LexFault.{LexFault}
use Rattle.go_lex.specs.declared.fault.LexFault.TheVariants as lexical
use Rattle.go_grammar.specs.Words.{words_of}
use Rattle.go_grammar.specs.Blocks.{source}
use Rattle.go_grammar.specs.Files.{SpellsWithin}
use Rattle.go_grammar.specs.Verdicts.{IsUnexpected, IsTooDeep, IsTooMany}
use Rattle.go_parse.specs.declared.fault.SourceFault.{SourceFault}
use Rattle.go_parse.specs.declared.fault.SourceFault.TheVariants as fault
use Rattle.go_parse.specs.declared.fault.WhichSource.TheVariants as limit

-- the tokens of the text spell the file, which keeps both limits
abbrev pub IsSource : List ℕ → File → Type 0
IsSource text file = (tokens : List Token) × HasTokens text tokens × SpellsWithin source 1000 1000 file (words_of text tokens)

abbrev pub offset_by : List ℕ → Option Token → ℕ
offset_by text None = length text
offset_by text (Some token) = token.span.start

-- where token i stands; the end is a token at the text's length
abbrev pub offset_at : List ℕ → List Token → ℕ → ℕ
offset_at text tokens i = offset_by text (slice_get tokens i)

-- why these tokens spell no file
abbrev pub IsFaultOf : List ℕ → List Token → SourceFault → Type 0
IsFaultOf text tokens (fault.At offset kind) = (kind ≡ Unexpected) × ((i : ℕ) × IsUnexpected source 1000 1000 (words_of text tokens) i × (offset ≡ offset_at text tokens i))
IsFaultOf text tokens (fault.Limit limit.Depth) = (i : ℕ) × IsTooDeep source 1000 1000 (words_of text tokens) i
IsFaultOf text tokens (fault.Limit limit.SelectClauses) = (i : ℕ) × IsTooMany source 1000 1000 (words_of text tokens) i
IsFaultOf text tokens fault.NoMemory = Unit {0}

-- the text has no tokens, for this first reason
abbrev pub IsLexFault : List ℕ → SourceFault → Type 0
IsLexFault text (fault.At offset kind) = (flaw : LexKind) × (kind ≡ source_kind flaw) × IsFault text offset flaw
IsLexFault text (fault.Limit which) = ⊥
IsLexFault text fault.NoMemory = Unit {0}

-- the fault of a source that a lexical fault is
abbrev pub source_fault : LexFault → SourceFault
source_fault (lexical.At offset kind) = fault.At offset (source_kind kind)
source_fault lexical.NoMemory = fault.NoMemory

-- why the text is no source
abbrev pub Fails : List ℕ → SourceFault → Type 0
Fails text e = IsLexFault text e ⊎ ((tokens : List Token) × HasTokens text tokens × IsFaultOf text tokens e)

-- the offset of the fault, if it has one, is at most the length of the text
abbrev pub IsWithin : ℕ → SourceFault → Type 0
IsWithin len (fault.At offset kind) = offset ≤ len
IsWithin len (fault.Limit which) = Unit {0}
IsWithin len fault.NoMemory = Unit {0}
