-- What reading a source of a covered module comes to.
use Rattle.std.specs.Prelude.{◌≡◌, ◌⊎◌, ℕ, List, Option, Some, None, Result, Ok, Err}
use Rattle.go_ast.specs.Tokens.{HasTokens}
use Rattle.go_ast.specs.declared.file.File.{File}
use Rattle.go_ast.specs.declared.kind.SourceKind.TheVariants.{CoverName}
use Rattle.go_ast.specs.declared.token.Token.{Token}
use Rattle.go_grammar.specs.Blocks.{source}
use Rattle.go_grammar.specs.Files.{SpellsWithin}
use Rattle.go_grammar.specs.Words.{words_of}
use Rattle.go_load.specs.CoverNames.{first_cover_name}
use Rattle.go_load.specs.Readings.{Reading}
use Rattle.go_load.specs.Sources.{read_fault}
use Rattle.go_parse.specs.Answers.{IsFaultOf, IsLexFault}
use Rattle.go_parse.specs.declared.fault.SourceFault.{SourceFault}
use Rattle.go_parse.specs.declared.fault.SourceFault.TheVariants as fault

-- The text's tokens spell the tree, and none of them is a name with a meaning.
abbrev pub IsCoverable : List ℕ → File → Type 0
IsCoverable text file = (tokens : List Token) × HasTokens text tokens × (first_cover_name text tokens ≡ None) × SpellsWithin source 1000 1000 file (words_of text tokens)

-- the fault at this token
abbrev pub IsNameFault : Token → SourceFault → Type 0
IsNameFault token (fault.At offset kind) = (kind ≡ CoverName) × (offset ≡ token.span.start)
IsNameFault token _ = ⊥

-- why these tokens have no tree: a name with a meaning, or else that they spell none
abbrev pub RefusesTokens : List ℕ → List Token → Option Token → SourceFault → Type 0
RefusesTokens text tokens None e = IsFaultOf text tokens e
RefusesTokens text tokens (Some token) e = IsNameFault token e

-- the first fault: of lexing, a name with a meaning, of parsing
abbrev pub RefusesCover : List ℕ → SourceFault → Type 0
RefusesCover text e = IsLexFault text e ⊎ ((tokens : List Token) × HasTokens text tokens × RefusesTokens text tokens (first_cover_name text tokens) e)

-- The text is a source of a covered module with this tree, or it is none for this reason.
abbrev pub ReadsCoverable : Reading
ReadsCoverable text (Ok file) = IsCoverable text file
ReadsCoverable text (Err e) = (fault : SourceFault) × RefusesCover text fault × (e ≡ read_fault fault)

-- what these tokens come to, with the first name among them that has a meaning
abbrev pub TokensComeTo : List ℕ → List Token → Option Token → Result File SourceFault → Type 0
TokensComeTo text tokens name (Ok file) = (name ≡ None) × SpellsWithin source 1000 1000 file (words_of text tokens)
TokensComeTo text tokens name (Err e) = RefusesTokens text tokens name e
