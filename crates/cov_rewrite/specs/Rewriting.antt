-- What a source is rewritten to, and why it isn't.
use Rattle.std.specs.Prelude.{◌≡◌, ◌⊎◌, ℕ, List, Option, Some, None}
use Rattle.go_ast.specs.declared.file.File.{File}
use Rattle.go_ast.specs.declared.kind.SourceKind.{SourceKind}
use Rattle.go_ast.specs.declared.kind.SourceKind.TheVariants.{CoverName}
use Rattle.go_ast.specs.declared.token.Token.{Token}
use Rattle.go_ast.specs.Tokens.{HasTokens}
use Rattle.go_grammar.specs.Blocks.{source}
use Rattle.go_grammar.specs.Files.{SpellsWithin}
use Rattle.go_grammar.specs.Words.{words_of}
use Rattle.go_parse.specs.declared.fault.SourceFault.{SourceFault}
use Rattle.go_parse.specs.declared.fault.SourceFault.TheVariants as fault
use Rattle.go_parse.specs.Answers.{IsFaultOf, IsLexFault}
use Rattle.go_ast.specs.Kinds.{source_kind}
use Rattle.go_lex.specs.declared.fault.LexFault.{LexFault}
use Rattle.go_lex.specs.declared.fault.LexFault.TheVariants as lex
use Rattle.cov_outside.specs.declared.mode.Mode.{Mode}
use Rattle.cov_rewrite.specs.Covered.{covered}
use Rattle.cov_rewrite.specs.Reserved.{first_reserved}

-- the covered text of a source: one with tokens, none of them reserved, that spell a tree within the limits
abbrev pub IsRewriting : List ℕ → List ℕ → List ℕ → Mode → List ℕ → Type 0
IsRewriting text name var m all =
    (tokens : List Token) × (file : File) × HasTokens text tokens × (first_reserved var text tokens ≡ None) × SpellsWithin source 1000 1000 file (words_of text tokens) × (all ≡ covered text file name var m)

-- the fault at this token
abbrev pub IsNameFault : Token → SourceFault → Type 0
IsNameFault token (fault.At offset kind) = (kind ≡ CoverName) × (offset ≡ token.span.start)
IsNameFault token _ = ⊥

-- Why a text with these tokens isn't rewritten: a reserved name, or else that the tokens spell no tree.
abbrev pub RefusesTokens : List ℕ → List ℕ → List Token → Option Token → SourceFault → Type 0
RefusesTokens text var tokens None e = IsFaultOf text tokens e
RefusesTokens text var tokens (Some token) e = IsNameFault token e

-- the first fault: of lexing, a reserved name, of parsing
abbrev pub Refuses : List ℕ → List ℕ → SourceFault → Type 0
Refuses text var e = IsLexFault text e ⊎ ((tokens : List Token) × HasTokens text tokens × RefusesTokens text var tokens (first_reserved var text tokens) e)

-- the fault of lexing as one of sources
abbrev pub lexical_fault : LexFault → SourceFault
lexical_fault (lex.At offset kind) = fault.At offset (source_kind kind)
lexical_fault lex.NoMemory = fault.NoMemory
