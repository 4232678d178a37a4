-- What a text comes to: its covered text with the number of its units, or its first fault.
use Rattle.std.specs.Prelude.{◌≡◌, ℕ, List, length, None, Result, Ok, Err}
use Rattle.go_ast.specs.declared.file.File.{File}
use Rattle.go_ast.specs.declared.token.Token.{Token}
use Rattle.go_ast.specs.Tokens.{HasTokens}
use Rattle.go_grammar.specs.Blocks.{source}
use Rattle.go_grammar.specs.Files.{SpellsWithin}
use Rattle.go_grammar.specs.Words.{words_of}
use Rattle.go_parse.specs.declared.fault.SourceFault.{SourceFault}
use Rattle.go_parse.specs.declared.fault.SourceFault.TheVariants as fault
use Rattle.cov_cut.specs.Counted.{all_units}
use Rattle.cov_outside.specs.declared.mode.Mode.{Mode}
use Rattle.cov_rewrite.specs.Covered.{covered}
use Rattle.cov_rewrite.specs.Reserved.{first_reserved}
use Rattle.cov_rewrite.specs.Rewriting.{Refuses}
use Rattle.cov_rewrite.specs.declared.covered.Rewritten.{Rewritten}

-- the covered text of a source with its tree, and the number of its units
abbrev pub rewritten : List ℕ → File → List ℕ → List ℕ → Mode → Rewritten
rewritten text file name var m = record { text = covered text file name var m; units = length (all_units file) }

-- the same of a source: one with tokens, none of them reserved, that spell a tree within the limits
abbrev pub IsCounted : List ℕ → List ℕ → List ℕ → Mode → Rewritten → Type 0
IsCounted text name var m all =
    (tokens : List Token) × (file : File) × HasTokens text tokens × (first_reserved var text tokens ≡ None) × SpellsWithin source 1000 1000 file (words_of text tokens) × (all ≡ rewritten text file name var m)

-- Want of memory is no fault of a text.
unfoldable pub ComesTo : List ℕ → List ℕ → List ℕ → Mode → Result Rewritten SourceFault → Type 0
ComesTo text name var m (Ok all) = IsCounted text name var m all
ComesTo text name var m (Err (fault.At offset kind)) = Refuses text var (fault.At offset kind)
ComesTo text name var m (Err (fault.Limit which)) = Refuses text var (fault.Limit which)
ComesTo text name var m (Err fault.NoMemory) = ⊥

-- the answer is what a text comes to, unless memory ran out
abbrev pub Tells : Result Rewritten SourceFault → (Result Rewritten SourceFault → Type 0) → Type 0
Tells (Ok all) there = there (Ok all)
Tells (Err (fault.At offset kind)) there = there (Err (fault.At offset kind))
Tells (Err (fault.Limit which)) there = there (Err (fault.Limit which))
Tells (Err fault.NoMemory) there = Unit {0}
