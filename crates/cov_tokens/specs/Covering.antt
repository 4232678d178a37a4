-- The tokens of a covered text: those of the source in their order, with the tokens of what is put in before the first
-- token that begins there or later, and those of the trailer.
use Rattle.std.specs.Prelude.{ℕ, ◌==◌, List, ◌++◌}
use Rattle.std.specs.List.{flat_map, filter}
use Rattle.go_ast.specs.declared.file.File.{File}
use Rattle.go_ast.specs.declared.token.Token.{Token}
use Rattle.cov_outside.specs.declared.mode.Mode.{Mode}
use Rattle.cov_cut.specs.Counted.{all_units}
use Rattle.cov_rewrite.specs.declared.piece.Piece.{Piece}
use Rattle.cov_rewrite.specs.Additions.{pieces}
use Rattle.cov_tokens.specs.Spellings.{Spelling}
use Rattle.cov_tokens.specs.Joining.{spelled_from}
use Rattle.cov_tokens.specs.Counters.{addition_spellings}
use Rattle.cov_tokens.specs.Tables.{trailer_spellings}

-- what is put in at an offset, in the order of the pieces
abbrev pub spellings_at : List ℕ → Mode → List Piece → ℕ → List Spelling
spellings_at var m pieces at = flat_map (λ p. addition_spellings var m p.addition) (filter (λ p. p.at == at) pieces)

-- the tokens of a source with its tokens and these pieces
abbrev pub woven_spellings : List ℕ → Mode → List Piece → List ℕ → List Token → List Spelling
woven_spellings var m pieces text tokens = spelled_from text (spellings_at var m pieces) 0 tokens

abbrev pub covered_spellings : List ℕ → List Token → File → List ℕ → Mode → List Spelling
covered_spellings text tokens file var m = woven_spellings var m (pieces m file) text tokens ++ trailer_spellings text var m (all_units file)
