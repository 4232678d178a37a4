-- Tokens with others put in among them at offsets.
use Rattle.std.specs.Prelude.{ℕ, zero, suc, ◌+◌, ◌-◌, List, [], ◌∷◌, ◌++◌, length}
use Rattle.go_ast.specs.declared.token.Token.{Token}
use Rattle.cov_tokens.specs.Spellings.{Spelling, spelling_of}

-- what is put in at so many offsets from one on
abbrev pub put_along : (ℕ → List Spelling) → ℕ → ℕ → List Spelling
put_along put at zero = []
put_along put at (suc n) = put at ++ put_along put (at + 1) n

-- the tokens from an offset on with what is put in there and behind, up to the text's end
abbrev pub spelled_from : List ℕ → (ℕ → List Spelling) → ℕ → List Token → List Spelling
spelled_from text put at [] = put_along put at ((length text + 1) - at)
spelled_from text put at (token ∷ tokens) =
    put_along put at ((token.span.start + 1) - at) ++ spelling_of text token ∷ spelled_from text put (token.span.start + 1) tokens

-- ---- by parts

-- the same up to the last of the tokens, without what is put in behind it
abbrev pub spelled_upto : List ℕ → (ℕ → List Spelling) → ℕ → List Token → List Spelling
spelled_upto text put at [] = []
spelled_upto text put at (token ∷ tokens) = put_along put at ((token.span.start + 1) - at) ++ spelling_of text token ∷ spelled_upto text put (token.span.start + 1) tokens

-- and the offset from which it goes on
abbrev pub offset_behind : ℕ → List Token → ℕ
offset_behind at [] = at
offset_behind at (token ∷ tokens) = offset_behind (token.span.start + 1) tokens
