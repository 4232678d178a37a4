-- Tokens that are known one by one.
use Rattle.std.specs.Prelude.{◌≡◌, ℕ, List, [], ◌∷◌, Option, Some, None}
use Rattle.go_ast.specs.declared.token.TokenKind.{TokenKind}
use Rattle.go_grammar.specs.Words.{Word}

-- a token of a kind, spelled so or in any way
pub record Pattern : Type 0 where
  pub kind : TokenKind
  pub bytes : Option (List ℕ)

abbrev pub any : TokenKind → Pattern
any kind = record { kind = kind; bytes = None }

abbrev pub spelled : TokenKind → List ℕ → Pattern
spelled kind bytes = record { kind = kind; bytes = Some bytes }

abbrev pub IsSpelled : Option (List ℕ) → List ℕ → Type 0
IsSpelled None bytes = Unit {0}
IsSpelled (Some wanted) bytes = bytes ≡ wanted

abbrev pub Fits : Pattern → Word → Type 0
Fits p w = (w.kind ≡ p.kind) × IsSpelled p.bytes w.bytes

-- the tokens fit the patterns, one each
abbrev pub AllFit : List Pattern → List Word → Type 0
AllFit [] [] = Unit {0}
AllFit [] (w ∷ ws) = ⊥
AllFit (p ∷ ps) [] = ⊥
AllFit (p ∷ ps) (w ∷ ws) = Fits p w × AllFit ps ws
