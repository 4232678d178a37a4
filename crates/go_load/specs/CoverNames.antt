-- Names that a source of a covered module may not have: its covered text gives them a meaning.
use Rattle.std.specs.Prelude.{ℕ, Bool, true, false, ◌&&◌, ◌||◌, ◌==◌, List, [], ◌∷◌, length, drop, Option, nat_eq, codes, slice_range, if◌then◌else◌}
use Rattle.std.specs.List.{find, list_all, starts_with}
use Rattle.go_ast.specs.Numbers.{is_decimal}
use Rattle.go_ast.specs.declared.token.Token.{Token}
use Rattle.go_ast.specs.declared.token.TokenKind.{TokenKind}
use Rattle.go_ast.specs.declared.token.TokenKind.TheVariants as kind

-- a number in decimal: digits, of which only `0` alone begins with a 0
abbrev pub is_number : List ℕ → Bool
is_number [] = false
is_number (digit ∷ digits) = if digit == 48 then length digits == 0 else list_all is_decimal (digit ∷ digits)

-- the variable of some file's counters, or what begins as the name of the atomic import does
abbrev pub is_cover_name : List ℕ → Bool
is_cover_name name = starts_with nat_eq name (codes "_cover_atomic_") || (starts_with nat_eq name (codes "GoCover_") && is_number (drop 8 name))

abbrev pub is_name : TokenKind → Bool
is_name kind.Name = true
is_name _ = false

abbrev pub is_cover_token : List ℕ → Token → Bool
is_cover_token text token = is_name token.kind && is_cover_name (slice_range text token.span.start token.span.end)

-- the first identifier of a text that is such a name
abbrev pub first_cover_name : List ℕ → List Token → Option Token
first_cover_name text tokens = find (is_cover_token text) tokens
