-- Names that a source may not have, since the covered text gives them a meaning.
use Rattle.std.specs.Prelude.{ℕ, Bool, true, false, ◌&&◌, ◌||◌, List, Option, nat_eq, codes, slice_range}
use Rattle.std.specs.List.{find, starts_with}
use Rattle.std.specs.Str.{bytes_eq}
use Rattle.go_ast.specs.declared.token.Token.{Token}
use Rattle.go_ast.specs.declared.token.TokenKind.{TokenKind}
use Rattle.go_ast.specs.declared.token.TokenKind.TheVariants as kind

-- the variable of the counters, and what begins as the name of the atomic import does
abbrev pub is_reserved : List ℕ → List ℕ → Bool
is_reserved var name = bytes_eq name var || starts_with nat_eq name (codes "_cover_atomic_")

abbrev pub is_name : TokenKind → Bool
is_name kind.Name = true
is_name _ = false

abbrev pub is_reserved_token : List ℕ → List ℕ → Token → Bool
is_reserved_token var text token = is_name token.kind && is_reserved var (slice_range text token.span.start token.span.end)

-- the first identifier of a text that is such a name
abbrev pub first_reserved : List ℕ → List ℕ → List Token → Option Token
first_reserved var text tokens = find (is_reserved_token var text) tokens
