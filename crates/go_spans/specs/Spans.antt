-- Where a token stands.
use Rattle.std.specs.Prelude.{ℕ, ◌≤◌}
use Rattle.go_ast.specs.declared.token.Token.{Token}

-- The token starts no later than it ends, and ends at this offset or before.
abbrev pub IsUpTo : ℕ → Token → Type 0
IsUpTo high t = (t.span.start ≤ t.span.end) × (t.span.end ≤ high)
