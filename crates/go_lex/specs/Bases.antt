-- Bases of numbers.
use Rattle.std.specs.Prelude.{ℕ, Bool}
use Rattle.go_ast.specs.Numbers.{is_decimal, is_octal, is_binary, is_hex}
use Rattle.go_lex.specs.declared.number.Base.{Base}
use Rattle.go_lex.specs.declared.number.Base.TheVariants as base

-- the digits of a base
abbrev pub is_digit : Base → ℕ → Bool
is_digit base.Binary byte = is_binary byte
is_digit base.Octal byte = is_octal byte
is_digit base.Decimal byte = is_decimal byte
is_digit base.Hex byte = is_hex byte
