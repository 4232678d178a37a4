-- The values of integer literals. Go specification, "Integer literals".
use Rattle.std.specs.Prelude.{ℕ, ◌+◌, ◌*◌, ◌^◌, pos, ◌==◌, nat_lt, List, [], ◌∷◌, Ok, if◌then◌else◌}
use Rattle.std.specs.Char.{digit_value}
use Rattle.go_ast.specs.declared.kind.SourceKind.TheVariants.{ConstRange}
use Rattle.go_ast.specs.Numbers.{is_x, is_o, is_b}
use Rattle.go_types.specs.declared.constant.Constant.{Constant}
use Rattle.go_types.specs.declared.constant.Constant.TheVariants.{Number}
use Rattle.go_types.specs.Checking.{Checked, fault}

-- digits in a base behind a value; `_` stands for nothing
abbrev pub digits_value : ℕ → ℕ → List ℕ → ℕ
digits_value base value [] = value
digits_value base value (byte ∷ bytes) = if byte == 95 then digits_value base value bytes else digits_value base (value * base + digit_value byte) bytes

-- what follows a 0: a letter for the base and digits, or digits of base 8
abbrev pub after_zero : List ℕ → ℕ
after_zero [] = 0
after_zero (byte ∷ bytes) =
    if is_x byte then digits_value 16 0 bytes
    else (if is_o byte then digits_value 8 0 bytes
    else (if is_b byte then digits_value 2 0 bytes
    else digits_value 8 0 (byte ∷ bytes)))

abbrev pub number : List ℕ → ℕ
number [] = 0
number (byte ∷ bytes) = if byte == 48 then after_zero bytes else digits_value 10 0 (byte ∷ bytes)

abbrev pub int_literal : ℕ → List ℕ → Checked Constant
int_literal at bytes = if nat_lt (number bytes) (2 ^ 127) then Ok (Number (pos (number bytes))) else fault at ConstRange
