-- Integers as whole numbers. Go specification, "Numeric types" and "Integer overflow".
use Rattle.std.specs.Prelude.{ℤ}
use Rattle.go_value.specs.Kinds.{width, number_of}
use Rattle.go_value.specs.declared.kind.Kind.{Kind}
use Rattle.go_value.specs.declared.int.Int.{Int}
use Rattle.go_value.specs.Residues.{residue, residue_below}

-- the whole number that an integer stands for
unfoldable pub value_of : Int → ℤ
value_of i = number_of i.kind i.bits

-- The integer of a kind that differs from a whole number by a multiple of 2 to the power of the width.
unfoldable pub wrap : Kind → ℤ → Int
wrap kind z = record { kind = kind; bits = residue (width kind) z; in_width = residue_below (width kind) z }
