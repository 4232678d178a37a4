-- The bits of whole numbers in two's complement, which go on without end. Go specification, "Arithmetic operators".
use Rattle.std.specs.Prelude.{ℕ, ◌-◌, ◌^◌, ℤ, pos, negsuc, bit_and, bit_or, bit_xor}
use Rattle.std.specs.Int.{int_div_euclid}
use Rattle.go_value.specs.Residues.{residue}

-- bit k, counted from the lowest: whether z / 2^k, rounded down, is odd
abbrev pub bit_of : ℕ → ℤ → ℕ
bit_of k z = residue 1 (int_div_euclid z (pos (2 ^ k)))

-- -z - 1, which has the bits that z lacks
abbrev pub complement : ℤ → ℤ
complement (pos n) = negsuc n
complement (negsuc n) = pos n

-- the bits that both have
abbrev pub common : ℤ → ℤ → ℤ
common (pos a) (pos b) = pos (bit_and a b)
common (pos a) (negsuc b) = pos (a - bit_and a b)
common (negsuc a) (pos b) = pos (b - bit_and a b)
common (negsuc a) (negsuc b) = negsuc (bit_or a b)

-- the bits that one of them has, or both
abbrev pub joint : ℤ → ℤ → ℤ
joint a b = complement (common (complement a) (complement b))

-- the bits that just one of them has
abbrev pub differing : ℤ → ℤ → ℤ
differing (pos a) (pos b) = pos (bit_xor a b)
differing (pos a) (negsuc b) = negsuc (bit_xor a b)
differing (negsuc a) (pos b) = negsuc (bit_xor a b)
differing (negsuc a) (negsuc b) = pos (bit_xor a b)

-- the bits of a that b lacks
abbrev pub cleared : ℤ → ℤ → ℤ
cleared a b = common a (complement b)
