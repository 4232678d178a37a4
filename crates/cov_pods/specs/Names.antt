-- The names of meta and counter files.
use Rattle.std.specs.Prelude.{ℕ, Bool, List, length, take, drop, Option, Some, None, codes, nat_eq, nat_le, nat_lt, ◌==◌, ◌&&◌, ◌||◌, if◌then◌else◌}
use Rattle.std.specs.List.{list_all, starts_with, before_first, after_first}

-- a digit of a decimal number
abbrev pub is_digit : ℕ → Bool
is_digit c = nat_le 48 c && nat_le c 57

-- a digit of a hash: 0 to 9 and a to f
abbrev pub is_hash_digit : ℕ → Bool
is_hash_digit c = is_digit c || (nat_le 97 c && nat_le c 102)

-- 32 such digits
abbrev pub is_hash : List ℕ → Bool
is_hash bytes = (length bytes == 32) && list_all is_hash_digit bytes

-- 1 to 20 decimal digits
abbrev pub is_number : List ℕ → Bool
is_number bytes = nat_lt 0 (length bytes) && (nat_le (length bytes) 20 && list_all is_digit bytes)

abbrev pub is_dot : ℕ → Bool
is_dot c = c == 46

-- two numbers with a dot between them: a process and a time
abbrev pub is_stamp : List ℕ → Bool
is_stamp bytes = is_number (before_first is_dot bytes) && is_number (after_first is_dot bytes)

-- the hash of a meta name: covmeta. and the hash
abbrev pub meta_hash : List ℕ → Option (List ℕ)
meta_hash name = if starts_with nat_eq name (codes "covmeta.") && is_hash (drop 8 name) then Some (drop 8 name) else None

-- what a counter name is behind its beginning: a hash, a dot and a stamp
abbrev pub stamped_hash : List ℕ → Option (List ℕ)
stamped_hash rest = if is_hash (take 32 rest) && (starts_with nat_eq (drop 32 rest) (codes ".") && is_stamp (drop 33 rest)) then Some (take 32 rest) else None

-- the hash of a counter name: covcounters., the hash, a dot and a stamp
abbrev pub counter_hash : List ℕ → Option (List ℕ)
counter_hash name = if starts_with nat_eq name (codes "covcounters.") then stamped_hash (drop 12 name) else None
