-- Writing fields of bytes.
use Rattle.std.specs.Prelude.{ℕ, zero, suc, ◌+◌, ◌-◌, ◌/◌, ◌%◌, List, [], ◌∷◌, ◌++◌, length, nat_lt, if◌then◌else◌}
use Rattle.std.specs.List.{flat_map}

-- a number in groups of seven bits, the lowest first, with the high bit on all but the last; further is at most how many stand behind the first
unfoldable pub groups_of : ℕ → ℕ → List ℕ
groups_of zero n = n ∷ []
groups_of (suc further) n = if nat_lt n 128 then n ∷ [] else (128 + n % 128) ∷ groups_of further (n / 128)

-- the shortest ULEB128 spelling of a number below 2^32 (DWARF 5, section 7.6)
unfoldable pub uleb_of : ℕ → List ℕ
uleb_of n = groups_of 4 n

-- how many bytes bring a length up to a multiple of 4
abbrev pub padding : ℕ → ℕ
padding len = (4 - len % 4) % 4

-- texts one after the other, each as its length and its bytes
abbrev pub texts_text : List (List ℕ) → List ℕ
texts_text texts = flat_map (λ text. uleb_of (length text) ++ text) texts

-- a table: the number of texts, and the texts
unfoldable pub table_text : List (List ℕ) → List ℕ
table_text texts = uleb_of (length texts) ++ texts_text texts
