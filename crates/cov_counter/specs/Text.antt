-- The bytes that are written for counters.
use Rattle.std.specs.Prelude.{◌≡◌, ℕ, ◌+◌, ◌^◌, ◌<◌, ◌≤◌, false, List, [], ◌∷◌, ◌++◌, length, All, replicate}
use Rattle.std.specs.List.{flat_map}
use Rattle.byteorder.specs.Endian.{little_bytes}
use Rattle.cov_bytes.specs.Writing.{uleb_of}
use Rattle.cov_counter.specs.declared.head.Head.{Head}
use Rattle.cov_counter.specs.declared.entry.Entry.{Entry}
use Rattle.cov_counter.specs.Spelling.{entry_numbers, Spells}

-- the bytes 00 63 77 6d
unfoldable pub magic_text : List ℕ
magic_text = little_bytes 4 0x6d776300

-- the header: the version, the hash of the meta file, ULEB128 numbers, the number of entries, and the lengths of a table without strings and of no arguments with their padding
unfoldable pub head_text : List ℕ → ℕ → List ℕ
head_text hash entries =
    magic_text ++ (little_bytes 4 1 ++ (hash ++ ((2 ∷ 0 ∷ replicate 6 0) ++ (little_bytes 8 entries ++ (little_bytes 4 1 ++ (little_bytes 4 3 ++ replicate 4 0))))))

unfoldable pub entry_text : Entry → List ℕ
entry_text entry = flat_map uleb_of (entry_numbers entry)

-- the footer, with one segment
unfoldable pub footer_text : List ℕ
footer_text = magic_text ++ (replicate 4 0 ++ (little_bytes 4 1 ++ replicate 4 0))

-- a whole file
unfoldable pub counter_text : List ℕ → List Entry → List ℕ
counter_text hash entries = head_text hash (length entries) ++ (flat_map entry_text entries ++ footer_text)

-- ---- what was written is spelled

-- the head that is written
abbrev pub written_head : List ℕ → List Entry → Head
written_head hash entries = record { hash = hash; flavour = 2; big = false; entries = length entries; args = 0 }

-- entries with the offsets at which they are written, from this one on
abbrev pub placed : ℕ → List Entry → List (ℕ × Entry)
placed at [] = []
placed at (e ∷ es) = (at, e) ∷ placed (at + length (entry_text e)) es

-- at most 1,048,576 counters, and numbers of 4 bytes
pub record CanBeWritten (entry : Entry) : Type 0 where
  pub few : length entry.counts ≤ 1048576
  pub small : All (λ n. n < 2 ^ 32) (entry_numbers entry)

-- what is written within the limit on data files spells what was written
abbrev pub WrittenIsSpelled : Type 0
WrittenIsSpelled = (hash : List ℕ) (entries : List Entry) → length hash ≡ 16 → length entries < 2 ^ 64 → All CanBeWritten entries → length (counter_text hash entries) ≤ 268435456
    → Spells (counter_text hash entries) (written_head hash entries) (placed 52 entries)
