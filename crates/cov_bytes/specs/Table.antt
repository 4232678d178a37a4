-- Reading a table of texts.
use Rattle.std.specs.Prelude.{◌≡◌, ℕ, ◌+◌, List, length, Result, Ok, Err, nat_lt, if◌then◌else◌}
use Rattle.cov_bytes.specs.Reading.{Place, uleb_at, take_at}
use Rattle.cov_bytes.specs.Many.{◌>>=◌, many}
use Rattle.cov_bytes.specs.declared.cursor.CutFault.{CutFault}
use Rattle.cov_bytes.specs.declared.text_limits.TableFault.{TableFault}
use Rattle.cov_bytes.specs.declared.text_limits.TableFault.TheVariants as faults
use Rattle.cov_bytes.specs.declared.text_limits.WhichText.TheVariants.{Strings, NameBytes, StringBytes}
use Rattle.cov_bytes.specs.declared.text_limits.TextLimits.{TextLimits}

abbrev pub cut : {A : Type 0} → Result A CutFault → Result A TableFault
cut (Ok x) = Ok x
cut (Err f) = Err (faults.Cut f)

-- a length and the bytes, where all counts the bytes of the texts before it
unfoldable pub text_at : TextLimits → ℕ → List ℕ → ℕ → Result (List ℕ × ℕ) TableFault
text_at limits all bytes at = do
  len ← cut (uleb_at bytes at)
  if nat_lt limits.one len.0 then Err (faults.Limit NameBytes)
      else if nat_lt limits.all (all + len.0) then Err (faults.Limit StringBytes)
      else cut (take_at len.0 bytes len.1)

-- the same, from the number of bytes of the texts before and the offset
unfoldable pub next_text : TextLimits → List ℕ → ℕ × ℕ → Result (List ℕ × (ℕ × ℕ)) TableFault
next_text limits bytes (all, at) = do
  text ← text_at limits all bytes at
  Ok (text.0, (all + length text.0, text.1))

unfoldable pub texts_at : TextLimits → ℕ → List ℕ → ℕ → Result (List (List ℕ) × ℕ) TableFault
texts_at limits count bytes at = do
  texts ← many (next_text limits bytes) count (0, at)
  Ok (texts.0, texts.1.1)

-- the number of texts, and the texts
unfoldable pub table_at : TextLimits → List ℕ → ℕ → Result (List (List ℕ) × ℕ) TableFault
table_at limits bytes at = do
  n ← cut (uleb_at bytes at)
  if nat_lt limits.strings n.0 then Err (faults.Limit Strings) else texts_at limits n.0 bytes n.1

-- the fault that a call answers is the one that is there, unless memory ran out
abbrev pub Fails : {Y : Type 0} → TableFault → Result Y TableFault → Type 0
Fails faults.NoMemory there = Unit {0}
Fails (faults.Cut f) there = there ≡ Err (faults.Cut f)
Fails (faults.Limit w) there = there ≡ Err (faults.Limit w)

-- a call read what stands there and moved behind it, or answers the fault
abbrev pub Reads : {X Y : Type 0} → (X → Y) → Place → Place → Result X TableFault → Result (Y × ℕ) TableFault → Type 0
Reads view old new (Ok x) there = (there ≡ Ok (view x, new.at)) × (new.bytes ≡ old.bytes)
Reads view old new (Err e) there = Fails e there

pub Fails-further : {A B : Type 0} (e : TableFault) (r : Result A TableFault) (total : Result B TableFault) → Fails e r → ((f : TableFault) → r ≡ Err f → total ≡ Err f) → Fails e total
Fails-further faults.NoMemory r total h carry = tt
Fails-further (faults.Cut f) r total h carry = carry (faults.Cut f) h
Fails-further (faults.Limit w) r total h carry = carry (faults.Limit w) h
