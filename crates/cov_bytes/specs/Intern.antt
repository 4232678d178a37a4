-- Texts that are numbered by their first use.
use Rattle.std.specs.Prelude.{◌≡◌, ℕ, List, [], ◌∷◌, ◌++◌, position, if◌then◌else◌}
use Rattle.std.specs.List.{position_or_len, list_any}
use Rattle.std.specs.Str.{bytes_eq}
use Rattle.std.specs.Map.{lookup}

-- the first place of a text, or the number of texts where it isn't among them
abbrev pub index_of : List (List ℕ) → List ℕ → ℕ
index_of texts text = position_or_len (bytes_eq text) texts

-- the texts with this one among them: a new one goes last
abbrev pub with_text : List (List ℕ) → List ℕ → List (List ℕ)
with_text texts text = if list_any (bytes_eq text) texts then texts else texts ++ text ∷ []

-- a look-up of any text, by the bytes of the keys, gives its first place among the texts
abbrev pub FindsFirst : {K : Type 0} → (K → List ℕ) → List (K × ℕ) → List (List ℕ) → Type 0
FindsFirst bytes_of entries texts = (q : List ℕ) → lookup (λ k. bytes_eq q (bytes_of k)) entries ≡ position (bytes_eq q) texts
