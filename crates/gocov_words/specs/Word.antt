-- Flags in one word: -NAME, -NAME=VALUE and the same with two dashes, as Go's package flag reads them.
use Rattle.std.specs.Prelude.{ℕ, ◌==◌, Bool, List, [], ◌∷◌, Option, Some, None, is_some, unwrap_or, position, if◌then◌else◌}
use Rattle.std.specs.List.{before_first, after_first}

-- what follows a dash
abbrev pub after_dash : List ℕ → Option (List ℕ)
after_dash [] = None
after_dash (c ∷ rest) = if c == 45 then Some rest else None

-- what follows a flag's one dash, and maybe a second; one dash alone is no flag
abbrev pub after_dashes : Option (List ℕ) → Option (List ℕ)
after_dashes None = None
after_dashes (Some []) = None
after_dashes (Some (c ∷ rest)) = Some (unwrap_or (after_dash (c ∷ rest)) (c ∷ rest))

-- the text of a flag, behind its dashes, where a word is a flag; that of -- is empty
abbrev pub flag_text : List ℕ → Option (List ℕ)
flag_text word = after_dashes (after_dash word)

abbrev pub is_equals_sign : ℕ → Bool
is_equals_sign c = c == 61

-- the name, up to the first =
abbrev pub name_in : List ℕ → List ℕ
name_in text = before_first is_equals_sign text

-- the value behind the first =, where there is one
abbrev pub value_in : List ℕ → Option (List ℕ)
value_in text = if is_some (position is_equals_sign text) then Some (after_first is_equals_sign text) else None
