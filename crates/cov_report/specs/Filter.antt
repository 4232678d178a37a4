-- The packages that patterns keep.
use Rattle.std.specs.Prelude.{ℕ, ◌-◌, Bool, true, ◌||◌, List, [], ◌∷◌, ◌++◌, take, length, nat_eq, codes, if◌then◌else◌}
use Rattle.std.specs.List.{list_any, starts_with, ends_with}
use Rattle.std.specs.Str.{bytes_eq}

-- the path itself, or one that begins with it and a slash
abbrev pub is_at_or_below : List ℕ → List ℕ → Bool
is_at_or_below above path = bytes_eq above path || starts_with nat_eq path (above ++ codes "/")

-- a pattern that ends in /... matches the path before that ending and those below it, another pattern the path that it is
abbrev pub matches : List ℕ → List ℕ → Bool
matches pattern path = if ends_with nat_eq pattern (codes "/...") then is_at_or_below (take (length pattern - 4) pattern) path else bytes_eq pattern path

-- a package is kept where a pattern matches its path, or where there are no patterns
abbrev pub keeps : List (List ℕ) → List ℕ → Bool
keeps [] path = true
keeps (p ∷ patterns) path = list_any (λ pattern. matches pattern path) (p ∷ patterns)
