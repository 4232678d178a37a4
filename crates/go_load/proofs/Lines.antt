-- The lines of a `go.mod`, one after the other.
use Rattle.std.proofs.Common.{◌≡◌, ℕ, ◌+◌, ◌-◌, ◌≤◌, Bool, true, false, ◌&&◌, List, [], ◌∷◌, length, take, drop, map, Option, Some, None, refl, sym, ap, ◌∙◌, arith}
use Rattle.std.specs.Prelude.{position}
use Rattle.std.specs.List.{slice_split}
use Rattle.std.proofs.lemmas.List.{take_all, length-drop}
use Rattle.go_load.specs.GoMod.{content, is_newline}
use Rattle.go_load.specs.GoModLines.{path_behind}
use Rattle.go_load.proofs.Parts.{part_first, part_last}

-- what is left of a slice behind its first n elements
pub rest_is : (xs : List ℕ) (n : ℕ) → take (length xs - n) (drop n xs) ≡ drop n xs
rest_is xs n = let len : length (drop n xs) ≡ length xs - n = length-drop n xs in take_all (length xs - n) (drop n xs) (omega arith)

pub rest_shorter : (xs : List ℕ) (n : ℕ) → length (take (length xs - n) (drop n xs)) ≤ length xs
rest_shorter xs n = let len : length (take (length xs - n) (drop n xs)) ≡ length xs - n = ap length (rest_is xs n) ∙ length-drop n xs in omega arith

pub and_nothing : (b : Bool) → (b && true) ≡ b
and_nothing true = refl
and_nothing false = refl

-- the next line, where more follow, and the last one
pub next_is : (there given : Option (List ℕ)) (version : Bool) (rest line : List ℕ) (end : ℕ) → there ≡ path_behind given version (map content (slice_split is_newline rest)) → Some end ≡ position is_newline rest → line ≡ content (take end rest)
    → there ≡ path_behind given version (line ∷ map content (slice_split is_newline (drop (end + 1) rest)))
next_is there given version rest line end so_far place is =
    so_far
    ∙ ap (λ (parts : List (List ℕ)). path_behind given version (map content parts)) (part_first is_newline rest 0 end place)
    ∙ ap (λ (l : List ℕ). path_behind given version (l ∷ map content (slice_split is_newline (drop (end + 1) rest)))) (sym is)

pub last_is : (there given : Option (List ℕ)) (version : Bool) (rest line : List ℕ) → there ≡ path_behind given version (map content (slice_split is_newline rest)) → None ≡ position is_newline rest → line ≡ content rest
    → there ≡ path_behind given version (line ∷ [])
last_is there given version rest line so_far place is =
    so_far
    ∙ ap (λ (parts : List (List ℕ)). path_behind given version (map content parts)) (part_last is_newline rest place)
    ∙ ap (λ (l : List ℕ). path_behind given version (l ∷ [])) (sym is)

pub at_end : (given : Option (List ℕ)) (version : Bool) → path_behind given version [] ≡ given
at_end None true = refl
at_end None false = refl
at_end (Some path) true = refl
at_end (Some path) false = refl
