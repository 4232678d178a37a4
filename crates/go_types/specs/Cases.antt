-- The constants of one `switch`, of which no two are equal, and its one `default`.
use Rattle.std.specs.Prelude.{ℕ, Bool, true, false, ◌&&◌, List, [], ◌∷◌, ◌++◌, bytes_eq, Option, Some, None, Ok, if◌then◌else◌}
use Rattle.std.specs.Ordering.{int_eq}
use Rattle.std.specs.List.{list_any}
use Rattle.go_ast.specs.declared.kind.SourceKind.TheVariants as source
use Rattle.go_types.specs.declared.constant.Constant.{Constant}
use Rattle.go_types.specs.declared.constant.Constant.TheVariants.{Flag, Number, Text}
use Rattle.go_types.specs.declared.cases.Seen.{Seen}
use Rattle.go_types.specs.Checking.{Checked, fault}

abbrev pub are_one : Constant → Constant → Bool
are_one (Number a) (Number b) = int_eq a b
are_one (Text a) (Text b) = bytes_eq a b
are_one a b = false

abbrev pub is_seen : Constant → List Constant → Bool
is_seen c cs = list_any (are_one c) cs

abbrev pub no_case : Seen
no_case = record { has_default = false; values = [] }

abbrev pub seen_with : ℕ → Option Constant → Seen → Checked Seen
seen_with at None seen = Ok seen
seen_with at (Some c) seen =
    if is_seen c seen.values then fault at source.DuplicateCase else Ok (record seen { values = seen.values ++ c ∷ [] })

abbrev pub with_default : ℕ → Seen → Checked Seen
with_default at seen = if seen.has_default then fault at source.DuplicateDefault else Ok (record seen { has_default = true })
