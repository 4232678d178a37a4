-- The names of source files.
use Rattle.std.specs.Prelude.{ℕ, Bool, ◌&&◌, not, List, nat_eq, codes}
use Rattle.std.specs.List.{starts_with, ends_with}

-- it ends in `.go`, doesn't end in `_test.go` and doesn't begin with `_` or `.`
abbrev pub is_source_name : List ℕ → Bool
is_source_name name =
    ends_with nat_eq name (codes ".go") && (not (ends_with nat_eq name (codes "_test.go")) && (not (starts_with nat_eq name (codes "_")) && not (starts_with nat_eq name (codes "."))))
