-- The module in a directory, as its `go.mod` tells it.
use Rattle.std.specs.Prelude.{ℕ, List, Option, Some, None, Result, Ok, Err, codes}
use Rattle.cov_outside.specs.Tree.{Tree}
use Rattle.go_load.specs.GoMod as go_mod
use Rattle.go_load.specs.Packages.{path_in, text_at}
use Rattle.go_load.specs.Refusals.{Is, Outcomes, Then}
use Rattle.go_load.specs.declared.contents.Home.{Home}
use Rattle.go_load.specs.declared.refusal.LoadKind.TheVariants as kinds
use Rattle.go_load.specs.declared.refusal.LoadRefusal.{LoadRefusal}
use Rattle.go_load.specs.declared.refusal.LoadRefusal.TheVariants as refusals

abbrev pub go_mod_path : List ℕ → List ℕ
go_mod_path dir = path_in dir (codes "go.mod")

abbrev pub home_from : List ℕ → Option (List ℕ) → Result Home LoadRefusal
home_from dir None = Err (refusals.Load (go_mod_path dir) kinds.BadModule)
home_from dir (Some path) = Ok (record { dir = dir; path = path })

-- what the module in a directory comes to: its `go.mod` is read, and then its form is looked at
abbrev pub HomeAt : Tree → List ℕ → Outcomes Home
HomeAt t dir = Then (Is (text_at t (go_mod_path dir))) (λ text. Is (home_from dir (go_mod.path_in text)))
