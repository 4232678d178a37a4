-- The function `main` of the root is there.
use Rattle.std.proofs.Common.{true, ◌≡◌, ℕ, ◌<◌, ◌≤◌, List, [], ◌∷◌, ◌++◌, length, Option, Some, None, Ok, subst, arith}
use Rattle.std.specs.Prelude.{codes, sum_by}
use Rattle.std.proofs.lemmas.List.Sums.{sum_by-append}
use Rattle.go_ast.specs.declared.module.Package.{Package}
use Rattle.go_meaning.specs.declared.program.Function.{Function}
use Rattle.go_meaning.specs.declared.program.ProgramPackage.{ProgramPackage}
use Rattle.go_meaning.specs.Programs.{Parts}
use Rattle.go_types.specs.declared.names.Binding.{Binding}
use Rattle.go_types.specs.declared.names.Meaning.{Meaning}
use Rattle.go_types.specs.declared.names.Meaning.TheVariants as meaning
use Rattle.go_types.specs.declared.names.Callee.{Callee}
use Rattle.go_types.specs.declared.names.Callee.TheVariants as callee
use Rattle.go_types.specs.Names.{last_named}
use Rattle.go_packages.specs.Packages.{function_meant, main_of, package_built}
use Rattle.go_bounds.specs.Known.{Perhaps, IsMeant, AreNamed}

module _ (P : Parts) where
  callee_there : (c : Callee) (n : ℕ) → IsMeant P 0 (meaning.Callee c) → function_meant (Some (meaning.Callee c)) ≡ Ok n → n < length P.functions
  callee_there (callee.Function m) n h e = (let same : m ≡ n = cc in subst (λ k. k < length P.functions) same h)
  callee_there callee.Len n h e = cc
  callee_there callee.Cap n h e = cc
  callee_there callee.Make n h e = cc
  callee_there callee.Close n h e = cc
  callee_there callee.Panic n h e = cc
  callee_there callee.Println n h e = cc
  callee_there callee.Exit n h e = cc
  callee_there callee.Itoa n h e = cc
  callee_there (callee.Lock m) n h e = cc
  callee_there (callee.Unlock m) n h e = cc
  callee_there (callee.Add m) n h e = cc
  callee_there (callee.Done m) n h e = cc
  callee_there (callee.Wait m) n h e = cc

  meant_there : (o : Option Meaning) (n : ℕ) → Perhaps (IsMeant P 0) o → function_meant o ≡ Ok n → n < length P.functions
  meant_there None n h e = cc
  meant_there (Some (meaning.Callee c)) n h e = callee_there c n h e
  meant_there (Some (meaning.Constant k c)) n h e = cc
  meant_there (Some meaning.Nil) n h e = cc
  meant_there (Some (meaning.Variable x t)) n h e = cc
  meant_there (Some (meaning.Mutex m)) n h e = cc
  meant_there (Some (meaning.Group g)) n h e = cc
  meant_there (Some (meaning.Type t)) n h e = cc
  meant_there (Some (meaning.Shared x)) n h e = cc
  meant_there (Some (meaning.Import i)) n h e = cc

  pub main_there : (own : List Binding) (n : ℕ) → AreNamed P 0 own → main_of true own ≡ Ok n → n < length P.functions
  main_there own n h e = meant_there (last_named (codes "main") own) n (h (codes "main")) e

-- ---- how many functions the packages have

pub package_summed : (bs : List ProgramPackage) (p : Package) (before : ℕ) (fs : List Function) → sum_by (λ (b : ProgramPackage). b.functions) bs ≡ before → before ≤ length fs
    → sum_by (λ (b : ProgramPackage). b.functions) (bs ++ package_built p before fs ∷ []) ≡ length fs
package_summed bs p before fs e le = omega (arith, e, sum_by-append (λ (b : ProgramPackage). b.functions) bs (package_built p before fs ∷ []))
