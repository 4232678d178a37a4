-- Small programs, as contracts see them.
use Rattle.std.specs.Prelude.{ℕ, ℤ, pos, List, [], ◌∷◌, map, length, codes, Some, None, false}
use Rattle.go_value.specs.declared.kind.Kind.TheVariants.{I64}
use Rattle.go_value.specs.Integers.{wrap}
use Rattle.go_value.specs.declared.operation.IntOp.TheVariants.{Add}
use Rattle.go_meaning.specs.declared.value.Value.{Value}
use Rattle.go_meaning.specs.declared.value.Value.TheVariants as value
use Rattle.go_meaning.specs.declared.expr.Expr.{Expr}
use Rattle.go_meaning.specs.declared.expr.Expr.TheVariants as expr
use Rattle.go_meaning.specs.declared.expr.Op.{Op}
use Rattle.go_meaning.specs.declared.expr.Op.TheVariants as op
use Rattle.go_meaning.specs.declared.expr.Relation.TheVariants as relation
use Rattle.go_meaning.specs.declared.expr.Variable.TheVariants.{Slot}
use Rattle.go_meaning.specs.declared.expr.Target.TheVariants as target
use Rattle.go_meaning.specs.declared.node.Node.{Node}
use Rattle.go_meaning.specs.declared.node.NodeForm.{NodeForm}
use Rattle.go_meaning.specs.declared.node.NodeForm.TheVariants as node
use Rattle.go_meaning.specs.declared.node.Simple.{Simple}
use Rattle.go_meaning.specs.declared.node.Simple.TheVariants as simple
use Rattle.go_meaning.specs.declared.program.ProgramPackage.{ProgramPackage}
use Rattle.go_meaning.specs.declared.program.Function.{Function}
use Rattle.go_meaning.specs.declared.program.Global.TheVariants as global
use Rattle.go_meaning.specs.Programs.{Parts}

-- a statement that stands nowhere in a source
abbrev pub statement : NodeForm → Node
statement form = record { span = record { start = 0; end = 0 }; form = form }

abbrev pub statements : List NodeForm → List Node
statements forms = map statement forms

-- a function without parameters and results
abbrev pub function : List ℕ → ℕ → ℕ → Function
function name slots body = record { name = name; params = 0; results = 0; slots = slots; body = body }

abbrev pub package_of : ℕ → ProgramPackage
package_of functions = record { path = codes "m"; name = codes "main"; functions = functions }

-- one package with these functions, of which the first is `main`
abbrev pub program : List Function → List (List Node) → Parts
program functions lists = record {
  packages = package_of (length functions) ∷ [];
  functions = functions;
  lists = lists;
  globals = [];
  units = 0;
  main = 0;
}

-- ---- expressions and statements

abbrev pub slot : ℕ → Expr
slot s = expr.Variable (Slot s)

abbrev pub int : ℤ → Expr
int n = expr.Value (value.Number (wrap I64 n))

abbrev pub text : List ℕ → Expr
text s = expr.Value (value.Text s)

abbrev pub applied : Op → List Expr → Expr
applied o es = expr.Apply o es

abbrev pub sets : ℕ → Expr → Simple
sets s e = simple.Assign (record { targets = target.Variable (Slot s) ∷ []; values = e ∷ [] })

-- for { }
abbrev pub forever : ℕ → NodeForm
forever body = node.For None None None body

abbrev pub zero : ℤ → Value
zero n = value.Number (wrap I64 n)

-- ---- programs

abbrev pub main_function : ℕ → Function
main_function slots = function (codes "main") slots 0

-- c := make(chan int)
abbrev pub make : NodeForm
make = node.Simple (sets 0 (applied (op.Make (zero (pos 0)) false) []))

-- c := make(chan int); c <- 1
abbrev pub sending : List (List Node)
sending = statements (make ∷ node.Simple (simple.Send (slot 0) (int (pos 1))) ∷ []) ∷ []

-- i < n
abbrev pub below : ℤ → Expr
below n = applied (op.Compare relation.Less) (slot 0 ∷ int n ∷ [])

-- i = i + 1
abbrev pub goes_up : Simple
goes_up = sets 0 (applied (op.Arithmetic Add) (slot 0 ∷ int (pos 1) ∷ []))

-- for i := 0; i < n; i = i + 1 { }, with the list of its body
abbrev pub counts_to : ℤ → ℕ → NodeForm
counts_to n body = node.For (Some (sets 0 (int (pos 0)))) (Some (below n)) (Some goes_up) body

abbrev pub counting : ℤ → List (List Node)
counting n = statements (counts_to n 1 ∷ []) ∷ [] ∷ []

-- go f(); for { }, where f is for { }
abbrev pub spinning : List (List Node)
spinning =
    statements (node.Go 1 [] ∷ forever 1 ∷ [])
    ∷ []
    ∷ statements (forever 3 ∷ [])
    ∷ []
    ∷ []

abbrev pub two_functions : List Function
two_functions = function (codes "main") 0 0 ∷ function (codes "f") 0 2 ∷ []

-- ---- two goroutines that take 1,001 steps each

-- go f(); for i := 0; i < 76; i = i + 1 { }; select { }
abbrev pub turning_main : List Node
turning_main = statements (node.Go 1 [] ∷ counts_to (pos 76) 1 ∷ node.Select [] ∷ [])

-- for i := 0; i < 76; i = i + 1 { }; const x = 0
abbrev pub turning_work : List Node
turning_work = statements (counts_to (pos 76) 3 ∷ node.Const ∷ [])

abbrev pub turning : List (List Node)
turning = turning_main ∷ [] ∷ turning_work ∷ [] ∷ []

abbrev pub turning_functions : List Function
turning_functions = function (codes "main") 1 0 ∷ function (codes "f") 1 2 ∷ []

-- ---- a text that grows

-- s = s + more, where s is the second variable
abbrev pub adds : Expr → NodeForm
adds more = node.Simple (sets 1 (applied op.Join (slot 1 ∷ more ∷ [])))

-- s := "a"
abbrev pub starts : NodeForm
starts = node.Simple (sets 1 (text (codes "a")))

-- fmt.Println(len(s))
abbrev pub shows_length : NodeForm
shows_length = node.Simple (simple.Eval (applied (op.Println 1) (applied op.Len (slot 1 ∷ []) ∷ [])) 0 false)

-- s := "a"; for i := 0; i < 20; i = i + 1 { s = s + s }; fmt.Println(len(s)); s = s + "a"
abbrev pub doubling_body : List Node
doubling_body = statements (starts ∷ counts_to (pos 20) 1 ∷ shows_length ∷ adds (text (codes "a")) ∷ [])

abbrev pub doubling : List (List Node)
doubling = doubling_body ∷ statements (adds (slot 1) ∷ []) ∷ []

-- ---- two workers

-- one package with these functions, of which `main` has a number, and one wait group
abbrev pub program_with_group : ℕ → List Function → List (List Node) → Parts
program_with_group main functions lists = record (program functions lists) { globals = global.Group ∷ []; main = main }

abbrev pub does : Op → List Expr → NodeForm
does o es = node.Simple (simple.Eval (applied o es) 0 false)

abbrev pub calls : ℕ → NodeForm
calls f = node.Simple (simple.Eval (expr.Call f []) 0 false)

-- for i := 0; i < 1000; i = i + 1 { step() }; group.Done()
abbrev pub work_body : List Node
work_body = statements (counts_to (pos 1000) 1 ∷ does (op.Done 0) [] ∷ [])

-- group.Add(2)
abbrev pub adds_two : NodeForm
adds_two = does (op.Add 0) (int (pos 2) ∷ [])

-- group.Add(2); go work(); go work(); group.Wait()
abbrev pub working_main : List Node
working_main = statements (adds_two ∷ node.Go 0 [] ∷ node.Go 0 [] ∷ does (op.Wait 0) [] ∷ [])

abbrev pub working : List (List Node)
working = work_body ∷ statements (calls 1 ∷ []) ∷ [] ∷ working_main ∷ []

-- work, step and main
abbrev pub working_functions : List Function
working_functions = function (codes "work") 1 0 ∷ function (codes "step") 0 2 ∷ function (codes "main") 0 3 ∷ []
