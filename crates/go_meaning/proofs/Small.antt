-- Small programs, and how they are run.
use Rattle.std.proofs.Common.{ℕ, zero, suc, true, false, List, [], ◌∷◌, Option, Some, None}
use Rattle.std.specs.Prelude.{length, codes, replicate, option_map, pos}
use Rattle.go_meaning.specs.declared.value.Value.TheVariants as value
use Rattle.go_meaning.specs.declared.expr.Expr.{Expr}
use Rattle.go_meaning.specs.declared.expr.Expr.TheVariants as expr
use Rattle.go_meaning.specs.declared.expr.Op.TheVariants as op
use Rattle.go_meaning.specs.declared.node.Node.{Node}
use Rattle.go_meaning.specs.declared.node.NodeForm.{NodeForm}
use Rattle.go_meaning.specs.declared.node.NodeForm.TheVariants as node
use Rattle.go_meaning.specs.declared.node.Simple.{Simple}
use Rattle.go_meaning.specs.declared.node.Simple.TheVariants as simple
use Rattle.go_meaning.specs.declared.config.Config.{Config}
use Rattle.go_meaning.specs.declared.event.End.{End}
use Rattle.go_meaning.specs.declared.event.Event.{Event}
use Rattle.go_meaning.specs.declared.event.Event.TheVariants.{Step}
use Rattle.go_meaning.specs.declared.program.Function.{Function}
use Rattle.go_meaning.specs.declared.expr.Variable.TheVariants.{Slot}
use Rattle.go_meaning.specs.declared.expr.Target.{Target}
use Rattle.go_meaning.specs.declared.expr.Target.TheVariants as target
use Rattle.go_meaning.specs.Histories.{start}
use Rattle.go_meaning.specs.Programs.{Parts}
use Rattle.go_meaning.specs.Operations.{number}
use Rattle.go_meaning.specs.Steps.{step}
use Rattle.go_meaning.specs.Histories.{replay}

abbrev pub at_nowhere : NodeForm → Node
at_nowhere form = record { span = record { start = 0; end = 0 }; form = form }

-- a package with a function `main` of so many slots, and others
abbrev pub program : ℕ → List Function → List (List NodeForm) → Parts
program slots others lists = record {
  packages = record { path = codes "m"; name = codes "main"; functions = 1 } ∷ [];
  functions = record { name = codes "main"; params = 0; results = 0; slots = slots; body = 0 } ∷ others;
  lists = placed lists;
  globals = [];
  units = 0;
  main = 0;
}
  where
    placed_list : List NodeForm → List Node
    placed_list [] = []
    placed_list (f ∷ fs) = at_nowhere f ∷ placed_list fs

    placed : List (List NodeForm) → List (List Node)
    placed [] = []
    placed (l ∷ ls) = placed_list l ∷ placed ls

abbrev pub println : Expr → NodeForm
println e = node.Simple (simple.Eval (expr.Apply (op.Println 1) (e ∷ [])) 0 false)

abbrev pub int : ℕ → Expr
int n = expr.Value (number (pos n))

abbrev pub text : List ℕ → Expr
text s = expr.Value (value.Text s)

abbrev pub slot : ℕ → Expr
slot s = expr.Variable (Slot s)

abbrev pub to_slot : ℕ → Target
to_slot s = target.Variable (Slot s)

-- steps of one goroutine
abbrev pub steps : ℕ → ℕ → List Event
steps n g = replicate n (Step g 0 0 0)

-- goroutine 1 goes on alone, up to an end
abbrev pub run_on : Parts → ℕ → Config → Config
run_on P zero c = c
run_on P (suc n) c = elim c.end as (λ _. Config) [ Some e ↦ c | None ↦ elim (step P c (Step 1 0 0 0)) as (λ _. Config) [ None ↦ c | Some d ↦ run_on P n d ] ]

-- the output and the end of a run
pub record Shows : Type 0 where
  pub output : List ℕ
  pub end : Option End

abbrev pub shows : Config → Shows
shows c = record { output = c.output; end = c.end }

abbrev pub ran : Parts → Shows
ran P = shows (run_on P 200 (start P))

abbrev pub replayed : Parts → List Event → Option Shows
replayed P es = option_map shows (replay P es)

-- several values in a line; a call for its effect; a variable that is set; a channel of a size; a panic
abbrev pub prints : List Expr → NodeForm
prints es = node.Simple (simple.Eval (expr.Apply (op.Println (length es)) es) 0 false)

abbrev pub does : Expr → NodeForm
does e = node.Simple (simple.Eval e 0 false)

abbrev pub sets : ℕ → Expr → Simple
sets s e = simple.Assign (record { targets = to_slot s ∷ []; values = e ∷ [] })

abbrev pub make : Option ℕ → Expr
make None = expr.Apply (op.Make (number (pos 0)) false) []
make (Some n) = expr.Apply (op.Make (number (pos 0)) true) (int n ∷ [])

abbrev pub stops : List ℕ → NodeForm
stops s = node.Simple (simple.Eval (expr.Apply op.Panic (text s ∷ [])) 0 true)
