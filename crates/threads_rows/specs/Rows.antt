-- Small programs with goroutines, as contracts see them.
use Rattle.std.specs.Prelude.{◌<◌, ◌^◌, ◌++◌, ℕ, pos, List, [], ◌∷◌, codes, true}
use Rattle.go_meaning.specs.declared.expr.Op.TheVariants as op
use Rattle.go_meaning.specs.declared.node.Node.{Node}
use Rattle.go_meaning.specs.declared.node.NodeForm.{NodeForm}
use Rattle.go_meaning.specs.declared.node.NodeForm.TheVariants as node
use Rattle.go_meaning.specs.declared.node.Simple.TheVariants as simple
use Rattle.go_meaning.specs.declared.program.Function.{Function}
use Rattle.go_meaning.specs.Erasing.{IsUncounted}
use Rattle.go_meaning.specs.Programs.{Parts, is_cut}
use Rattle.go_meaning.specs.Units.{units_of}
use Rattle.go_samples.specs.Samples.{applied, calls, does, forever, function, int, program_with_group, statements, text, work_body, working_functions}

-- a program has no counters, and no more units than counters can be numbered
pub record IsCountable (P : Parts) : Type 0 where
  pub uncounted : IsUncounted P
  pub few : units_of (is_cut P) 0 P.lists < 2 ^ 32

-- ---- eight workers

-- group.Add(8)
abbrev pub adds_eight : NodeForm
adds_eight = does (op.Add 0) (int (pos 8) ∷ [])

-- go work()
abbrev pub starts_work : NodeForm
starts_work = node.Go 0 []

-- group.Wait()
abbrev pub waits : NodeForm
waits = does (op.Wait 0) []

abbrev pub four_starts : List NodeForm
four_starts = starts_work ∷ starts_work ∷ starts_work ∷ starts_work ∷ []

-- group.Add(8); go work(), eight times; group.Wait()
abbrev pub crowd_main : List Node
crowd_main = statements (adds_eight ∷ four_starts ++ four_starts ++ waits ∷ [])

abbrev pub crowd_lists : List (List Node)
crowd_lists = work_body ∷ statements (calls 1 ∷ []) ∷ [] ∷ crowd_main ∷ []

abbrev pub crowd : Parts
crowd = program_with_group 2 working_functions crowd_lists

-- ---- ends

-- f, and main, whose list comes behind those of f
abbrev pub two_functions : ℕ → List Function
two_functions body = function (codes "f") 0 0 ∷ function (codes "main") 0 body ∷ []

-- group.Add(1)
abbrev pub adds_one : NodeForm
adds_one = does (op.Add 0) (int (pos 1) ∷ [])

-- group.Add(1); go f(); group.Wait()
abbrev pub waiting_main : List Node
waiting_main = statements (adds_one ∷ node.Go 0 [] ∷ waits ∷ [])

-- f does nothing, so main waits for ever
abbrev pub stuck : Parts
stuck = program_with_group 1 (two_functions 1) ([] ∷ waiting_main ∷ [])

-- group.Done()
abbrev pub finishing_body : List Node
finishing_body = statements (does (op.Done 0) [] ∷ [])

abbrev pub finishing : Parts
finishing = program_with_group 1 (two_functions 1) (finishing_body ∷ waiting_main ∷ [])

-- panic("x")
abbrev pub panics : NodeForm
panics = node.Simple (simple.Eval (applied op.Panic (text (codes "x") ∷ [])) 0 true)

abbrev pub failing_body : List Node
failing_body = statements (panics ∷ [])

abbrev pub failing : Parts
failing = program_with_group 1 (two_functions 1) (failing_body ∷ waiting_main ∷ [])

-- os.Exit(3)
abbrev pub exits : NodeForm
exits = does op.Exit (int (pos 3) ∷ [])

-- go f(); go f(); os.Exit(3)
abbrev pub leaving_main : List Node
leaving_main = statements (node.Go 0 [] ∷ node.Go 0 [] ∷ exits ∷ [])

-- f is for { }
abbrev pub leaving_lists : List (List Node)
leaving_lists = statements (forever 1 ∷ []) ∷ [] ∷ leaving_main ∷ []

abbrev pub leaving : Parts
leaving = program_with_group 1 (two_functions 2) leaving_lists
