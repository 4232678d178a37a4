-- What a declared function is checked to be. Go specification, "Function declarations", "Blocks", "Declarations and scope",
-- and, for what stands at its end, "Terminating statements".
use Rattle.std.specs.Prelude.{ℕ, Bool, true, false, List, [], ◌∷◌, ◌++◌, length, slice_get, Ok}
use Rattle.std.specs.Option.{option_map_or}
use Rattle.go_ast.specs.declared.name.Name.{Name}
use Rattle.go_ast.specs.declared.block.Block.{out-Block}
use Rattle.go_ast.specs.declared.decl.Param.{Param}
use Rattle.go_ast.specs.declared.decl.Func.{Func}
use Rattle.go_meaning.specs.declared.expr.Variable.{Variable}
use Rattle.go_meaning.specs.declared.expr.Variable.TheVariants.{Slot}
use Rattle.go_meaning.specs.declared.program.Function.{Function}
use Rattle.go_types.specs.declared.types.ValueType.{ValueType}
use Rattle.go_types.specs.declared.names.Meaning.TheVariants as meaning
use Rattle.go_types.specs.declared.names.Signature.{Signature}
use Rattle.go_types.specs.declared.walk.Walk.{Walk}
use Rattle.go_types.specs.Checking.{and_then}
use Rattle.go_types.specs.Walking.{Walking, ◌>>>◌, done, scoped, bind}
use Rattle.go_types.specs.Scopes.{is_blank}
use Rattle.go_types.specs.Bodies.{body}
use Rattle.go_types.specs.Endings.{ended}

-- ---- parameters

-- a variable in the next slot, which needs no reading
abbrev pub param_slot : ℕ → Walking Variable
param_slot at = λ s. Ok (Slot (length s.declared), record s { declared = s.declared ++ at ∷ []; marks = record s.marks { read = s.marks.read ++ true ∷ [] } })

abbrev pub bind_param : Bool → Name → Variable → ValueType → Walking (Unit {0})
bind_param true n x t = done tt
bind_param false n x t = bind n (meaning.Variable x t)

-- each parameter has a slot, `_` too
abbrev pub declare_param : Name → ValueType → Walking (Unit {0})
declare_param n t = param_slot n.at >>> (λ x. bind_param (is_blank n.text) n x t)

abbrev pub declare_params : List Param → List ValueType → Walking (Unit {0})
declare_params [] ts = done tt
declare_params (p ∷ ps) [] = done tt
declare_params (p ∷ ps) (t ∷ ts) = declare_param p.name t >>> (λ _. declare_params ps ts)

-- ---- functions

abbrev pub params_of : ℕ → Walk → List ValueType
params_of n s = option_map_or (λ (g : Signature). g.params) (slice_get s.names.signatures n) []

abbrev pub results_of : ℕ → Walk → List ValueType
results_of n s = option_map_or (λ (g : Signature). g.results) (slice_get s.names.signatures n) []

-- with no variable, label or statement of a function, and these types of results
abbrev pub with_results : List ValueType → Walk → Walk
with_results ts s = record s { marks = record s.marks { read = [] }; declared = []; labels = []; named = []; around = []; results = ts }

abbrev pub ended_at : ℕ → ℕ → Walking (Unit {0})
ended_at right l = λ s. and_then (ended right l s) (λ _. Ok (tt, s))

abbrev pub function_of : Func → ℕ → Walking Function
function_of f l = λ s. Ok (record { name = f.name.text; params = length f.params; results = length s.results; slots = length s.declared; body = l }, s)

-- the parameters and the body's statements share a scope
unfoldable pub function_parts : Func → List ValueType → Walking Function
function_parts f ts =
    declare_params f.params ts >>> (λ _.
    body (out-Block f.body).list >>> (λ l.
    ended_at (out-Block f.body).right l >>> (λ _.
    function_of f l)))

-- The function with a number, whose signature is known. Its variables and labels are its own.
unfoldable pub function : Func → ℕ → Walking Function
function f n = λ s. and_then (scoped (function_parts f (params_of n s)) (with_results (results_of n s) s)) (λ r. Ok (r.0, with_results [] r.1))
