-- Declarations in a body: variables, labels, and what takes values. Go specification, "Declarations and scope", "Label
-- scopes", "Blocks" and "Assignment statements".
use Rattle.std.specs.Prelude.{◌≡◌, ℕ, ◌+◌, ◌-◌, ◌==◌, Bool, true, false, not, ◌&&◌, ◌||◌, List, [], ◌∷◌, ◌++◌, length, map, reverse, position, slice_set, slice_get, codes, bytes_eq, Option, Some, None, Ok, is_some, if◌then◌else◌}
use Rattle.go_ast.specs.declared.kind.SourceKind.TheVariants as source
use Rattle.go_ast.specs.declared.name.Name.{Name}
use Rattle.go_ast.specs.declared.block.Target.{Target as Written}
use Rattle.go_ast.specs.declared.block.Target.TheVariants as written
use Rattle.go_meaning.specs.declared.expr.Variable.{Variable}
use Rattle.go_meaning.specs.declared.expr.Variable.TheVariants.{Slot}
use Rattle.go_meaning.specs.declared.expr.Target.{Target}
use Rattle.go_meaning.specs.declared.expr.Target.TheVariants as target
use Rattle.go_types.specs.declared.types.ValueType.{ValueType}
use Rattle.go_types.specs.declared.names.Meaning.{Meaning}
use Rattle.go_types.specs.declared.names.Meaning.TheVariants as meaning
use Rattle.go_types.specs.declared.walk.Label.{Label}
use Rattle.go_types.specs.declared.walk.Enclosing.{Enclosing}
use Rattle.go_types.specs.declared.walk.Place.{Place}
use Rattle.go_types.specs.declared.walk.Place.TheVariants as place
use Rattle.go_types.specs.declared.walk.Walk.{Walk}
use Rattle.std.specs.Option.{option_map_or}
use Rattle.go_types.specs.Names.{meaning_of, member, read}
use Rattle.go_types.specs.Checking.{Checked, and_then, fault}
use Rattle.go_types.specs.Walking.{Walking, ◌>>>◌, done, as_walking, stop, here, bind, in_scope}

-- the blank identifier declares nothing
abbrev pub is_blank : List ℕ → Bool
is_blank name = bytes_eq name (codes "_")

-- ---- variables

-- a variable in the next slot, not read so far
abbrev pub new_slot : ℕ → Walking Variable
new_slot at = λ s. Ok (Slot (length s.declared), record s { declared = s.declared ++ at ∷ []; marks = record s.marks { read = s.marks.read ++ false ∷ [] } })

abbrev pub declare_named : Bool → Name → ValueType → Walking Target
declare_named true n t = done target.Blank
declare_named false n t = new_slot n.at >>> (λ x. bind n (meaning.Variable x t) >>> (λ _. done (target.Variable x)))

-- a new variable of a type; `_` is none
abbrev pub declare : Name → ValueType → Walking Target
declare n t = declare_named (is_blank n.text) n t

abbrev pub declare_all : List Name → List ValueType → Walking (List Target)
declare_all [] ts = done []
declare_all (n ∷ ns) [] = done []
declare_all (n ∷ ns) (t ∷ ts) = declare n t >>> (λ x. declare_all ns ts >>> (λ xs. done (x ∷ xs)))

abbrev pub declare_const : Name → Meaning → Walking (Unit {0})
declare_const n m = if is_blank n.text then done tt else bind n m

-- ---- what takes values

-- only a variable can be assigned to
abbrev pub place_meant : ℕ → Meaning → Checked Place
place_meant at (meaning.Variable x t) = Ok (place.Variable x t)
place_meant at m = fault at source.WrongType

abbrev pub at_target : Written → ℕ
at_target (written.Plain n) = n.at
at_target (written.Member p n) = p.at

abbrev pub place_named : Name → Walking Place
place_named n = λ s. and_then (meaning_of s.names n) (λ m. and_then (place_meant n.at m) (λ p. Ok (p, s)))

-- `_` takes a value of any type
abbrev pub place_of : Written → Walking Place
place_of (written.Plain n) = if is_blank n.text then done place.Blank else place_named n
place_of (written.Member p n) = here (λ ns. member ns p n) >>> (λ m. as_walking (place_meant p.at m))

-- `op=`, `++` and `--` read their variable
abbrev pub read_at : Place → Walking (Unit {0})
read_at (place.Variable x t) = here (λ ns. read x)
read_at p = done tt

abbrev pub places_of : List Written → Walking (List Place)
places_of [] = done []
places_of (t ∷ ts) = place_of t >>> (λ p. places_of ts >>> (λ ps. done (p ∷ ps)))

-- what stands left of `:=`: a variable of this very scope is assigned, another name is declared
abbrev pub defined_meant : ℕ → Option Meaning → Checked Place
defined_meant at None = Ok place.New
defined_meant at (Some m) = place_meant at m

abbrev pub defined_place : Name → Walking Place
defined_place n = λ s.
    if is_blank n.text then Ok (place.Blank, s) else and_then (defined_meant n.at (in_scope s n.text)) (λ p. Ok (p, s))

abbrev pub defined_places : List Name → Walking (List Place)
defined_places [] = done []
defined_places (n ∷ ns) = defined_place n >>> (λ p. defined_places ns >>> (λ ps. done (p ∷ ps)))

abbrev pub is_new : Place → Bool
is_new place.New = true
is_new p = false

abbrev pub any_new : List Place → Bool
any_new [] = false
any_new (p ∷ ps) = if is_new p then true else any_new ps

-- the target of a place; a new name is declared with the type of its value
abbrev pub target_of : Name → Place → ValueType → Walking Target
target_of n place.Blank t = done target.Blank
target_of n (place.Variable x u) t = done (target.Variable x)
target_of n place.New t = declare n t

abbrev pub targets_defined : List Name → List Place → List ValueType → Walking (List Target)
targets_defined (n ∷ ns) (p ∷ ps) (t ∷ ts) = target_of n p t >>> (λ x. targets_defined ns ps ts >>> (λ xs. done (x ∷ xs)))
targets_defined ns ps ts = done []

abbrev pub old_target : Place → Target
old_target (place.Variable x t) = target.Variable x
old_target p = target.Blank

-- ---- labels

abbrev pub label_at : List ℕ → List Label → Option ℕ
label_at name ls = position (λ (l : Label). bytes_eq l.name name) ls

-- a label is known in the whole function, and named once there
abbrev pub new_label : Name → Walking ℕ
new_label n = λ s.
    if is_some (label_at n.text s.labels) then fault n.at source.BadLabel
    else Ok (length s.labels, record s { labels = s.labels ++ record { name = n.text; at = n.at } ∷ []; named = s.named ++ false ∷ [] })

abbrev pub name_label : ℕ → Walking (Unit {0})
name_label l = λ s. Ok (tt, record s { named = slice_set s.named l true })

abbrev pub bears : ℕ → Enclosing → Bool
bears l e = option_map_or (λ k. k == l) e.label false

-- what `break` can leave, and, where it must repeat, what `continue` can go on with
abbrev pub is_target : Bool → Enclosing → Bool
is_target must e = e.repeats || not must

-- how many of the statements stand within the innermost target
abbrev pub innermost : Bool → List Enclosing → Option ℕ
innermost must around = position (is_target must) (reverse around)

-- how many stand within the target that bears a label
abbrev pub bearing : Bool → ℕ → List Enclosing → Option ℕ
bearing must l around = position (λ (e : Enclosing). bears l e && is_target must e) (reverse around)

abbrev pub found : ℕ → Option ℕ → Checked ℕ
found at (Some k) = Ok k
found at None = fault at source.BadLabel

abbrev pub jump_label : Bool → Name → Option ℕ → Walking ℕ
jump_label must n None = stop n.at source.BadLabel
jump_label must n (Some l) = λ s. and_then (found n.at (bearing must l s.around)) (λ k. (name_label l >>> (λ _. done k)) s)

-- How many of the statements around the place a `break` leaves before its own, or, where it must repeat, a `continue`.
-- The offset is that of the statement.
unfoldable pub jump : Bool → ℕ → Option Name → Walking ℕ
jump must at None = λ s. and_then (found at (innermost must s.around)) (λ k. Ok (k, s))
jump must at (Some n) = λ s. jump_label must n (label_at n.text s.labels) s
