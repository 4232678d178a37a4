-- What names mean. Go specification, "Declarations and scope", "Predeclared identifiers", "Exported identifiers" and
-- "Qualified identifiers".
use Rattle.std.specs.Prelude.{ℕ, ◌-◌, Bool, true, false, ◌&&◌, List, [], ◌∷◌, length, slice_get, slice_set, unwrap_or, codes, bytes_eq, reverse, find as find', Option, Some, None, option_map, Ok, if◌then◌else◌}
use Rattle.std.specs.Str.{chars, is_utf8}
use Rattle.unicode.specs.GeneralCategory.{general_category}
use Rattle.unicode.specs.declared.properties.GeneralCategory.{GeneralCategory}
use Rattle.unicode.specs.declared.properties.GeneralCategory.TheVariants.{UppercaseLetter}
use Rattle.go_ast.specs.declared.kind.SourceKind.TheVariants.{Undeclared, NotExported}
use Rattle.go_ast.specs.declared.name.Name.{Name}
use Rattle.go_meaning.specs.declared.expr.Variable.TheVariants.{Slot}
use Rattle.go_meaning.specs.declared.expr.Variable.{Variable}
use Rattle.go_types.specs.declared.types.Basic.TheVariants as basic'
use Rattle.go_types.specs.declared.kinds.Untyped.TheVariants as untyped
use Rattle.go_types.specs.declared.kinds.OperandKind.TheVariants.{Untyped as Bare}
use Rattle.go_types.specs.declared.constant.Constant.TheVariants.{Flag}
use Rattle.go_types.specs.declared.names.Callee.TheVariants as callee
use Rattle.go_types.specs.declared.known.Known.{Known}
use Rattle.go_types.specs.declared.known.Known.TheVariants as known'
use Rattle.go_types.specs.declared.names.Meaning.{Meaning}
use Rattle.go_types.specs.declared.names.Meaning.TheVariants as meaning
use Rattle.go_types.specs.declared.names.Binding.{Binding}
use Rattle.go_types.specs.declared.names.Shared.TheVariants as shared
use Rattle.go_types.specs.declared.names.Standard.{Standard}
use Rattle.go_types.specs.declared.names.Standard.TheVariants.{Fmt, Os, Strconv, Sync}
use Rattle.go_types.specs.declared.names.Imported.{Imported}
use Rattle.go_types.specs.declared.names.Imported.TheVariants as imported
use Rattle.go_types.specs.declared.names.Names.{Names}
use Rattle.go_types.specs.declared.names.Marks.{Marks}
use Rattle.go_types.specs.Types.{basic}
use Rattle.go_types.specs.Checking.{Checked, fault, Checking, ◌>>=◌, pure, lift, fail}

abbrev pub either : {A : Type 0} → Option A → Option A → Option A
either (Some x) other = Some x
either None other = other

-- the last binding of a name
abbrev pub last_bound : List ℕ → List Binding → Option Binding
last_bound name bs = find' (λ (b : Binding). bytes_eq b.name name) (reverse bs)

abbrev pub last_named : List ℕ → List Binding → Option Meaning
last_named name bs = option_map (λ (b : Binding). b.meaning) (last_bound name bs)

abbrev pub of_table : List (List ℕ × Known) → List ℕ → Option Known
of_table [] name = None
of_table (e ∷ es) name = if bytes_eq e.0 name then Some e.1 else of_table es name

-- what a name means that no package of the module declares
abbrev pub known : Known → Meaning
known (known'.Type b) = meaning.Type (basic b)
known (known'.Flag b) = meaning.Constant (Bare untyped.Bool) (Flag b)
known known'.Nil = meaning.Nil
known (known'.Callee c) = meaning.Callee c
known (known'.Shared s) = meaning.Shared s

-- the predeclared names
abbrev pub table : List (List ℕ × Known)
table =
    (codes "bool", known'.Type basic'.Bool) ∷ (codes "string", known'.Type basic'.String) ∷
    (codes "int", known'.Type basic'.Int) ∷ (codes "int8", known'.Type basic'.Int8) ∷
    (codes "int16", known'.Type basic'.Int16) ∷ (codes "int32", known'.Type basic'.Int32) ∷
    (codes "int64", known'.Type basic'.Int64) ∷ (codes "uint", known'.Type basic'.Uint) ∷
    (codes "uint8", known'.Type basic'.Uint8) ∷ (codes "uint16", known'.Type basic'.Uint16) ∷
    (codes "uint32", known'.Type basic'.Uint32) ∷ (codes "uint64", known'.Type basic'.Uint64) ∷
    (codes "byte", known'.Type basic'.Uint8) ∷ (codes "rune", known'.Type basic'.Int32) ∷
    (codes "true", known'.Flag true) ∷ (codes "false", known'.Flag false) ∷ (codes "nil", known'.Nil) ∷
    (codes "len", known'.Callee callee.Len) ∷ (codes "cap", known'.Callee callee.Cap) ∷ (codes "make", known'.Callee callee.Make) ∷
    (codes "close", known'.Callee callee.Close) ∷ (codes "panic", known'.Callee callee.Panic) ∷ []

unfoldable pub predeclared : List ℕ → Option Known
predeclared = of_table table

-- the names of a package
abbrev pub names_of : Names → ℕ → List Binding
names_of ns p = unwrap_or (slice_get ns.packages p) []

-- The innermost meaning: one around the place or in the file, then one of the package, then the predeclared one.
abbrev pub find : Names → List ℕ → Option Meaning
find ns name = either (last_named name ns.locals) (either (last_named name ns.own) (option_map known (predeclared name)))

abbrev pub found_at : ℕ → Option Meaning → Checked Meaning
found_at at (Some x) = Ok x
found_at at None = fault at Undeclared

-- what a name means
unfoldable pub meaning_of : Names → Name → Checked Meaning
meaning_of ns n = found_at n.at (find ns n.text)

abbrev pub is_upper : GeneralCategory → Bool
is_upper UppercaseLetter = true
is_upper c = false

abbrev pub begins_upper : List ℕ → Bool
begins_upper [] = false
begins_upper (c ∷ cs) = is_upper (general_category c)

-- a name of another package is one that begins with an upper-case letter
unfoldable pub is_exported : List ℕ → Bool
is_exported name = is_utf8 name && begins_upper (chars name)

-- what is read and what is used

abbrev pub read : Variable → Checking (Unit {0})
read (Slot n) = λ m. Ok (tt, record m { read = slice_set m.read n true })
read v = pure tt

abbrev pub use_import : ℕ → Checking (Unit {0})
use_import n = λ m. Ok (tt, record m { used = slice_set m.used n true })

-- the names of the standard library that are known
abbrev pub standard : Standard → List (List ℕ × Known)
standard Fmt = (codes "Println", known'.Callee callee.Println) ∷ []
standard Os = (codes "Exit", known'.Callee callee.Exit) ∷ []
standard Strconv = (codes "Itoa", known'.Callee callee.Itoa) ∷ []
standard Sync = (codes "Mutex", known'.Shared shared.Mutex) ∷ (codes "WaitGroup", known'.Shared shared.Group) ∷ []

abbrev pub exported : Name → Option Meaning → Checked Meaning
exported n None = fault n.at Undeclared
exported n (Some x) = if is_exported n.text then Ok x else fault n.at NotExported

-- what a name of an imported package means
abbrev pub imported_name : Names → Name → Option Imported → Checked Meaning
imported_name ns n (Some (imported.Standard s)) = found_at n.at (option_map known (of_table (standard s) n.text))
imported_name ns n (Some (imported.Package p)) = exported n (last_named n.text (names_of ns p))
imported_name ns n None = fault n.at Undeclared

-- the methods of mutexes and wait groups
abbrev pub mutex_methods : ℕ → List (List ℕ × Known)
mutex_methods m = (codes "Lock", known'.Callee (callee.Lock m)) ∷ (codes "Unlock", known'.Callee (callee.Unlock m)) ∷ []

abbrev pub group_methods : ℕ → List (List ℕ × Known)
group_methods g =
    (codes "Add", known'.Callee (callee.Add g)) ∷ (codes "Done", known'.Callee (callee.Done g)) ∷ (codes "Wait", known'.Callee (callee.Wait g)) ∷ []

abbrev pub member_in : Names → Name → Meaning → Checking Meaning
member_in ns n (meaning.Import i) = use_import i >>= (λ _. lift (imported_name ns n (slice_get ns.imports i)))
member_in ns n (meaning.Mutex m) = lift (found_at n.at (option_map known (of_table (mutex_methods m) n.text)))
member_in ns n (meaning.Group g) = lift (found_at n.at (option_map known (of_table (group_methods g) n.text)))
member_in ns n x = fail n.at Undeclared

-- what a name in a package, or a method, means
unfoldable pub member : Names → Name → Name → Checking Meaning
member ns first n = lift (meaning_of ns first) >>= member_in ns n
