-- What a covered text has besides the tokens of a source: counters, an import and a trailer. A number is spelled in decimal.
use Rattle.std.specs.Prelude.{ℕ, zero, suc, List, [], ◌∷◌, ◌++◌, codes, decimal}
use Rattle.go_ast.specs.declared.token.TokenKind.TheVariants as kind
use Rattle.go_grammar.specs.declared.form.CounterForm.{CounterForm}
use Rattle.go_grammar.specs.declared.form.CounterForm.TheVariants as counter_form
use Rattle.go_grammar.specs.Patterns.{Pattern, any, spelled}
use Rattle.go_grammar.specs.Terminals as t

abbrev pub name : List ℕ → Pattern
name bytes = spelled kind.Name bytes

abbrev pub number : ℕ → Pattern
number n = spelled kind.Int (decimal n)

-- ---- counters

-- V.Count[i]
abbrev pub slot : List ℕ → ℕ → List Pattern
slot var i = name var ∷ any t.point ∷ name (codes "Count") ∷ any t.left_bracket ∷ number i ∷ any t.right_bracket ∷ []

-- the counter of unit i:
--
--   set     V.Count[i] = 1
--   count   V.Count[i]++
--   atomic  _cover_atomic_.AddUint32(&V.Count[i], 1)
abbrev pub counter : List ℕ → CounterForm → ℕ → List Pattern
counter var counter_form.SetForm i = slot var i ++ any t.assign ∷ number 1 ∷ []
counter var counter_form.CountForm i = slot var i ++ any t.increment ∷ []
counter var counter_form.AtomicForm i =
    name (codes "_cover_atomic_") ∷ any t.point ∷ name (codes "AddUint32") ∷ any t.left_parenthesis ∷ any t.ampersand
    ∷ (slot var i ++ any t.comma ∷ number 1 ∷ any t.right_parenthesis ∷ [])

-- ---- the import

-- import _cover_atomic_ "sync/atomic"; in the atomic form alone
abbrev pub atomic_import : CounterForm → List Pattern
atomic_import counter_form.AtomicForm = any t.import_word ∷ name (codes "_cover_atomic_") ∷ spelled kind.Text (codes "\"sync/atomic\"") ∷ any t.semicolon ∷ []
atomic_import _ = []

-- ---- the trailer, for n units

-- [N]uint32, with the width's name
abbrev pub array : ℕ → List ℕ → List Pattern
array n element = any t.left_bracket ∷ number n ∷ any t.right_bracket ∷ name element ∷ []

-- [3 * N]uint32
abbrev pub triples : ℕ → List Pattern
triples n = any t.left_bracket ∷ number 3 ∷ any t.star ∷ number n ∷ any t.right_bracket ∷ name (codes "uint32") ∷ []

-- any number, and a comma
abbrev pub entry : List Pattern
entry = any kind.Int ∷ any t.comma ∷ []

abbrev pub repeated : ℕ → List Pattern → List Pattern
repeated zero ps = []
repeated (suc n) ps = ps ++ repeated n ps

-- struct { Count [N]uint32; Pos [3 * N]uint32; NumStmt [N]uint16; }
abbrev pub fields : ℕ → List Pattern
fields n =
    any t.struct_word ∷ any t.left_brace ∷ name (codes "Count")
    ∷ (array n (codes "uint32") ++ any t.semicolon ∷ name (codes "Pos") ∷ (triples n ++ any t.semicolon ∷ name (codes "NumStmt") ∷ (array n (codes "uint16") ++ any t.semicolon ∷ any t.right_brace ∷ [])))

-- { Pos: [3 * N]uint32{ SL, EL, COLS, }, NumStmt: [N]uint16{ STMTS, }, }, with what stands in the inner braces for each unit
abbrev pub values : ℕ → List Pattern
values n =
    any t.left_brace ∷ name (codes "Pos") ∷ any t.colon
    ∷ (triples n ++ any t.left_brace ∷ (repeated n (entry ++ (entry ++ entry)) ++ any t.right_brace ∷ any t.comma ∷ name (codes "NumStmt") ∷ any t.colon
    ∷ (array n (codes "uint16") ++ any t.left_brace ∷ (repeated n entry ++ any t.right_brace ∷ any t.comma ∷ any t.right_brace ∷ any t.semicolon ∷ []))))

-- var _ = _cover_atomic_.LoadUint32; in the atomic form alone
abbrev pub atomic_use : CounterForm → List Pattern
atomic_use counter_form.AtomicForm = any t.var_word ∷ name (codes "_") ∷ any t.assign ∷ name (codes "_cover_atomic_") ∷ any t.point ∷ name (codes "LoadUint32") ∷ any t.semicolon ∷ []
atomic_use _ = []

-- var V = struct { .. }{ .. };
abbrev pub trailer : List ℕ → CounterForm → ℕ → List Pattern
trailer var mode n = any t.var_word ∷ name var ∷ any t.assign ∷ (fields n ++ (values n ++ atomic_use mode))
