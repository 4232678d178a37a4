-- Files, read from left to right.
use Rattle.std.specs.Prelude.{ℕ, zero, suc, max, List, [], ◌∷◌, ◌++◌, Option, Some, None, Result, Ok, Err}
use Rattle.go_ast.specs.declared.token.TokenKind.{TokenKind}
use Rattle.go_ast.specs.declared.token.TokenKind.TheVariants as kind
use Rattle.go_ast.specs.declared.file.Import.{Import}
use Rattle.go_ast.specs.declared.file.File.{File}
use Rattle.go_ast.specs.declared.decl.Decl.{Decl}
use Rattle.go_grammar.specs.declared.form.CounterForm.{CounterForm}
use Rattle.go_grammar.specs.declared.form.Form.{Form}
use Rattle.go_grammar.specs.declared.form.Form.TheVariants as text_form
use Rattle.go_grammar.specs.Words.{Word}
use Rattle.go_grammar.specs.Patterns.{Pattern, any}
use Rattle.go_grammar.specs.Covering.{name, atomic_import, trailer}
use Rattle.go_grammar.specs.Terminals as t
use Rattle.go_grammar.specs.Values.{text_value}
use Rattle.go_reading.specs.declared.fault.Fault.{Fault}
use Rattle.go_reading.specs.declared.fault.Fault.TheVariants.{Exhausted}
use Rattle.go_reading.specs.Counters.{expect_all}
use Rattle.go_reading.specs.Lists.{group_list, group_of}
use Rattle.go_reading.specs.Decls.{declaration}
use Rattle.go_reading.specs.Input.{Outcome, Reader, Tall, ◌>>=◌, ◌>>◌, pure, fail, refuse, peek, take_span, expect, expect_as, expect_name, if_kind}

abbrev pub import_of : Word → Import
import_of word = record { path = text_value word.bytes; at = word.span.start }

abbrev pub path : Reader (Tall Import)
path = do
  x ← expect_as import_of kind.Text
  pure (x, 0)

unfoldable pub path_list : ℕ → ℕ → Reader (List Import)
path_list n d = do
  xs ← group_list kind.Text d path n
  pure xs.0

unfoldable pub paths : ℕ → ℕ → Reader (List Import)
paths n d = do
  xs ← group_of kind.Text d path (λ i. 0) n
  pure xs.0.0

unfoldable pub imports_from : ℕ → ℕ → ℕ → List Import → Reader (List Import)
imports_from n d zero found = fail Exhausted
imports_from n d (suc turns) found = peek >>= if_kind t.import_word (do
  take_span
  xs ← paths n d
  expect t.semicolon
  imports_from n d turns (found ++ xs)) (pure found)

-- ---- what a covered text has besides

-- the import that the counters of the form need
abbrev pub import_piece : Form → Reader ℕ
import_piece text_form.Source = pure 0
import_piece (text_form.Covered var mode count) = expect_all (atomic_import mode) 0

-- the number of units
abbrev pub units : Form → ℕ
units text_form.Source = 0
units (text_form.Covered var mode count) = count

-- the tokens that tell the trailer from a declaration of its variable
abbrev pub trailer_front : List ℕ → List Pattern
trailer_front var = any t.var_word ∷ name var ∷ any t.assign ∷ any t.struct_word ∷ []

abbrev pub behind_front : List Pattern → List Pattern
behind_front (a ∷ (b ∷ (c ∷ (d ∷ ps)))) = ps
behind_front _ = []

abbrev pub front_by : {A : Type 0} → Reader (Option A) → List Word → Result ℕ Fault → List Word → Outcome (Option A)
front_by other ts (Ok end) rest = (Ok None, rest)
front_by other ts (Err e) rest = other ts

-- none where the trailer begins, and else what is read
unfoldable pub or_trailer : {A : Type 0} → List ℕ → Reader A → Reader (Option A)
or_trailer var item = λ ts. front_by (item >>= λ x. pure (Some x)) ts (expect_all (trailer_front var) 0 ts).0 (expect_all (trailer_front var) 0 ts).1

abbrev pub at_end : {A : Type 0} → A → Option TokenKind → Reader A
at_end x None = pure x
at_end x (Some kind) = refuse

-- the rest of the trailer, and the end
unfoldable pub trailer_rest : {A : Type 0} → List ℕ → CounterForm → ℕ → A → Reader A
trailer_rest var mode count x = expect_all (behind_front (trailer var mode count)) 0 >> (peek >>= at_end x)

-- ---- declarations, and what ends them

abbrev pub decls_by : {A : Type 0} → Reader A → Reader A → Option TokenKind → Reader A
decls_by done more None = done
decls_by done more (Some kind) = more

abbrev pub ended_by : Reader (Tall (List Decl)) → (Tall Decl → Reader (Tall (List Decl))) → Option (Tall Decl) → Reader (Tall (List Decl))
ended_by done more None = done
ended_by done more (Some x) = more x

abbrev pub decls_in : Form → Reader (Tall Decl) → Tall (List Decl) → (Tall Decl → Reader (Tall (List Decl))) → Reader (Tall (List Decl))
decls_in text_form.Source item found more = peek >>= decls_by (pure found) (item >>= more)
decls_in (text_form.Covered var mode count) item found more = or_trailer var item >>= ended_by (trailer_rest var mode count found) more

module _ (form : Form) (n m d : ℕ) where
  unfoldable pub decls_from : ℕ → List Decl → ℕ → Reader (Tall (List Decl))
  decls_from zero found h = fail Exhausted
  decls_from (suc turns) found h = decls_in form (declaration form n m d) (found, h) (λ x. expect t.semicolon >> decls_from turns (found ++ x.0 ∷ []) (max h x.1))

  unfoldable pub file : Reader (Tall File)
  file = do
    expect t.package_word
    name ← expect_name
    expect t.semicolon
    import_piece form
    is ← imports_from n d n []
    ds ← decls_from n [] 0
    pure (record { «package» = name.0; imports = is; decls = ds.0; counts = units form }, ds.1)
