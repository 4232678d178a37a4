-- Files: which tokens spell which tree.
use Rattle.std.specs.Prelude.{◌≡◌, ℕ, ◌≤◌, max, List, [], ◌∷◌, ◌++◌}
use Rattle.go_ast.specs.declared.token.TokenKind.TheVariants as kind
use Rattle.go_ast.specs.declared.file.Import.{Import}
use Rattle.go_ast.specs.declared.file.File.{File}
use Rattle.go_ast.specs.declared.decl.Decl.{Decl}
use Rattle.go_grammar.specs.declared.form.CounterForm.{CounterForm}
use Rattle.go_grammar.specs.Words.{Word}
use Rattle.go_grammar.specs.Patterns.{AllFit}
use Rattle.go_grammar.specs.Covering.{atomic_import, trailer}
use Rattle.go_grammar.specs.Terminals as t
use Rattle.go_grammar.specs.Lists.{IsGroup}
use Rattle.go_grammar.specs.Values.{text_value}
use Rattle.go_grammar.specs.Trees.{name_of}
use Rattle.go_grammar.specs.declared.form.Form.{Form}
use Rattle.go_grammar.specs.Blocks.{source, covered}
use Rattle.go_grammar.specs.Decls.{IsDecl}

-- the path of an import
pub data IsPath : ℕ → Import → List Word → Type 0 where
  path : (n : Word) → n.kind ≡ kind.Text → IsPath 0 (record { path = text_value n.bytes; at = n.span.start }) (n ∷ [])

-- { Import ";" }, where Import = "import" ( Text | "(" { Text ";" } ")" )
pub data IsImports : List Import → List Word → Type 0 where
  no_imports : IsImports [] []
  more_imports : (k s : Word) (end : ℕ) (is js : List Import) (w v : List Word) → k.kind ≡ t.import_word → IsGroup IsPath (λ i. 0) 0 is end w → s.kind ≡ t.semicolon → IsImports js v
      → IsImports (is ++ js) (k ∷ (w ++ s ∷ v))

-- { Decl ";" }
pub data IsDecls (form : Form) (most : ℕ) : ℕ → List Decl → List Word → Type 0 where
  no_decls : IsDecls form most 0 [] []
  more_decls : (s : Word) (h h' : ℕ) (x : Decl) (xs : List Decl) (w v : List Word) → IsDecl form most h x w → s.kind ≡ t.semicolon → IsDecls form most h' xs v
      → IsDecls form most (max h h') (x ∷ xs) (w ++ s ∷ v)

-- File = "package" Name ";" { Import ";" } { Decl ";" } End
-- and in a covered text, with the import that counters of its mode need before the others, and the trailer at the end.
pub data IsFile (form : Form) (most : ℕ) : ℕ → File → List Word → Type 0 where
  source_file : (k n s : Word) (h : ℕ) (is : List Import) (ds : List Decl) (u v : List Word) → form ≡ source → k.kind ≡ t.package_word → n.kind ≡ kind.Name → s.kind ≡ t.semicolon → IsImports is u → IsDecls form most h ds v
      → IsFile form most h (record { «package» = name_of n; imports = is; decls = ds; counts = 0 }) (k ∷ n ∷ s ∷ (u ++ v))
  covered_file : (k n s : Word) (h : ℕ) (is : List Import) (ds : List Decl) (var : List ℕ) (mode : CounterForm) (count : ℕ) (p u v w : List Word) → form ≡ covered var mode count → k.kind ≡ t.package_word → n.kind ≡ kind.Name → s.kind ≡ t.semicolon
      → AllFit (atomic_import mode) p → IsImports is u → IsDecls form most h ds v → AllFit (trailer var mode count) w
      → IsFile form most h (record { «package» = name_of n; imports = is; decls = ds; counts = count }) (k ∷ n ∷ s ∷ (p ++ (u ++ (v ++ w))))

-- the tokens spell the file in the form, no tree in it is higher than `depth`, and no `select` has more clauses than `most`
abbrev pub SpellsWithin : Form → ℕ → ℕ → File → List Word → Type 0
SpellsWithin form most depth file w = (h : ℕ) × IsFile form most h file w × (h ≤ depth)

-- the tokens spell the file in the form
abbrev pub Spells : Form → File → List Word → Type 0
Spells form file w = (most depth : ℕ) × SpellsWithin form most depth file w
