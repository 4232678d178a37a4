-- What the pass over the constants and variables of a package leaves: each variable in turn means what is there.
use Rattle.std.proofs.Common.{true, ◌≡◌, ℕ, ◌+◌, ◌≤◌, List, [], ◌∷◌, ◌++◌, length, take, drop, replicate, Option, Some, None, refl, ◌∙◌, subst, arith, append_assoc}
use Rattle.std.specs.Prelude.{count_by}
use Rattle.go_ast.specs.declared.kind.SourceKind.TheVariants.{NotConstant}
use Rattle.go_ast.specs.declared.name.Name.{Name}
use Rattle.go_ast.specs.declared.expr.Expr.{Expr as Written}
use Rattle.go_ast.specs.declared.block.ConstSpec.{ConstSpec}
use Rattle.go_ast.specs.declared.block.VarSpec.{VarSpec}
use Rattle.go_ast.specs.declared.decl.Decl.{Decl}
use Rattle.go_ast.specs.declared.decl.Decl.TheVariants as decl
use Rattle.go_ast.specs.declared.module.SourceFile.{SourceFile}
use Rattle.go_meaning.specs.declared.expr.Variable.TheVariants as variable
use Rattle.go_meaning.specs.declared.program.Global.{Global}
use Rattle.go_meaning.specs.declared.program.Global.TheVariants as global
use Rattle.go_meaning.specs.Programs.{Parts}
use Rattle.go_meaning.specs.WellFormed.{is_value, is_mutex, is_group}
use Rattle.go_types.specs.declared.types.ValueType.{ValueType}
use Rattle.go_types.specs.declared.names.Shared.{Shared}
use Rattle.go_types.specs.declared.names.Shared.TheVariants as shared'
use Rattle.go_types.specs.declared.names.Marks.{Marks}
use Rattle.go_types.specs.declared.names.Meaning.{Meaning}
use Rattle.go_types.specs.declared.names.Meaning.TheVariants as meaning
use Rattle.go_types.specs.declared.operand.Argument.{Argument}
use Rattle.go_types.specs.declared.given.Given.{Given}
use Rattle.go_types.specs.declared.given.Given.TheVariants.{Each as Apart, Whole}
use Rattle.go_types.specs.Operands.{zero_value}
use Rattle.go_types.specs.Statements.{fill, type_if}
use Rattle.go_packages.specs.declared.constants.ConstAt.{ConstAt}
use Rattle.go_packages.specs.declared.constants.Hiding.{Hiding}
use Rattle.go_packages.specs.declared.constants.Sources.{Sources}
use Rattle.go_packages.specs.declared.draft.Draft.{Draft}
use Rattle.go_packages.specs.declared.draft.Globals.{Globals}
use Rattle.go_packages.specs.Imports.{in_file}
use Rattle.go_packages.specs.Constants.{names_of_const, none_hidden, with_const, const_spec, enters, const_if, const_at, know_each, know_first}
use Rattle.go_packages.specs.Variables.{with_value, with_mutex, with_group, share, zero, begin_each, begin_with, first_at, with_marks, begin_given, begin, begin_typed, shared_of, begin_if, var_spec, names_of_var, needed, var_at, vars_at, pass_consts, pass_decl, pass_decls, pass_from}
use Rattle.go_bounds.specs.Known.{IsMeant, AreBound}
use Rattle.go_bounds.proofs.Sure.{Sure, sure_ok, sure_err, sure_then, sure_any, sure_more}
use Rattle.go_bounds.proofs.Placed.{Surely, surely_ok, surely_then, surely_placed, surely_more}
use Rattle.go_bounds.proofs.Simples.{const_meant}
use Rattle.go_bounds.proofs.PackageBodies.{imports_bound}
use Rattle.go_bounds.proofs.OwnNames.{Except, except_good, except_known}
use Rattle.go_bounds.proofs.OwnOutlines.{spec_names, vars_by, vars_of, vars_in}
use Rattle.go_bounds.proofs.Counts.{Counted, mutex_counted, group_counted, value_counted}
use Rattle.go_bounds.proofs.Initial.{initial_sure, Amounts, given_amounts}

-- ---- numbers of variables only grow

pub record Grown (g h : Globals) : Type 0 where
  pub values : g.values ≤ h.values
  pub mutexes : g.mutexes ≤ h.mutexes
  pub groups : g.groups ≤ h.groups

pub grown_refl : (g : Globals) → Grown g g
grown_refl g = record { values = omega arith; mutexes = omega arith; groups = omega arith }

pub grown_then : (f g h : Globals) → Grown f g → Grown g h → Grown f h
grown_then f g h a b = record { values = omega (arith, a.values, b.values); mutexes = omega (arith, a.mutexes, b.mutexes); groups = omega (arith, a.groups, b.groups) }

-- a program has that many
pub record Below (P : Parts) (g : Globals) : Type 0 where
  pub values : g.values ≤ count_by is_value P.globals
  pub mutexes : g.mutexes ≤ count_by is_mutex P.globals
  pub groups : g.groups ≤ count_by is_group P.globals

pub below_grown : (P : Parts) (g h : Globals) → Grown g h → Below P h → Below P g
below_grown P g h a b = record { values = omega (arith, a.values, b.values); mutexes = omega (arith, a.mutexes, b.mutexes); groups = omega (arith, a.groups, b.groups) }

module _ (P : Parts) where
  -- names of variables become known, and nothing else changes of what names mean
  pub record Clears (ns : List Name) (s t : Draft) : Type 0 where
    pub signatures : t.names.signatures ≡ s.names.signatures
    pub packages : t.names.packages ≡ s.names.packages
    pub locals : AreBound P 0 s.names.locals → AreBound P 0 t.names.locals
    pub counted : Counted s.globals → Counted t.globals
    pub grown : Grown s.globals t.globals
    pub own : Below P t.globals → (rest : List Name) → Except P (ns ++ rest) s.names.own → Except P rest t.names.own

  clears_none : (s : Draft) → Clears [] s s
  clears_none s = record { signatures = refl; packages = refl; locals = λ h. h; counted = λ h. h; grown = grown_refl s.globals; own = λ below rest e. e }

  clears_then : (ms ns : List Name) (s t u : Draft) → Clears ms s t → Clears ns t u → Clears (ms ++ ns) s u
  clears_then ms ns s t u g h = record {
    signatures = h.signatures ∙ g.signatures;
    packages = h.packages ∙ g.packages;
    locals = λ l. h.locals (g.locals l);
    counted = λ c. h.counted (g.counted c);
    grown = grown_then s.globals t.globals u.globals g.grown h.grown;
    own = λ below rest e. h.own below rest (g.own (below_grown P t.globals u.globals h.grown below) (ns ++ rest) (subst (λ xs. Except P xs s.names.own) (append_assoc ms ns rest) e));
  }

  -- ---- variables

  clears_mutex : (n : Name) (s : Draft) → Clears (n ∷ []) s (with_mutex n s)
  clears_mutex n s = record {
    signatures = refl;
    packages = refl;
    locals = λ l. l;
    counted = mutex_counted n s;
    grown = record { values = omega arith; mutexes = omega arith; groups = omega arith };
    own = λ below rest e. except_known P rest n (meaning.Mutex s.globals.mutexes) s.names.own (omega (arith, below.mutexes)) e;
  }

  clears_group : (n : Name) (s : Draft) → Clears (n ∷ []) s (with_group n s)
  clears_group n s = record {
    signatures = refl;
    packages = refl;
    locals = λ l. l;
    counted = group_counted n s;
    grown = record { values = omega arith; mutexes = omega arith; groups = omega arith };
    own = λ below rest e. except_known P rest n (meaning.Group s.globals.groups) s.names.own (omega (arith, below.groups)) e;
  }

  clears_value : (n : Name) (t : ValueType) (g : Global) (s : Draft) → is_value g ≡ true → Clears (n ∷ []) s (with_value n t g s)
  clears_value n t g s is = record {
    signatures = refl;
    packages = refl;
    locals = λ l. l;
    counted = value_counted n t g s is;
    grown = record { values = omega arith; mutexes = omega arith; groups = omega arith };
    own = λ below rest e. except_known P rest n (meaning.Variable (variable.Global s.globals.values) t) s.names.own (omega (arith, below.values)) e;
  }

  share_clears : (x : Shared) (ns : List Name) (s : Draft) → Clears ns s (share x ns s)
  share_clears x [] s = clears_none s
  share_clears shared'.Mutex (n ∷ ns) s = clears_then (n ∷ []) ns s (with_mutex n s) (share shared'.Mutex ns (with_mutex n s)) (clears_mutex n s) (share_clears shared'.Mutex ns (with_mutex n s))
  share_clears shared'.Group (n ∷ ns) s = clears_then (n ∷ []) ns s (with_group n s) (share shared'.Group ns (with_group n s)) (clears_group n s) (share_clears shared'.Group ns (with_group n s))

  zero_clears : (t : ValueType) (ns : List Name) (s : Draft) → Clears ns s (zero t ns s)
  zero_clears t [] s = clears_none s
  zero_clears t (n ∷ ns) s =
      let v = with_value n t (global.Value (zero_value t)) s in
      clears_then (n ∷ []) ns s v (zero t ns v) (clears_value n t (global.Value (zero_value t)) s refl) (zero_clears t ns v)

  each_clears : (w : Option ValueType) (ns : List Name) (as' : List Argument) (es : List Written) (s : Draft) → length as' ≡ length ns → length as' ≡ length es → Sure (begin_each w ns as' es s) (Clears ns s)
  each_clears w [] as' es s e f = sure_ok s (clears_none s)
  each_clears w (n ∷ ns) [] es s e f = absurd (omega (arith, e))
  each_clears w (n ∷ ns) (a ∷ as') [] s e f = absurd (omega (arith, f))
  each_clears w (n ∷ ns) (a ∷ as') (x ∷ es) s e f =
      sure_then (initial_sure w a x) (λ i h.
      sure_more (each_clears w ns as' es (with_value n i.of i.global s) (omega (arith, e)) (omega (arith, f))) (λ t c.
      clears_then (n ∷ []) ns s (with_value n i.of i.global s) t (clears_value n i.of i.global s h) c))

  with_clears : (w : Option ValueType) (ns : List Name) (es : List Written) (g : Given) (s : Draft) → Amounts (length ns) es g → Sure (begin_with w ns es g s) (Clears ns s)
  with_clears w ns es (Apart as') s h = each_clears w ns as' es s h.0 h.1
  with_clears w ns es (Whole at ts x) s h = sure_then (sure_any (fill (replicate (length ns) w) (Whole at ts x))) (λ f u. sure_err at NotConstant)

  -- what is read changes nothing of this
  marks_clear : (ns : List Name) (m : Marks) (s t : Draft) → Clears ns (with_marks m s) t → Clears ns s t
  marks_clear ns m s t h = record { signatures = h.signatures; packages = h.packages; locals = h.locals; counted = h.counted; grown = record { values = h.grown.values; mutexes = h.grown.mutexes; groups = h.grown.groups }; own = h.own }

  given_clears : (w : Option ValueType) (ns : List Name) (es : List Written) (s : Draft) → Sure (begin_given w ns es s) (Clears ns s)
  unfolding begin_given
  given_clears w ns es s =
      sure_then ((given_amounts true (first_at ns) (length ns) es s.names).sure s.marks) (λ r h.
      sure_more (with_clears w ns es r.0 (with_marks r.1 s) h) (λ t c. marks_clear ns r.1 s t c))

  begin_clears : (w : Option ValueType) (ns : List Name) (es : List Written) (s : Draft) → Sure (begin w ns es s) (Clears ns s)
  begin_clears (Some t) ns [] s = sure_ok _ (zero_clears t ns s)
  begin_clears (Some t) ns (e ∷ es) s = given_clears (Some t) ns (e ∷ es) s
  begin_clears None ns es s = given_clears None ns es s

  typed_clears : (v : VarSpec) (s : Draft) → Sure (begin_typed v s) (Clears v.names s)
  typed_clears v s =
      sure_then (sure_any (type_if v.kind s.names s.marks)) (λ r u.
      sure_more (begin_clears r.0 v.names v.values (with_marks r.1 s)) (λ t c. marks_clear v.names r.1 s t c))

  if_clears : (o : Option Shared) (v : VarSpec) (s : Draft) → Sure (begin_if o v s) (Clears v.names s)
  if_clears (Some x) v s = sure_ok _ (share_clears x v.names s)
  if_clears None v s = typed_clears v s

  spec_clears : (v : VarSpec) (s : Draft) → Sure (var_spec v s) (Clears v.names s)
  unfolding var_spec
  spec_clears v s =
      sure_then (sure_any (shared_of v.kind v.values s.names s.marks)) (λ r u.
      sure_more (if_clears r.0 v (with_marks r.1 s)) (λ t c. marks_clear v.names r.1 s t c))

  -- ---- constants

  clears_entered : (src : Sources) (k : ℕ) (s : Draft) → Clears [] s (enters src k s)
  unfolding in_file
  clears_entered src k s = record { signatures = refl; packages = refl; locals = λ l. imports_bound P k 0 src.imports; counted = λ h. h; grown = grown_refl s.globals; own = λ below rest e. e }

  clears_const : (n : Name) (m : Meaning) (marks : Marks) (s : Draft) → IsMeant P 0 m → Clears [] s (with_const n m marks s)
  clears_const n m marks s good = record { signatures = refl; packages = refl; locals = λ l. l; counted = λ h. h; grown = grown_refl s.globals; own = λ below rest e. except_good P rest n m s.names.own good e }

  const_clears : (hs : List Hiding) (c : ConstSpec) (s : Draft) → Sure (const_spec hs c s) (Clears [] s)
  unfolding const_spec
  const_clears hs c s =
      sure_then (sure_any (none_hidden s.known hs (names_of_const c))) (λ u v.
      sure_then ((const_meant P 0 c s.names).sure s.marks) (λ r h. sure_ok _ (clears_const c.name r.0 r.1 s (h 0))))

  const_if_clears : (src : Sources) (k : ℕ) (o : Option ConstSpec) (s : Draft) → Surely (const_if src k o s) (Clears [] s)
  const_if_clears src k None s = surely_ok s (clears_none s)
  const_if_clears src k (Some c) s =
      surely_placed k (const_spec src.hiding c (enters src k s)) (sure_more (const_clears src.hiding c (enters src k s)) (λ t h. clears_then [] [] s (enters src k s) t (clears_entered src k s) h))

  each_known : (fs : List SourceFile) (src : Sources) (cs : List ConstAt) (s : Draft) → Surely (know_each fs src cs s) (Clears [] s)
  each_known fs src [] s = surely_ok s (clears_none s)
  each_known fs src (c ∷ cs) s =
      surely_then (const_if_clears src c.file (const_at fs c) s) (λ t g. surely_more (each_known fs src cs t) (λ u h. clears_then [] [] s t u g h))

  first_known : (fs : List SourceFile) (src : Sources) (n : ℕ) (s : Draft) → Surely (know_first fs src n s) (Clears [] s)
  unfolding know_first
  first_known fs src n s = each_known fs src (drop s.known (take n src.consts)) s

  -- ---- the pass

  var_clears : (fs : List SourceFile) (src : Sources) (k : ℕ) (v : VarSpec) (s : Draft) → Surely (var_at fs src k v s) (Clears v.names s)
  unfolding var_at
  var_clears fs src k v s =
      surely_then (first_known fs src (needed src (names_of_var v) s) s) (λ t g.
      surely_placed k (var_spec v (enters src k t)) (sure_more (spec_clears v (enters src k t)) (λ u h.
      clears_then [] v.names s t u g (clears_then [] v.names t (enters src k t) u (clears_entered src k t) h))))

  vars_clear : (fs : List SourceFile) (src : Sources) (k : ℕ) (vs : List VarSpec) (s : Draft) → Surely (vars_at fs src k vs s) (Clears (spec_names vs) s)
  vars_clear fs src k [] s = surely_ok s (clears_none s)
  vars_clear fs src k (v ∷ vs) s =
      surely_then (var_clears fs src k v s) (λ t g. surely_more (vars_clear fs src k vs t) (λ u h. clears_then v.names (spec_names vs) s t u g h))

  consts_clear : (fs : List SourceFile) (src : Sources) (n : ℕ) (s : Draft) → Surely (pass_consts fs src n s) (Clears [] s)
  consts_clear fs src n s =
      surely_more (first_known fs src (s.passed + n) (record s { passed = s.passed + n })) (λ t h.
      record { signatures = h.signatures; packages = h.packages; locals = h.locals; counted = h.counted; grown = record { values = h.grown.values; mutexes = h.grown.mutexes; groups = h.grown.groups }; own = h.own })

  decl_clears : (fs : List SourceFile) (src : Sources) (k : ℕ) (d : Decl) (s : Draft) → Surely (pass_decl fs src k d s) (Clears (vars_by d) s)
  decl_clears fs src k (decl.Const cs) s = consts_clear fs src (length cs) s
  decl_clears fs src k (decl.Var vs) s = vars_clear fs src k vs s
  decl_clears fs src k (decl.Func f) s = surely_ok s (clears_none s)

  decls_clear : (fs : List SourceFile) (src : Sources) (k : ℕ) (ds : List Decl) (s : Draft) → Surely (pass_decls fs src k ds s) (Clears (vars_of ds) s)
  decls_clear fs src k [] s = surely_ok s (clears_none s)
  decls_clear fs src k (d ∷ ds) s =
      surely_then (decl_clears fs src k d s) (λ t g. surely_more (decls_clear fs src k ds t) (λ u h. clears_then (vars_by d) (vars_of ds) s t u g h))

  pub pass_clears : (all : List SourceFile) (src : Sources) (k : ℕ) (fs : List SourceFile) (s : Draft) → Surely (pass_from all src k fs s) (Clears (vars_in fs) s)
  pass_clears all src k [] s = surely_ok s (clears_none s)
  pass_clears all src k (f ∷ fs) s =
      surely_then (decls_clear all src k f.tree.decls s) (λ t g. surely_more (pass_clears all src (k + 1) fs t) (λ u h. clears_then (vars_of f.tree.decls) (vars_in fs) s t u g h))
