-- What is spelled within the limits is sized.
use Rattle.std.proofs.Common.{◌≡◌, ℕ, ◌≤◌, List, [], Option, Some, None, map, arith}
use Rattle.go_ast.specs.declared.block.Stmt.{Stmt}
use Rattle.go_ast.specs.declared.block.StmtForm.TheOpen.{StmtForm-F}
use Rattle.go_ast.specs.declared.block.StmtForm.TheVariants as stmt
use Rattle.go_ast.specs.declared.block.StmtForm.TheVariants.{rolls-Const, rolls-Var, rolls-Eval, rolls-Send, rolls-Up, rolls-Down, rolls-Update, rolls-Assign, rolls-Define, rolls-Return, rolls-Break, rolls-Continue, rolls-Fallthrough, rolls-Go, rolls-Defer, rolls-Count}
use Rattle.go_ast.specs.declared.block.Block.{Block}
use Rattle.go_ast.specs.declared.block.Other.{Other}
use Rattle.go_ast.specs.declared.block.CaseClause.{CaseClause}
use Rattle.go_ast.specs.declared.block.CommClause.{CommClause}
use Rattle.go_ast.specs.declared.block.Comm.TheVariants as comm
use Rattle.go_ast.specs.declared.decl.Decl.{Decl}
use Rattle.go_ast.specs.declared.file.File.{File}
use Rattle.go_ast.specs.declared.«module».SourceFile.{SourceFile}
use Rattle.go_ast.specs.declared.«module».Package.{Package}
use Rattle.go_grammar.specs.declared.form.CounterForm.{CounterForm}
use Rattle.go_grammar.specs.declared.form.Form.{Form}
use Rattle.go_grammar.specs.Words.{Word}
use Rattle.go_grammar.specs.Trees.{name_of, stmt_end, expr_start, expr_end, exprs_end, target_start, targets_start, names_start, block_left, hidden_block}
use Rattle.go_grammar.specs.Simple.{IsSimple, evaluated, sent, raised, lowered, updated, assigned, defined}
use Rattle.go_grammar.specs.Blocks.{covered, last_end, IsFirst, no_first, some_first, IsMaybeSimple, no_simple, some_simple, IsStmt, constants, variables, simple, nested, branch, breakable, labelled, return_none, return_some, breaks, breaks_to, continues, continues_to, falls, goes, defers, counted, IsIf, if_, IsElse, no_else, else_block, else_if, IsBreakable, for_test, for_parts, for_range, switch, select, IsCases, no_cases, more_cases, IsCase, case_, default_, IsComms, no_comms, more_comms, IsCommClause, comm_case, comm_default, IsBlock, braces, IsList, no_stmts, stmts, IsStmts, one_stmt, more_stmts}
use Rattle.go_grammar.specs.Decls.{IsDecl, constants as consts', variables as vars', function}
use Rattle.go_grammar.specs.Files.{IsDecls, no_decls, more_decls, IsFile, source_file, covered_file}
use Rattle.go_grammar.specs.Sound.{IsSound}
use Rattle.go_bounds.specs.Known.{Each}
use Rattle.go_bounds.specs.Trees.{joined}
use Rattle.go_bounds.specs.PackageBodies.{Sized, DeclSized, FileSized}
use Rattle.go_bounds.specs.Modules.{PackageSized, SoundModulesAreSized}
use Rattle.go_bounds.proofs.Naming.{each_append, each_more}
use Rattle.go_bounds.proofs.Every.{heldB, heldC, heldM, heldS}
use Rattle.go_bounds.proofs.Holding.{Good, GoodList, GoodFirst, GoodOther, first_good, one_good, braces_good, hidden_good, other_good, case_good, comm_good, node_good, block_good, if_good, for_good, range_good, switch_good, select_good, label_good, body_good}

-- a form whose counters are fewer than so many
abbrev Counts : Form → ℕ → Type 0
Counts form counts = (var : List ℕ) (mode : CounterForm) (count : ℕ) → form ≡ covered var mode count → count ≤ counts

module _ (form : Form) (most counts : ℕ) (few : most ≤ 1000) (enough : Counts form counts) where
  simple_sized : (h : ℕ) (x : Stmt) (w : List Word) → IsSimple h x w → Good counts (heldS x)
  simple_sized _ _ _ (evaluated l h e w i) = node_good counts (expr_start e) (expr_end e) (StmtForm-F.Eval e) (stmt.Eval e) (rolls-Eval e) tt
  simple_sized _ _ _ (sent s l l' h h' a b u v i e j) = node_good counts (expr_start a) (expr_end b) (StmtForm-F.Send a b) (stmt.Send a b) (rolls-Send a b) tt
  simple_sized _ _ _ (raised s g u i e) = node_good counts (target_start g) s.span.end (StmtForm-F.Up g) (stmt.Up g) (rolls-Up g) tt
  simple_sized _ _ _ (lowered s g u i e) = node_good counts (target_start g) s.span.end (StmtForm-F.Down g) (stmt.Down g) (rolls-Down g) tt
  simple_sized _ _ _ (updated s op l h g e u v i k j) = node_good counts (target_start g) (expr_end e) (StmtForm-F.Update g op e) (stmt.Update g op e) (rolls-Update g op e) tt
  simple_sized _ _ _ (assigned s h gs es u v i e j) = node_good counts (targets_start gs) (exprs_end 0 es) (StmtForm-F.Assign gs es) (stmt.Assign gs es) (rolls-Assign gs es) tt
  simple_sized _ _ _ (defined s h ns es u v i e j) = node_good counts (names_start ns) (exprs_end 0 es) (StmtForm-F.Define ns es) (stmt.Define ns es) (rolls-Define ns es) tt

  first_sized : (h : ℕ) (o : Option Stmt) (w : List Word) → IsFirst h o w → GoodFirst counts o
  first_sized _ _ _ no_first = tt
  first_sized _ _ _ (some_first s h x w i e) = simple_sized h x w i

  maybe_sized : (h : ℕ) (o : Option Stmt) (w : List Word) → IsMaybeSimple h o w → GoodFirst counts o
  maybe_sized _ _ _ no_simple = tt
  maybe_sized _ _ _ (some_simple h x w i) = simple_sized h x w i

  mutual
    stmt_sized : (h : ℕ) (x : Stmt) (w : List Word) → IsStmt form most h x w → Good counts (heldS x)
    stmt_sized _ _ _ (constants k h end cs w e i) = node_good counts k.span.start end (StmtForm-F.Const cs) (stmt.Const cs) (rolls-Const cs) tt
    stmt_sized _ _ _ (variables k h end vs w e i) = node_good counts k.span.start end (StmtForm-F.Var vs) (stmt.Var vs) (rolls-Var vs) tt
    stmt_sized _ _ _ (simple h x w i) = simple_sized h x w i
    stmt_sized _ _ _ (nested h end b w i) = block_good counts (block_left b) end b (block_sized h b end w i)
    stmt_sized _ _ _ (branch h x w i) = if_sized h x w i
    stmt_sized _ _ _ (breakable h x w i) = breakable_sized h x w i
    stmt_sized _ _ _ (labelled n c h x w kn kc i) = label_good counts n.span.start (stmt_end x) (name_of n) x (breakable_sized h x w i)
    stmt_sized _ _ _ (return_none k e) = node_good counts k.span.start k.span.end (StmtForm-F.Return []) (stmt.Return []) (rolls-Return []) tt
    stmt_sized _ _ _ (return_some k h es w e i) = node_good counts k.span.start (exprs_end 0 es) (StmtForm-F.Return es) (stmt.Return es) (rolls-Return es) tt
    stmt_sized _ _ _ (breaks k e) = node_good counts k.span.start k.span.end (StmtForm-F.Break None) (stmt.Break None) (rolls-Break None) tt
    stmt_sized _ _ _ (breaks_to k n e f) = node_good counts k.span.start n.span.end (StmtForm-F.Break (Some (name_of n))) (stmt.Break (Some (name_of n))) (rolls-Break (Some (name_of n))) tt
    stmt_sized _ _ _ (continues k e) = node_good counts k.span.start k.span.end (StmtForm-F.Continue None) (stmt.Continue None) (rolls-Continue None) tt
    stmt_sized _ _ _ (continues_to k n e f) = node_good counts k.span.start n.span.end (StmtForm-F.Continue (Some (name_of n))) (stmt.Continue (Some (name_of n))) (rolls-Continue (Some (name_of n))) tt
    stmt_sized _ _ _ (falls k e) = node_good counts k.span.start k.span.end StmtForm-F.Fallthrough stmt.Fallthrough rolls-Fallthrough tt
    stmt_sized _ _ _ (goes k l h x w e i) = node_good counts k.span.start (expr_end x) (StmtForm-F.Go x) (stmt.Go x) (rolls-Go x) tt
    stmt_sized _ _ _ (defers k l h x w e i) = node_good counts k.span.start (expr_end x) (StmtForm-F.Defer x) (stmt.Defer x) (rolls-Defer x) tt
    stmt_sized _ _ _ (counted a var mode count i w e lt f) =
        let le : count ≤ counts = enough var mode count e in
        node_good counts a.span.start (last_end a w) (StmtForm-F.Count i) (stmt.Count i) (rolls-Count i) (omega (arith, lt, le), tt)

    if_sized : (h : ℕ) (x : Stmt) (w : List Word) → IsIf form most h x w → Good counts (heldS x)
    if_sized _ _ _ (if_ k l i j a n end end' f x b o u v w z e p q r s) =
        if_good counts k.span.start end' f x b o (first_sized i f u p) (block_sized a b end w r) (else_sized n o end end' z s)

    else_sized : (h : ℕ) (o : Option Other) (end end' : ℕ) (w : List Word) → IsElse form most h o end end' w → GoodOther counts o
    else_sized _ _ _ _ _ (no_else end) = tt
    else_sized _ _ _ _ _ (else_block k h end end' b w e i) = other_good counts k.span.end b (block_sized h b end' w i)
    else_sized _ _ _ _ _ (else_if k h end x w e i) = other_good counts k.span.end (hidden_block k.span.end x) (hidden_good counts k.span.end x (if_sized h x w i))

    breakable_sized : (h : ℕ) (x : Stmt) (w : List Word) → IsBreakable form most h x w → Good counts (heldS x)
    breakable_sized _ _ _ (for_test k i j end x b u v e p q) = for_good counts k.span.start end None x None b tt tt (block_sized j b end v q)
    breakable_sized _ _ _ (for_parts k a b i j p n end f l x y u v w z e q r s g c d) = for_good counts k.span.start end f x l y (maybe_sized i f u q) (maybe_sized p l w c) (block_sized n y end z d)
    breakable_sized _ _ _ (for_range k r l i j end ns x b u v w e p q s c) = range_good counts k.span.start end ns x b (block_sized j b end w c)
    breakable_sized _ _ _ (switch k a b i j n f x cs u v w e p q r s g) = switch_good counts k.span.start b.span.end f x a.span.start cs (first_sized i f u p) (cases_sized n cs w s)
    breakable_sized _ _ _ (select k a b h cs w e f i le g) = select_good counts k.span.start b.span.end a.span.start cs (omega (arith, le, few)) (comms_sized h cs w i)

    cases_sized : (h : ℕ) (cs : List CaseClause) (w : List Word) → IsCases form most h cs w → Good counts (joined (map heldC cs))
    cases_sized _ _ _ no_cases = tt
    cases_sized _ _ _ (more_cases h h' c cs w v i j) = each_append (Sized counts) (heldC c) (joined (map heldC cs)) (case_sized h c w i) (cases_sized h' cs v j)

    case_sized : (h : ℕ) (c : CaseClause) (w : List Word) → IsCase form most h c w → Good counts (heldC c)
    case_sized _ _ _ (case_ k c h h' es ss w v e i f j) = case_good counts (Some es) c.span.start ss (list_sized h' ss v j)
    case_sized _ _ _ (default_ k c h ss v e f j) = case_good counts None c.span.start ss (list_sized h ss v j)

    comms_sized : (h : ℕ) (cs : List CommClause) (w : List Word) → IsComms form most h cs w → Good counts (joined (map heldM cs))
    comms_sized _ _ _ no_comms = tt
    comms_sized _ _ _ (more_comms h h' c cs w v i j) = each_append (Sized counts) (heldM c) (joined (map heldM cs)) (comm_sized h c w i) (comms_sized h' cs v j)

    comm_sized : (h : ℕ) (c : CommClause) (w : List Word) → IsCommClause form most h c w → Good counts (heldM c)
    comm_sized _ _ _ (comm_case k c h h' x ss w v e i f j) = comm_good counts x c.span.start ss (list_sized h' ss v j)
    comm_sized _ _ _ (comm_default k c h ss v e f j) = comm_good counts comm.Default c.span.start ss (list_sized h ss v j)

    block_sized : (h : ℕ) (b : Block) (end : ℕ) (w : List Word) → IsBlock form most h b end w → Good counts (heldB b)
    block_sized _ _ _ _ (braces a b h ss w e i f) = braces_good counts a.span.start b.span.start ss (list_sized h ss w i)

    list_sized : (h : ℕ) (ss : List Stmt) (w : List Word) → IsList form most h ss w → GoodList counts ss
    list_sized _ _ _ no_stmts = tt
    list_sized _ _ _ (stmts h ss w s i may) = stmts_sized h ss w i

    stmts_sized : (h : ℕ) (ss : List Stmt) (w : List Word) → IsStmts form most h ss w → GoodList counts ss
    stmts_sized _ _ _ (one_stmt h x w i) = one_good counts x (stmt_sized h x w i)
    stmts_sized _ _ _ (more_stmts s h h' x xs w v i e j) = first_good counts x xs (stmt_sized h x w i) (stmts_sized h' xs v j)

  decl_sized : (h : ℕ) (x : Decl) (w : List Word) → IsDecl form most h x w → DeclSized counts x
  decl_sized _ _ _ (consts' k h end cs w e i) = tt
  decl_sized _ _ _ (vars' k h end vs w e i) = tt
  decl_sized _ _ _ (function k n a b i j p end ps rs x u v w kk kn ka ip kb ir ix) = body_good counts x (block_sized p x end w ix)

  decls_sized : (h : ℕ) (xs : List Decl) (w : List Word) → IsDecls form most h xs w → Each (DeclSized counts) xs
  decls_sized _ _ _ no_decls = tt
  decls_sized _ _ _ (more_decls s h h' x xs w v i e j) = (decl_sized h x w i, decls_sized h' xs v j)

-- ---- files

file_sized : (form : Form) (most h : ℕ) (file : File) (w : List Word) → most ≤ 1000 → IsFile form most h file w → Each (DeclSized file.counts) file.decls
file_sized form most _ _ _ few (source_file k n s h is ds u v e kk kn ks i j) = decls_sized form most 0 few (λ var mode count f. absurd cc) h ds v j
file_sized form most _ _ _ few (covered_file k n s h is ds var mode count p u v w e kk kn ks fp i d fw) =
    decls_sized form most count few (λ var' mode' count' f. (let same : count' ≡ count = cc in omega (arith, same))) h ds v d

sound_sized : (f : SourceFile) → IsSound f.tree → FileSized f
sound_sized f s = file_sized s.0 1000 s.5.0 f.tree _ (omega arith) s.5.1

pub sound_modules_are_sized : SoundModulesAreSized
sound_modules_are_sized m h = each_more (λ (p : Package). Each (λ (f : SourceFile). IsSound f.tree) p.files) PackageSized (λ p k. each_more (λ (f : SourceFile). IsSound f.tree) FileSized sound_sized p.files k) m.packages h
