-- What keeps a limit of clauses keeps a greater one.
use Rattle.std.proofs.Common.{ℕ, ◌≤◌, List, Option, arith}
use Rattle.go_ast.specs.declared.block.Stmt.{Stmt}
use Rattle.go_ast.specs.declared.block.Block.{Block}
use Rattle.go_ast.specs.declared.block.Other.{Other}
use Rattle.go_ast.specs.declared.block.CaseClause.{CaseClause}
use Rattle.go_ast.specs.declared.block.CommClause.{CommClause}
use Rattle.go_ast.specs.declared.decl.Decl.{Decl}
use Rattle.go_ast.specs.declared.file.File.{File}
use Rattle.go_grammar.specs.Words.{Word}
use Rattle.go_grammar.specs.declared.form.Form.{Form}
use Rattle.go_grammar.specs.Blocks.{IsStmt, constants, variables, simple, nested, branch, breakable, labelled, return_none, return_some, breaks, breaks_to, continues, continues_to, falls, goes, defers, counted, IsIf, if_, IsElse, no_else, else_block, else_if, IsBreakable, for_test, for_parts, for_range, switch, select, IsCases, no_cases, more_cases, IsCase, case_, default_, IsComms, no_comms, more_comms, IsCommClause, comm_case, comm_default, IsBlock, braces, IsList, no_stmts, stmts, IsStmts, one_stmt, more_stmts}
use Rattle.go_grammar.specs.Decls.{IsDecl, constants as consts', variables as vars', function}
use Rattle.go_grammar.specs.Files.{IsDecls, no_decls, more_decls, IsFile, source_file, covered_file}

module _ (form : Form) (m m' : ℕ) (le : m ≤ m') where
  mutual
    pub stmt_rises : (h : ℕ) (x : Stmt) (w : List Word) → IsStmt form m h x w → IsStmt form m' h x w
    stmt_rises _ _ _ (constants k h end cs w e i) = constants k h end cs w e i
    stmt_rises _ _ _ (variables k h end vs w e i) = variables k h end vs w e i
    stmt_rises _ _ _ (simple h x w i) = simple h x w i
    stmt_rises _ _ _ (nested h end b w i) = nested h end b w (block_rises h b end w i)
    stmt_rises _ _ _ (branch h x w i) = branch h x w (if_rises h x w i)
    stmt_rises _ _ _ (breakable h x w i) = breakable h x w (breakable_rises h x w i)
    stmt_rises _ _ _ (labelled n c h x w kn kc i) = labelled n c h x w kn kc (breakable_rises h x w i)
    stmt_rises _ _ _ (return_none k e) = return_none k e
    stmt_rises _ _ _ (return_some k h es w e i) = return_some k h es w e i
    stmt_rises _ _ _ (breaks k e) = breaks k e
    stmt_rises _ _ _ (breaks_to k n e f) = breaks_to k n e f
    stmt_rises _ _ _ (continues k e) = continues k e
    stmt_rises _ _ _ (continues_to k n e f) = continues_to k n e f
    stmt_rises _ _ _ (falls k e) = falls k e
    stmt_rises _ _ _ (goes k l h x w e i) = goes k l h x w e i
    stmt_rises _ _ _ (defers k l h x w e i) = defers k l h x w e i
    stmt_rises _ _ _ (counted a var mode count i w e lt f) = counted a var mode count i w e lt f

    pub if_rises : (h : ℕ) (x : Stmt) (w : List Word) → IsIf form m h x w → IsIf form m' h x w
    if_rises _ _ _ (if_ k l i j a n end end' f x b o u v w z e p q r s) = if_ k l i j a n end end' f x b o u v w z e p q (block_rises a b end w r) (else_rises n o end end' z s)

    pub else_rises : (h : ℕ) (o : Option Other) (end end' : ℕ) (w : List Word) → IsElse form m h o end end' w → IsElse form m' h o end end' w
    else_rises _ _ _ _ _ (no_else end) = no_else end
    else_rises _ _ _ _ _ (else_block k h end end' b w e i) = else_block k h end end' b w e (block_rises h b end' w i)
    else_rises _ _ _ _ _ (else_if k h end x w e i) = else_if k h end x w e (if_rises h x w i)

    pub breakable_rises : (h : ℕ) (x : Stmt) (w : List Word) → IsBreakable form m h x w → IsBreakable form m' h x w
    breakable_rises _ _ _ (for_test k i j end x b u v e p q) = for_test k i j end x b u v e p (block_rises j b end v q)
    breakable_rises _ _ _ (for_parts k a b i j p n end f l x y u v w z e q r s g c d) = for_parts k a b i j p n end f l x y u v w z e q r s g c (block_rises n y end z d)
    breakable_rises _ _ _ (for_range k r l i j end ns x b u v w e p q s c) = for_range k r l i j end ns x b u v w e p q s (block_rises j b end w c)
    breakable_rises _ _ _ (switch k a b i j n f x cs u v w e p q r s g) = switch k a b i j n f x cs u v w e p q r (cases_rise n cs w s) g
    breakable_rises _ _ _ (select k a b h cs w e f i few g) = select k a b h cs w e f (comms_rise h cs w i) (omega arith) g

    pub cases_rise : (h : ℕ) (cs : List CaseClause) (w : List Word) → IsCases form m h cs w → IsCases form m' h cs w
    cases_rise _ _ _ no_cases = no_cases
    cases_rise _ _ _ (more_cases h h' c cs w v i j) = more_cases h h' c cs w v (case_rises h c w i) (cases_rise h' cs v j)

    case_rises : (h : ℕ) (c : CaseClause) (w : List Word) → IsCase form m h c w → IsCase form m' h c w
    case_rises _ _ _ (case_ k c h h' es ss w v e i f j) = case_ k c h h' es ss w v e i f (list_rises h' ss v j)
    case_rises _ _ _ (default_ k c h ss v e f j) = default_ k c h ss v e f (list_rises h ss v j)

    pub comms_rise : (h : ℕ) (cs : List CommClause) (w : List Word) → IsComms form m h cs w → IsComms form m' h cs w
    comms_rise _ _ _ no_comms = no_comms
    comms_rise _ _ _ (more_comms h h' c cs w v i j) = more_comms h h' c cs w v (comm_rises h c w i) (comms_rise h' cs v j)

    comm_rises : (h : ℕ) (c : CommClause) (w : List Word) → IsCommClause form m h c w → IsCommClause form m' h c w
    comm_rises _ _ _ (comm_case k c h h' x ss w v e i f j) = comm_case k c h h' x ss w v e i f (list_rises h' ss v j)
    comm_rises _ _ _ (comm_default k c h ss v e f j) = comm_default k c h ss v e f (list_rises h ss v j)

    pub block_rises : (h : ℕ) (b : Block) (end : ℕ) (w : List Word) → IsBlock form m h b end w → IsBlock form m' h b end w
    block_rises _ _ _ _ (braces a b h ss w e i f) = braces a b h ss w e (list_rises h ss w i) f

    pub list_rises : (h : ℕ) (ss : List Stmt) (w : List Word) → IsList form m h ss w → IsList form m' h ss w
    list_rises _ _ _ no_stmts = no_stmts
    list_rises _ _ _ (stmts h ss w s i may) = stmts h ss w s (stmts_rise h ss w i) may

    pub stmts_rise : (h : ℕ) (ss : List Stmt) (w : List Word) → IsStmts form m h ss w → IsStmts form m' h ss w
    stmts_rise _ _ _ (one_stmt h x w i) = one_stmt h x w (stmt_rises h x w i)
    stmts_rise _ _ _ (more_stmts s h h' x xs w v i e j) = more_stmts s h h' x xs w v (stmt_rises h x w i) e (stmts_rise h' xs v j)

  pub decl_rises : (h : ℕ) (x : Decl) (w : List Word) → IsDecl form m h x w → IsDecl form m' h x w
  decl_rises _ _ _ (consts' k h end cs w e i) = consts' k h end cs w e i
  decl_rises _ _ _ (vars' k h end vs w e i) = vars' k h end vs w e i
  decl_rises _ _ _ (function k n a b i j p end ps rs x u v w kk kn ka ip kb ir ix) = function k n a b i j p end ps rs x u v w kk kn ka ip kb ir (block_rises p x end w ix)

  pub decls_rise : (h : ℕ) (xs : List Decl) (w : List Word) → IsDecls form m h xs w → IsDecls form m' h xs w
  decls_rise _ _ _ no_decls = no_decls
  decls_rise _ _ _ (more_decls s h h' x xs w v i e j) = more_decls s h h' x xs w v (decl_rises h x w i) e (decls_rise h' xs v j)

  pub file_rises : (h : ℕ) (x : File) (w : List Word) → IsFile form m h x w → IsFile form m' h x w
  file_rises _ _ _ (source_file k n s h is ds u v e kk kn ks i j) = source_file k n s h is ds u v e kk kn ks i (decls_rise h ds v j)
  file_rises _ _ _ (covered_file k n s h is ds var mode count p u v w e kk kn ks fp i d fw) = covered_file k n s h is ds var mode count p u v w e kk kn ks fp i (decls_rise h ds v d) fw
