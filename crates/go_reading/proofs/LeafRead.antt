-- Short statements that the grammar derives are read.
use Rattle.std.proofs.Common.{◌≡◌, ℕ, ◌+◌, ◌≤◌, ◌<◌, true, List, [], ◌∷◌, ◌++◌, Some, None, length, Ok, refl, arith}
use Rattle.std.proofs.lemmas.Bool.{le-ltb}
use Rattle.go_ast.specs.declared.token.TokenKind.TheVariants as kind
use Rattle.go_ast.specs.declared.expr.Expr.{Expr}
use Rattle.go_ast.specs.declared.block.ConstSpec.{ConstSpec}
use Rattle.go_ast.specs.declared.block.VarSpec.{VarSpec}
use Rattle.go_ast.specs.declared.block.Block.{Block}
use Rattle.go_ast.specs.declared.block.StmtForm.TheVariants as statement
use Rattle.go_grammar.specs.Words.{Word}
use Rattle.go_grammar.specs.Trees.{name_of, stmt_node, expr_end, exprs_end, block_left}
use Rattle.go_grammar.specs.Exprs.{IsExpr, IsExprs}
use Rattle.go_grammar.specs.Simple.{IsConsts, IsVars}
use Rattle.go_grammar.specs.Blocks.{IsBlock}
use Rattle.go_reading.specs.declared.header.Braced.{Braced}
use Rattle.go_reading.specs.Kinds.{begins}
use Rattle.go_reading.specs.Input.{Reader, Tall, kind_of, take_as}
use Rattle.go_reading.specs.Exprs.{expr, exprs}
use Rattle.go_reading.specs.Specs.{consts, vars}
use Rattle.go_reading.specs.Stmts.{break_stmt, continue_stmt, fallthrough_stmt, const_stmt, var_stmt, return_stmt, go_stmt, defer_stmt, nested_stmt}
use Rattle.go_reading.proofs.ExprsGood.{tall, leveled}
use Rattle.go_reading.proofs.RowsRead.{sees}
use Rattle.go_reading.proofs.ExprsRead.{expr_read, exprs_read}
use Rattle.go_reading.proofs.SpecsRead.{consts_read, vars_read, exprs_tall}
use Rattle.go_reading.proofs.SimpleRead.{exprs_begin}
use Rattle.go_reading.proofs.Stops.{Stops, block_tall}
use Rattle.go_reading.proofs.StmtsRead.{BlockReads}
use Rattle.go_grammar.specs.declared.form.Form.{Form as TextForm}

module _ (form : TextForm) where
  pub break_read : (k : Word) (rest : List Word) → Stops form rest → break_stmt (k ∷ rest) ≡ (Ok (stmt_node k.span.start k.span.end (statement.Break None), 1), rest)
  unfolding break_stmt take_as
  break_read k rest f = rw f.no_name refl

  pub break_to_read : (k a : Word) (rest : List Word) → a.kind ≡ kind.Name → break_stmt (k ∷ a ∷ rest) ≡ (Ok (stmt_node k.span.start a.span.end (statement.Break (Some (name_of a))), 1), rest)
  unfolding break_stmt take_as
  break_to_read k a rest ka = rw (sees a rest kind.Name ka) refl

  pub continue_read : (k : Word) (rest : List Word) → Stops form rest → continue_stmt (k ∷ rest) ≡ (Ok (stmt_node k.span.start k.span.end (statement.Continue None), 1), rest)
  unfolding continue_stmt take_as
  continue_read k rest f = rw f.no_name refl

  pub continue_to_read : (k a : Word) (rest : List Word) → a.kind ≡ kind.Name → continue_stmt (k ∷ a ∷ rest) ≡ (Ok (stmt_node k.span.start a.span.end (statement.Continue (Some (name_of a))), 1), rest)
  unfolding continue_stmt take_as
  continue_to_read k a rest ka = rw (sees a rest kind.Name ka) refl

  pub fallthrough_read : (k : Word) (rest : List Word) → fallthrough_stmt (k ∷ rest) ≡ (Ok (stmt_node k.span.start k.span.end statement.Fallthrough, 1), rest)
  unfolding fallthrough_stmt take_as
  fallthrough_read k rest = refl

  module _ (n d : ℕ) where
    const_step : (k : Word) (h end : ℕ) (cs : List ConstSpec) (ts rest : List Word) → consts n d ts ≡ (Ok ((cs, end), h), rest) → const_stmt n d (k ∷ ts) ≡ (Ok (stmt_node k.span.start end (statement.Const cs), h + 1), rest)
    unfolding const_stmt take_as
    const_step k h end cs ts rest r = rw r refl

    pub const_stmt_read : (k : Word) (h end : ℕ) (cs : List ConstSpec) (w : List Word) → IsConsts h cs end w → h ≤ d → length w < n → (rest : List Word) → Stops form rest → const_stmt n d (k ∷ (w ++ rest)) ≡ (Ok (stmt_node k.span.start end (statement.Const cs), h + 1), rest)
    const_stmt_read k h end cs w i le long rest f = const_step k h end cs (w ++ rest) rest (consts_read n d h end cs w i le long rest f.spec)

    var_step : (k : Word) (h end : ℕ) (vs : List VarSpec) (ts rest : List Word) → vars n d ts ≡ (Ok ((vs, end), h), rest) → var_stmt n d (k ∷ ts) ≡ (Ok (stmt_node k.span.start end (statement.Var vs), h + 1), rest)
    unfolding var_stmt take_as
    var_step k h end vs ts rest r = rw r refl

    pub var_stmt_read : (k : Word) (h end : ℕ) (vs : List VarSpec) (w : List Word) → IsVars h vs end w → h ≤ d → length w < n → (rest : List Word) → Stops form rest → var_stmt n d (k ∷ (w ++ rest)) ≡ (Ok (stmt_node k.span.start end (statement.Var vs), h + 1), rest)
    var_stmt_read k h end vs w i le long rest f = var_step k h end vs (w ++ rest) rest (vars_read n d h end vs w i le long rest f.spec)

    pub return_none_read : (k : Word) (rest : List Word) → Stops form rest → return_stmt n d (k ∷ rest) ≡ (Ok (stmt_node k.span.start k.span.end (statement.Return []), 1), rest)
    unfolding return_stmt take_as
    return_none_read k rest f = rw f.no_value refl

    return_step : (k : Word) (h : ℕ) (es : List Expr) (ts rest : List Word) → begins (kind_of ts) ≡ true → 1 ≤ d → exprs n d ts ≡ (Ok (es, h), rest) → return_stmt n d (k ∷ ts) ≡ (Ok (stmt_node k.span.start (exprs_end 0 es) (statement.Return es), h + 1), rest)
    unfolding return_stmt take_as
    return_step k h es ts rest b some r = rw (b, le-ltb d 1 some, r) refl

    pub return_some_read : (k : Word) (h : ℕ) (es : List Expr) (w : List Word) → IsExprs h es w → h ≤ d → length w < n → (rest : List Word) → Stops form rest → return_stmt n d (k ∷ (w ++ rest)) ≡ (Ok (stmt_node k.span.start (exprs_end 0 es) (statement.Return es), h + 1), rest)
    return_some_read k h es w i le long rest f =
        let some = exprs_tall h es w i in
        return_step k h es (w ++ rest) rest (exprs_begin h es w i rest) (omega arith) (exprs_read n d h es w i le long rest f.ends.ends f.ends.no_comma)

    go_step : (k : Word) (h : ℕ) (e : Expr) (ts rest : List Word) → 1 ≤ d → expr n d 1 ts ≡ (Ok (e, h), rest) → go_stmt n d (k ∷ ts) ≡ (Ok (stmt_node k.span.start (expr_end e) (statement.Go e), h + 1), rest)
    unfolding go_stmt take_as
    go_step k h e ts rest some r = rw (le-ltb d 1 some, r) refl

    pub go_read : (k : Word) (l h : ℕ) (e : Expr) (w : List Word) → IsExpr l h e w → h ≤ d → length w < n → (rest : List Word) → Stops form rest → go_stmt n d (k ∷ (w ++ rest)) ≡ (Ok (stmt_node k.span.start (expr_end e) (statement.Go e), h + 1), rest)
    go_read k l h e w i le long rest f =
        let some = tall l h e w i in
        go_step k h e (w ++ rest) rest (omega arith) (expr_read n d l h e w i le long 1 (leveled l h e w i) (omega arith) rest f.ends.ends)

    defer_step : (k : Word) (h : ℕ) (e : Expr) (ts rest : List Word) → 1 ≤ d → expr n d 1 ts ≡ (Ok (e, h), rest) → defer_stmt n d (k ∷ ts) ≡ (Ok (stmt_node k.span.start (expr_end e) (statement.Defer e), h + 1), rest)
    unfolding defer_stmt take_as
    defer_step k h e ts rest some r = rw (le-ltb d 1 some, r) refl

    pub defer_read : (k : Word) (l h : ℕ) (e : Expr) (w : List Word) → IsExpr l h e w → h ≤ d → length w < n → (rest : List Word) → Stops form rest → defer_stmt n d (k ∷ (w ++ rest)) ≡ (Ok (stmt_node k.span.start (expr_end e) (statement.Defer e), h + 1), rest)
    defer_read k l h e w i le long rest f =
        let some = tall l h e w i in
        defer_step k h e (w ++ rest) rest (omega arith) (expr_read n d l h e w i le long 1 (leveled l h e w i) (omega arith) rest f.ends.ends)

    nested_step : (bl : Reader (Tall Braced)) (h end : ℕ) (b : Block) (ts rest : List Word) → 1 ≤ d → bl ts ≡ (Ok (record { block = b; end = end }, h), rest) → nested_stmt n d bl ts ≡ (Ok (stmt_node (block_left b) end (statement.Block b), h + 1), rest)
    unfolding nested_stmt
    nested_step bl h end b ts rest some r = rw (le-ltb d 1 some, r) refl

    pub nested_read : (m : ℕ) (bl : Reader (Tall Braced)) → BlockReads form n m d bl → (h end : ℕ) (b : Block) (w : List Word) → IsBlock form m h b end w → h ≤ d → length w < n → (rest : List Word) → nested_stmt n d bl (w ++ rest) ≡ (Ok (stmt_node (block_left b) end (statement.Block b), h + 1), rest)
    nested_read m bl reads h end b w i le long rest = let some = block_tall form m h b end w i in nested_step bl h end b (w ++ rest) rest (omega arith) (reads h b end w i le long rest)
