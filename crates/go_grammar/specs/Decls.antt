-- Declarations of a file: which tokens spell which tree.
use Rattle.std.specs.Prelude.{◌≡◌, ℕ, max, List, [], ◌∷◌, ◌++◌, map}
use Rattle.go_ast.specs.declared.token.TokenKind.TheVariants as kind
use Rattle.go_ast.specs.declared.name.Name.{Name}
use Rattle.go_ast.specs.declared.expr.TypeExpr.{TypeExpr}
use Rattle.go_ast.specs.declared.block.ConstSpec.{ConstSpec}
use Rattle.go_ast.specs.declared.block.VarSpec.{VarSpec}
use Rattle.go_ast.specs.declared.block.Block.{Block}
use Rattle.go_ast.specs.declared.decl.Param.{Param}
use Rattle.go_ast.specs.declared.decl.Decl.{Decl}
use Rattle.go_ast.specs.declared.decl.Decl.TheVariants as decl
use Rattle.go_grammar.specs.Words.{Word}
use Rattle.go_grammar.specs.Terminals as t
use Rattle.go_grammar.specs.Lists.{IsRow, MayBe}
use Rattle.go_grammar.specs.Types.{IsNames, IsType}
use Rattle.go_grammar.specs.Simple.{IsConsts, IsVars}
use Rattle.go_grammar.specs.declared.form.Form.{Form}
use Rattle.go_grammar.specs.Blocks.{IsBlock}
use Rattle.go_grammar.specs.Trees.{name_of}

-- parameters of one type
abbrev pub params_of : List Name → TypeExpr → List Param
params_of names of = map (λ n. record { name = n; kind = of }) names

-- Params = Names Type { "," Names Type }
pub data IsParams : ℕ → List Param → List Word → Type 0 where
  one_group : (h : ℕ) (ns : List Name) (of : TypeExpr) (u w : List Word) → IsNames ns u → IsType h of w → IsParams h (params_of ns of) (u ++ w)
  more_groups : (c : Word) (h h' : ℕ) (ns : List Name) (of : TypeExpr) (ps : List Param) (u w v : List Word) → IsNames ns u → IsType h of w → c.kind ≡ t.comma → IsParams h' ps v
      → IsParams (max h h') (params_of ns of ++ ps) (u ++ (w ++ c ∷ v))

-- [ Params [","] ]
pub data IsMaybeParams : ℕ → List Param → List Word → Type 0 where
  no_params : IsMaybeParams 0 [] []
  some_params : (h : ℕ) (ps : List Param) (w c : List Word) → IsParams h ps w → MayBe t.comma c → IsMaybeParams h ps (w ++ c)

-- [ Type | "(" Type { "," Type } [","] ")" ]
pub data IsResults : ℕ → List TypeExpr → List Word → Type 0 where
  no_results : IsResults 0 [] []
  one_result : (h : ℕ) (of : TypeExpr) (w : List Word) → IsType h of w → IsResults h (of ∷ []) w
  results : (a b : Word) (h : ℕ) (of : List TypeExpr) (w c : List Word) → a.kind ≡ t.left_parenthesis → IsRow t.comma IsType h of w → MayBe t.comma c → b.kind ≡ t.right_parenthesis
      → IsResults h of (a ∷ (w ++ (c ++ b ∷ [])))

-- Decl = Const | Var | Func
-- Func = "func" Name "(" [ Params [","] ] ")" [ Type | "(" Type { "," Type } [","] ")" ] Block
pub data IsDecl (form : Form) (most : ℕ) : ℕ → Decl → List Word → Type 0 where
  constants : (k : Word) (h end : ℕ) (cs : List ConstSpec) (w : List Word) → k.kind ≡ t.const_word → IsConsts h cs end w → IsDecl form most h (decl.Const cs) (k ∷ w)
  variables : (k : Word) (h end : ℕ) (vs : List VarSpec) (w : List Word) → k.kind ≡ t.var_word → IsVars h vs end w → IsDecl form most h (decl.Var vs) (k ∷ w)
  function : (k n a b : Word) (i j m end : ℕ) (ps : List Param) (rs : List TypeExpr) (body : Block) (u v w : List Word)
      → k.kind ≡ t.func_word → n.kind ≡ kind.Name → a.kind ≡ t.left_parenthesis → IsMaybeParams i ps u → b.kind ≡ t.right_parenthesis → IsResults j rs v → IsBlock form most m body end w
      → IsDecl form most (max (max i j) m)
      (decl.Func (record { name = name_of n; params = ps; results = rs; body = body; span = record { start = k.span.start; end = end } })) (k ∷ n ∷ a ∷ (u ++ b ∷ (v ++ w)))
