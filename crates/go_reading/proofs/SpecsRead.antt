-- Constants and variables that the grammar derives are read.
use Rattle.std.proofs.Common.{◌≡◌, ℕ, ◌≤◌, ◌<◌, max, true, false, List, [], ◌∷◌, ◌++◌, Option, Some, None, length, Ok, refl, append_assoc, arith}
use Rattle.std.proofs.lemmas.List.{length-append}
use Rattle.go_ast.specs.declared.name.Name.{Name}
use Rattle.go_ast.specs.declared.token.TokenKind.{TokenKind}
use Rattle.go_ast.specs.declared.token.TokenKind.TheVariants as kind
use Rattle.go_ast.specs.declared.expr.TypeExpr.{TypeExpr}
use Rattle.go_ast.specs.declared.expr.Expr.{Expr}
use Rattle.go_ast.specs.declared.block.ConstSpec.{ConstSpec}
use Rattle.go_ast.specs.declared.block.VarSpec.{VarSpec}
use Rattle.go_grammar.specs.Words.{Word}
use Rattle.go_grammar.specs.Terminals as t
use Rattle.go_grammar.specs.Trees.{name_of, const_end, var_end}
use Rattle.go_grammar.specs.Lists.{IsRow, one_item, more_items}
use Rattle.go_grammar.specs.Types.{IsName, name, IsNames, IsType, no_type, some_type}
use Rattle.go_grammar.specs.Exprs.{IsExprs, one_expr, more_exprs}
use Rattle.go_grammar.specs.Simple.{IsConstSpec, const_spec as const_spec', IsVarSpec, typed_var, valued_var, IsConsts, IsVars}
use Rattle.go_reading.specs.Kinds.{same, is, begins_type}
use Rattle.go_reading.specs.Input.{kind_of, expect_as}
use Rattle.go_reading.specs.Types.{names, maybe_type}
use Rattle.go_reading.specs.Exprs.{expr, exprs}
use Rattle.go_reading.specs.Specs.{const_spec, consts, values_of, var_spec, vars}
use Rattle.go_reading.proofs.RowsRead.{sees, kind_is, is_other, group_reads}
use Rattle.go_reading.proofs.TypesRead.{names_read, type_read, type_begins, type_tall, maybe_type_read}
use Rattle.go_reading.proofs.ExprsGood.{tall, leveled}
use Rattle.go_reading.proofs.Ends.{Ends, Plain, ends_by, plain_semicolon, plain_parenthesis}
use Rattle.go_reading.proofs.ExprsRead.{expr_read, exprs_read}

-- what may follow a declaration
pub record SpecEnds (rest : List Word) : Type 0 where
  pub ends : Ends 1 rest
  pub no_comma : is (kind_of rest) t.comma ≡ false
  pub no_assign : is (kind_of rest) t.assign ≡ false

pub spec_ends : (rest : List Word) (k : TokenKind) → kind_of rest ≡ Some k → Plain k → same k t.comma ≡ false → same k t.assign ≡ false → SpecEnds rest
spec_ends rest k e p c a = record { ends = ends_by 1 rest k e p; no_comma = is_other (kind_of rest) k t.comma e c; no_assign = is_other (kind_of rest) k t.assign e a }

assign_no_type : (e : Word) (v : List Word) → e.kind ≡ t.assign → begins_type (kind_of (e ∷ v)) ≡ false
unfolding begins_type
assign_no_type e v k = rw k refl

const_step : (n d h h' : ℕ) (a e : Word) (o : Option TypeExpr) (x : Expr) (ts us rest : List Word) → a.kind ≡ kind.Name → e.kind ≡ t.assign → maybe_type d ts ≡ (Ok (o, h), e ∷ us) → expr n d 1 us ≡ (Ok (x, h'), rest)
    → const_spec n d (a ∷ ts) ≡ (Ok (record { name = name_of a; kind = o; value = x }, max h h'), rest)
unfolding const_spec expect_as
const_step n d h h' a e o x ts us rest ka ke m r = rw (sees a ts kind.Name ka, m, sees e us t.assign ke, r) refl

const_read : (n d h : ℕ) (c : ConstSpec) (w : List Word) → IsConstSpec h c w → h ≤ d → length w < n → (rest : List Word) → SpecEnds rest → const_spec n d (w ++ rest) ≡ (Ok (c, h), rest)
const_read n d _ _ _ (const_spec' a e l h h' o x u v ka i ke j) le long rest f =
    let len = length-append u (e ∷ v) in
    rw append_assoc (const_step n d h h' a e o x (u ++ (e ∷ (v ++ rest))) (v ++ rest) rest ka ke
    (maybe_type_read d h o u i (omega arith) (e ∷ (v ++ rest)) (is_other (kind_of (e ∷ (v ++ rest))) t.assign t.point (kind_is e (v ++ rest) t.assign ke) refl) (assign_no_type e (v ++ rest) ke))
    (expr_read n d l h' x v j (omega arith) (omega arith) 1 (leveled l h' x v j) (omega arith) rest f.ends))

const_begins : (h : ℕ) (c : ConstSpec) (w : List Word) → IsConstSpec h c w → (rest : List Word) → kind_of (w ++ rest) ≡ Some kind.Name
const_begins _ _ _ (const_spec' a e l h h' o x u v ka i ke j) rest = kind_is a (u ++ e ∷ v ++ rest) kind.Name ka

const_some : (d h : ℕ) (c : ConstSpec) (w : List Word) → IsConstSpec h c w → h ≤ d → 1 ≤ d
const_some d _ _ _ (const_spec' a e l h h' o x u v ka i ke j) le = let s = tall l h' x v j in omega arith

semicolon_ends : (s : Word) (v : List Word) → s.kind ≡ t.semicolon → SpecEnds (s ∷ v)
semicolon_ends s v e = spec_ends (s ∷ v) t.semicolon (kind_is s v t.semicolon e) plain_semicolon refl refl

parenthesis_ends : (rest : List Word) → kind_of rest ≡ Some t.right_parenthesis → SpecEnds rest
parenthesis_ends rest e = spec_ends rest t.right_parenthesis e plain_parenthesis refl refl

pub consts_read : (n d h end : ℕ) (cs : List ConstSpec) (w : List Word) → IsConsts h cs end w → h ≤ d → length w < n → (rest : List Word) → SpecEnds rest → consts n d (w ++ rest) ≡ (Ok ((cs, end), h), rest)
unfolding consts
consts_read n d h end cs w i le long rest f =
    group_reads kind.Name refl refl IsConstSpec (const_spec n d) const_end SpecEnds d n (λ h' x u j hh hl r g. const_read n d h' x u j hh hl r g) semicolon_ends parenthesis_ends const_begins (const_some d) h cs end w i le long rest f

-- ---- variables

name_begins : (h : ℕ) (x : Name) (w : List Word) → IsName h x w → (rest : List Word) → kind_of (w ++ rest) ≡ Some kind.Name
name_begins _ _ _ (name n k) rest = kind_is n rest kind.Name k

names_tall : (h : ℕ) (ns : List Name) (w : List Word) → IsRow t.comma IsName h ns w → (rest : List Word) → kind_of (w ++ rest) ≡ Some kind.Name
names_tall _ _ _ (one_item h x w i) rest = name_begins h x w i rest
names_tall _ _ _ (more_items s h h' x xs w v i k j) rest = rw append_assoc (name_begins h x w i (s ∷ v ++ rest))

pub names_begin : (ns : List Name) (w : List Word) → IsNames ns w → (rest : List Word) → kind_of (w ++ rest) ≡ Some kind.Name
names_begin ns w i rest = names_tall 0 ns w i rest

typed_step : (n d h : ℕ) (ns : List Name) (of : TypeExpr) (ts us rest : List Word) → names n ts ≡ (Ok ns, us) → maybe_type d us ≡ (Ok (Some of, h), rest) → is (kind_of rest) t.assign ≡ false
    → var_spec n d ts ≡ (Ok (record { names = ns; kind = Some of; values = [] }, h), rest)
unfolding var_spec
typed_step n d h ns of ts us rest a m other = rw (a, m, other) refl

untyped_step : (n d h : ℕ) (ns : List Name) (es : List Expr) (e : Word) (ts us rest : List Word) → names n ts ≡ (Ok ns, e ∷ us) → maybe_type d (e ∷ us) ≡ (Ok (None, 0), e ∷ us) → e.kind ≡ t.assign → exprs n d us ≡ (Ok (es, h), rest)
    → var_spec n d ts ≡ (Ok (record { names = ns; kind = None; values = es }, max 0 h), rest)
unfolding var_spec values_of expect_as
untyped_step n d h ns es e ts us rest a m ke r = rw (a, m, sees e us t.assign ke, r) refl

valued_step : (n d h h' : ℕ) (ns : List Name) (of : TypeExpr) (es : List Expr) (e : Word) (ts us vs rest : List Word) → names n ts ≡ (Ok ns, us) → maybe_type d us ≡ (Ok (Some of, h), e ∷ vs) → e.kind ≡ t.assign → exprs n d vs ≡ (Ok (es, h'), rest)
    → var_spec n d ts ≡ (Ok (record { names = ns; kind = Some of; values = es }, max h h'), rest)
unfolding var_spec values_of expect_as
valued_step n d h h' ns of es e ts us vs rest a m ke r = rw (a, m, sees e vs t.assign ke, sees e vs t.assign ke, r) refl

not_comma : (o : Option TokenKind) → begins_type o ≡ true → is o t.comma ≡ false
unfolding begins_type
not_comma None b = refl
not_comma (Some kind.Name) b = refl
not_comma (Some kind.Int) b = refl
not_comma (Some kind.Rune) b = refl
not_comma (Some kind.Text) b = refl
not_comma (Some (kind.Keyword p)) b = refl
not_comma (Some (kind.Operator p)) b = absurd cc

type_kind : (h : ℕ) (k : TypeExpr) (w : List Word) → IsType h k w → (rest : List Word) → is (kind_of (w ++ rest)) t.comma ≡ false
type_kind h k w i rest = not_comma (kind_of (w ++ rest)) (type_begins h k w i rest)

pub type_not_comma : (h : ℕ) (k : TypeExpr) (w : List Word) → IsType h k w → (rest : List Word) → is (kind_of (w ++ rest)) t.comma ≡ false
type_not_comma h k w i rest = type_kind h k w i rest

maybe_some : (d h : ℕ) (of : TypeExpr) (w : List Word) → IsType h of w → h ≤ d → (rest : List Word) → is (kind_of rest) t.point ≡ false → maybe_type d (w ++ rest) ≡ (Ok (Some of, h), rest)
unfolding maybe_type
maybe_some d h of w j le rest other = rw (type_begins h of w j rest, type_read d h of w j le rest other) refl

var_read : (n d h : ℕ) (x : VarSpec) (w : List Word) → IsVarSpec h x w → h ≤ d → length w < n → (rest : List Word) → SpecEnds rest → begins_type (kind_of rest) ≡ begins_type (kind_of rest) → var_spec n d (w ++ rest) ≡ (Ok (x, h), rest)
var_read n d _ _ _ (typed_var h ns of u w i j) le long rest f _ =
    let len = length-append u w in
    rw append_assoc (typed_step n d h ns of (u ++ (w ++ rest)) (w ++ rest) rest (names_read n ns u i (omega arith) (w ++ rest) (type_kind h of w j rest)) (maybe_some d h of w j le rest f.ends.suffix.no_point) f.no_assign)
var_read n d _ _ _ (valued_var e h h' ns _ es u _ v i no_type ke j) le long rest f _ =
    let len = length-append u (e ∷ v) in
    rw append_assoc (untyped_step n d h' ns es e (u ++ (e ∷ (v ++ rest))) (v ++ rest) rest (names_read n ns u i (omega arith) (e ∷ (v ++ rest)) (is_other (kind_of (e ∷ (v ++ rest))) t.assign t.comma (kind_is e (v ++ rest) t.assign ke) refl))
    (maybe_type_read d 0 None [] no_type (omega arith) (e ∷ (v ++ rest)) (is_other (kind_of (e ∷ (v ++ rest))) t.assign t.point (kind_is e (v ++ rest) t.assign ke) refl) (assign_no_type e (v ++ rest) ke)) ke
    (exprs_read n d h' es v j (omega arith) (omega arith) rest f.ends f.no_comma))
var_read n d _ _ _ (valued_var e h h' ns _ es u _ v i (some_type k of w y) ke j) le long rest f _ =
    let len = length-append u (w ++ e ∷ v) in
    let len' = length-append w (e ∷ v) in
    rw (append_assoc, append_assoc) (valued_step n d k h' ns of es e (u ++ (w ++ (e ∷ (v ++ rest)))) (w ++ (e ∷ (v ++ rest))) (v ++ rest) rest (names_read n ns u i (omega arith) (w ++ (e ∷ (v ++ rest))) (type_kind k of w y (e ∷ (v ++ rest))))
    (maybe_type_read d k (Some of) w (some_type k of w y) (omega arith) (e ∷ (v ++ rest)) (is_other (kind_of (e ∷ (v ++ rest))) t.assign t.point (kind_is e (v ++ rest) t.assign ke) refl) (assign_no_type e (v ++ rest) ke)) ke
    (exprs_read n d h' es v j (omega arith) (omega arith) rest f.ends f.no_comma))

var_begins : (h : ℕ) (x : VarSpec) (w : List Word) → IsVarSpec h x w → (rest : List Word) → kind_of (w ++ rest) ≡ Some kind.Name
var_begins _ _ _ (typed_var h ns of u w i j) rest = rw append_assoc (names_begin ns u i (w ++ rest))
var_begins _ _ _ (valued_var e h h' ns o es u w v i y ke j) rest = rw append_assoc (names_begin ns u i (w ++ e ∷ v ++ rest))

pub exprs_tall : (h : ℕ) (es : List Expr) (w : List Word) → IsExprs h es w → 1 ≤ h
exprs_tall _ _ _ (one_expr l h e w i) = tall l h e w i
exprs_tall _ _ _ (more_exprs c l h h' e es w v i k j) = let s = tall l h e w i in omega arith

var_some : (d h : ℕ) (x : VarSpec) (w : List Word) → IsVarSpec h x w → h ≤ d → 1 ≤ d
var_some d _ _ _ (typed_var h ns of u w i j) le = let s = type_tall h of w j in omega arith
var_some d _ _ _ (valued_var e h h' ns o es u w v i y ke j) le = let s = exprs_tall h' es v j in omega arith

pub vars_read : (n d h end : ℕ) (vs : List VarSpec) (w : List Word) → IsVars h vs end w → h ≤ d → length w < n → (rest : List Word) → SpecEnds rest → vars n d (w ++ rest) ≡ (Ok ((vs, end), h), rest)
unfolding vars
vars_read n d h end vs w i le long rest f =
    group_reads kind.Name refl refl IsVarSpec (var_spec n d) var_end SpecEnds d n (λ h' x u j hh hl r g. var_read n d h' x u j hh hl r g refl) semicolon_ends parenthesis_ends var_begins (var_some d) h vs end w i le long rest f
