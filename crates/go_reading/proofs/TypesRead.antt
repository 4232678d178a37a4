-- Names and types that the grammar derives are read.
use Rattle.std.proofs.Common.{◌≡◌, ℕ, zero, suc, ◌+◌, ◌≤◌, ◌<◌, true, false, List, [], ◌∷◌, ◌++◌, Option, Some, None, length, Ok, refl, arith}
use Rattle.std.proofs.lemmas.Bool.{le-ltb}
use Rattle.go_ast.specs.declared.name.Name.{Name}
use Rattle.go_ast.specs.declared.token.TokenKind.TheVariants as kind
use Rattle.go_ast.specs.declared.expr.TypeExpr.{TypeExpr}
use Rattle.go_grammar.specs.Words.{Word}
use Rattle.go_grammar.specs.Terminals as t
use Rattle.go_grammar.specs.Trees.{name_of, chan_type}
use Rattle.go_grammar.specs.Types.{IsName, name, IsNames, IsType, plain, member, channel, IsMaybeType, no_type, some_type}
use Rattle.go_reading.specs.declared.qualified.Qualified.{Qualified}
use Rattle.go_reading.specs.Kinds.{is, begins_type}
use Rattle.go_reading.specs.Input.{Reader, Tall, kind_of, take_as, expect_as}
use Rattle.go_reading.specs.Types.{name_item, names, qualified, type_of, type_in, type_, maybe_type}
use Rattle.go_reading.proofs.RowsRead.{sees, kind_is, is_other, row_reads}
use Rattle.go_reading.proofs.TypesGood.{IsQualified, alone, pair}

-- ---- names

name_read : (h : ℕ) (n : Name) (w : List Word) → IsName h n w → (rest : List Word) → name_item (w ++ rest) ≡ (Ok (n, h), rest)
unfolding expect_as
name_read _ _ _ (name n k) rest = rw (sees n rest kind.Name k) refl

pub names_read : (n : ℕ) (ns : List Name) (w : List Word) → IsNames ns w → length w < n → (rest : List Word) → is (kind_of rest) t.comma ≡ false → names n (w ++ rest) ≡ (Ok ns, rest)
unfolding names
names_read n ns w i lt rest other =
    rw (row_reads t.comma IsName name_item (λ r. Unit {0}) 0 n (λ h x u j hh hl r f. name_read h x u j r) (λ s v e. tt) 0 ns w i (omega arith) (omega arith) n lt [] 0 rest tt other) refl

-- ---- a name, or two

pub qualified_read : (c : ℕ) → 1 ≤ c → (q : Qualified) (w : List Word) → IsQualified q w → (rest : List Word) → is (kind_of rest) t.point ≡ false → qualified c (w ++ rest) ≡ (Ok q, rest)
unfolding qualified expect_as take_as
qualified_read c some _ _ (alone n k) rest other = rw (sees n rest kind.Name k, other) refl
qualified_read c some _ _ (pair p d n kp kd kn) rest other = rw (sees p (d ∷ n ∷ rest) kind.Name kp, sees d (n ∷ rest) t.point kd, le-ltb c 1 some, sees n rest kind.Name kn) refl

-- a name alone needs no level
pub alone_read : (c : ℕ) (n : Word) → n.kind ≡ kind.Name → (rest : List Word) → is (kind_of rest) t.point ≡ false → qualified c (n ∷ rest) ≡ (Ok (record { name = name_of n; member = None; end = n.span.end }), rest)
unfolding qualified expect_as take_as
alone_read c n k rest other = rw (sees n rest kind.Name k, other) refl

pub qualified_kind : (q : Qualified) (w : List Word) → IsQualified q w → (rest : List Word) → kind_of (w ++ rest) ≡ Some kind.Name
qualified_kind _ _ (alone n k) rest = kind_is n rest kind.Name k
qualified_kind _ _ (pair p d n kp kd kn) rest = kind_is p (d ∷ n ∷ rest) kind.Name kp

-- ---- types

type_step : (d : ℕ) (of : Reader (Tall TypeExpr)) (q : Qualified) (w : List Word) → IsQualified q w → (rest : List Word) → is (kind_of rest) t.point ≡ false → type_in d of (w ++ rest) ≡ (Ok (type_of q, 1), rest)
unfolding type_in
type_step d of q w i rest other = rw (is_other (kind_of (w ++ rest)) kind.Name t.chan_word (qualified_kind q w i rest) refl, qualified_read 1 (omega arith) q w i rest other) refl

chan_step : (d : ℕ) (of : Reader (Tall TypeExpr)) (c : Word) (h : ℕ) (x : TypeExpr) (ts rest : List Word) → c.kind ≡ t.chan_word → 1 ≤ d → of ts ≡ (Ok (x, h), rest) → type_in d of (c ∷ ts) ≡ (Ok (chan_type c x, h + 1), rest)
unfolding type_in take_as
chan_step d of c h x ts rest k some r = rw (sees c ts t.chan_word k, le-ltb d 1 some, r) refl

pub type_tall : (h : ℕ) (k : TypeExpr) (w : List Word) → IsType h k w → 1 ≤ h
type_tall _ _ _ (plain n k) = omega arith
type_tall _ _ _ (member p d n kp kd kn) = omega arith
type_tall _ _ _ (channel c h of w k i) = omega arith

pub type_read : (d h : ℕ) (k : TypeExpr) (w : List Word) → IsType h k w → h ≤ d → (rest : List Word) → is (kind_of rest) t.point ≡ false → type_ d (w ++ rest) ≡ (Ok (k, h), rest)
unfolding type_
type_read zero h k w i le rest other = let some = type_tall h k w i in absurd (omega arith)
type_read (suc d) _ _ _ (plain n k) le rest other = type_step d (type_ d) (record { name = name_of n; member = None; end = n.span.end }) (n ∷ []) (alone n k) rest other
type_read (suc d) _ _ _ (member p m n kp km kn) le rest other = type_step d (type_ d) (record { name = name_of p; member = Some (name_of n); end = n.span.end }) (p ∷ m ∷ n ∷ []) (pair p m n kp km kn) rest other
type_read (suc d) _ _ _ (channel c h of w k i) le rest other =
    let some = type_tall h of w i in
    chan_step d (type_ d) c h of (w ++ rest) rest k (omega arith) (type_read d h of w i (omega arith) rest other)

pub type_begins : (h : ℕ) (k : TypeExpr) (w : List Word) → IsType h k w → (rest : List Word) → begins_type (kind_of (w ++ rest)) ≡ true
unfolding begins_type
type_begins _ _ _ (plain n k) rest = rw k refl
type_begins _ _ _ (member p d n kp kd kn) rest = rw kp refl
type_begins _ _ _ (channel c h of w k i) rest = rw k refl

maybe_step : (d h : ℕ) (k : TypeExpr) (ts rest : List Word) → begins_type (kind_of ts) ≡ true → type_ d ts ≡ (Ok (k, h), rest) → maybe_type d ts ≡ (Ok (Some k, h), rest)
unfolding maybe_type
maybe_step d h k ts rest b r = rw (b, r) refl

pub maybe_type_read : (d h : ℕ) (o : Option TypeExpr) (w : List Word) → IsMaybeType h o w → h ≤ d → (rest : List Word) → is (kind_of rest) t.point ≡ false → begins_type (kind_of rest) ≡ false → maybe_type d (w ++ rest) ≡ (Ok (o, h), rest)
unfolding maybe_type
maybe_type_read d _ _ _ no_type le rest other none = rw none refl
maybe_type_read d _ _ _ (some_type h of w i) le rest other none = maybe_step d h of (w ++ rest) rest (type_begins h of w i rest) (type_read d h of w i le rest other)
