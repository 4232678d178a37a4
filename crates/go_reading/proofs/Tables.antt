-- What the tables of kinds say.
use Rattle.std.proofs.Common.{◌≡◌, ◌≤◌, ◌<◌, Bool, true, false, cond, List, [], ◌∷◌, Option, Some, None, refl, sym, ap, subst, ◌∙◌, arith}
use Rattle.std.specs.List.{AllByRecursion}
use Rattle.go_ast.specs.declared.token.TokenKind.{TokenKind}
use Rattle.go_ast.specs.declared.expr.BinaryOp.{BinaryOp}
use Rattle.go_ast.specs.declared.expr.BinaryOp.TheVariants as op
use Rattle.go_ast.specs.declared.expr.UnaryOp.{UnaryOp}
use Rattle.go_ast.specs.declared.expr.UnaryOp.TheVariants as sign
use Rattle.go_grammar.specs.Terminals as t
use Rattle.go_grammar.specs.Trees.{binary_kind, unary_kind, update_kind, level}
use Rattle.go_reading.specs.declared.sign.Sign.{Sign}
use Rattle.go_reading.specs.declared.sign.Sign.TheVariants as s
use Rattle.go_reading.specs.Kinds.{is, find_in, binaries, binary_op, unaries, unary_op, signs, or_other, sign_of}
use Rattle.go_reading.proofs.Good.{is_is}

abbrev some_of : {A : Type 0} → A → Option A
some_of a = Some a

some_same : {A : Type 0} (a b : A) → some_of a ≡ some_of b → a ≡ b
some_same a b e = cc

-- each entry that is found has what all entries have
found_at : {A : Type 0} (P : TokenKind → A → Type 0) (x : TokenKind × A) (a : A) (k : Option TokenKind) (rest : Option A) (b : Bool) → is k x.0 ≡ b → P x.0 x.1 → (rest ≡ Some a → (o : TokenKind) × (k ≡ Some o) × P o a)
    → cond b (some_of x.1) rest ≡ Some a → (o : TokenKind) × (k ≡ Some o) × P o a
found_at P x a k rest true y p f e = (x.0, is_is k x.0 y, let q : x.1 ≡ a = some_same x.1 a e in subst (P x.0) q p)
found_at P x a k rest false y p f e = f e

found : {A : Type 0} (P : TokenKind → A → Type 0) (entries : List (TokenKind × A)) → AllByRecursion (λ e. P e.0 e.1) entries → (k : Option TokenKind) (a : A) → find_in entries k ≡ Some a → (o : TokenKind) × (k ≡ Some o) × P o a
found P [] all k a e = absurd cc
found P (x ∷ xs) all k a e = found_at P x a k (find_in xs k) (is k x.0) refl all.0 (λ f. found P xs all.1 k a f) e

pub binary_sound : (k : Option TokenKind) (o : BinaryOp) → binary_op k ≡ Some o → k ≡ Some (binary_kind o)
unfolding binary_op
binary_sound k o e =
    let f = found (λ kind op. kind ≡ binary_kind op) binaries (refl, (refl, (refl, (refl, (refl, (refl, (refl, (refl, (refl, (refl, (refl, (refl, (refl, (refl, (refl, (refl, (refl, (refl, (refl, tt))))))))))))))))))) k o e in
    f.1 ∙ ap (λ (x : TokenKind). Some x) f.2

pub unary_sound : (k : Option TokenKind) (o : UnaryOp) → unary_op k ≡ Some o → k ≡ Some (unary_kind o)
unfolding unary_op
unary_sound k o e =
    let f = found (λ kind op. kind ≡ unary_kind op) unaries (refl, (refl, (refl, (refl, (refl, tt))))) k o e in
    f.1 ∙ ap (λ (x : TokenKind). Some x) f.2

pub binary_of : (o : BinaryOp) → binary_op (Some (binary_kind o)) ≡ Some o
unfolding binary_op
binary_of op.Mul = refl
binary_of op.Div = refl
binary_of op.Rem = refl
binary_of op.Shl = refl
binary_of op.Shr = refl
binary_of op.And = refl
binary_of op.AndNot = refl
binary_of op.Add = refl
binary_of op.Sub = refl
binary_of op.Or = refl
binary_of op.Xor = refl
binary_of op.Equal = refl
binary_of op.NotEqual = refl
binary_of op.Less = refl
binary_of op.LessEqual = refl
binary_of op.Greater = refl
binary_of op.GreaterEqual = refl
binary_of op.BothOf = refl
binary_of op.EitherOf = refl

pub unary_of : (o : UnaryOp) → unary_op (Some (unary_kind o)) ≡ Some o
unfolding unary_op
unary_of sign.Plus = refl
unary_of sign.Minus = refl
unary_of sign.Not = refl
unary_of sign.Flip = refl
unary_of sign.Receive = refl

-- what a sign says of its token
abbrev pub SignIs : TokenKind → Sign → Type 0
SignIs k s.Arrow = k ≡ t.arrow
SignIs k s.Up = k ≡ t.increment
SignIs k s.Down = k ≡ t.decrement
SignIs k (s.Update op) = update_kind op ≡ Some k
SignIs k s.Comma = k ≡ t.comma
SignIs k s.Assign = k ≡ t.assign
SignIs k s.Define = k ≡ t.define
SignIs k s.Other = ⊥

abbrev pub SignOf : Option TokenKind → Sign → Type 0
SignOf k s.Other = Unit {0}
SignOf k sign = (o : TokenKind) × (k ≡ Some o) × SignIs o sign

other_or : (o : Option Sign) (sign : Sign) → or_other o ≡ sign → (k : Option TokenKind) → ((a : Sign) → o ≡ Some a → (x : TokenKind) × (k ≡ Some x) × SignIs x a) → SignOf k sign
other_or None _ e k f = rw (sym e) tt
other_or (Some s.Arrow) _ e k f = rw (sym e) (f s.Arrow refl)
other_or (Some s.Up) _ e k f = rw (sym e) (f s.Up refl)
other_or (Some s.Down) _ e k f = rw (sym e) (f s.Down refl)
other_or (Some (s.Update o)) _ e k f = rw (sym e) (f (s.Update o) refl)
other_or (Some s.Comma) _ e k f = rw (sym e) (f s.Comma refl)
other_or (Some s.Assign) _ e k f = rw (sym e) (f s.Assign refl)
other_or (Some s.Define) _ e k f = rw (sym e) (f s.Define refl)
other_or (Some s.Other) _ e k f = rw (sym e) tt

pub sign_sound : (k : Option TokenKind) (sign : Sign) → sign_of k ≡ sign → SignOf k sign
unfolding sign_of
sign_sound k sign e =
    other_or (find_in signs k) sign e k (λ a f. found SignIs signs (refl, (refl, (refl, (refl, (refl, (refl, (refl, (refl, (refl, (refl, (refl, (refl, (refl, (refl, (refl, (refl, (refl, tt))))))))))))))))) k a f)

pub level_small : (o : BinaryOp) → level o < 6
level_small op.Mul = omega arith
level_small op.Div = omega arith
level_small op.Rem = omega arith
level_small op.Shl = omega arith
level_small op.Shr = omega arith
level_small op.And = omega arith
level_small op.AndNot = omega arith
level_small op.Add = omega arith
level_small op.Sub = omega arith
level_small op.Or = omega arith
level_small op.Xor = omega arith
level_small op.Equal = omega arith
level_small op.NotEqual = omega arith
level_small op.Less = omega arith
level_small op.LessEqual = omega arith
level_small op.Greater = omega arith
level_small op.GreaterEqual = omega arith
level_small op.BothOf = omega arith
level_small op.EitherOf = omega arith

pub level_some : (o : BinaryOp) → 1 ≤ level o
level_some op.Mul = omega arith
level_some op.Div = omega arith
level_some op.Rem = omega arith
level_some op.Shl = omega arith
level_some op.Shr = omega arith
level_some op.And = omega arith
level_some op.AndNot = omega arith
level_some op.Add = omega arith
level_some op.Sub = omega arith
level_some op.Or = omega arith
level_some op.Xor = omega arith
level_some op.Equal = omega arith
level_some op.NotEqual = omega arith
level_some op.Less = omega arith
level_some op.LessEqual = omega arith
level_some op.Greater = omega arith
level_some op.GreaterEqual = omega arith
level_some op.BothOf = omega arith
level_some op.EitherOf = omega arith
