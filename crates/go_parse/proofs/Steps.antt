-- Steps of loops and of readers that call themselves.
use Rattle.std.proofs.Common.{◌≡◌, ◌≢◌, ℕ, zero, suc, ◌-◌, ◌<◌, ◌+◌, refl, ap, arith, sym, ◌∙◌, true, Option, Some, None, List, Ok}
use Rattle.std.proofs.Math.Numerals.{sub-one}
use Rattle.go_ast.specs.declared.token.TokenKind.{TokenKind}
use Rattle.go_ast.specs.declared.token.TokenKind.TheVariants as kind
use Rattle.go_ast.specs.declared.span.Span.{Span}
use Rattle.go_grammar.specs.Words.{Word}
use Rattle.go_reading.specs.Input.{kind_of, take_as, take_span, expect_as, expect}
use Rattle.go_reading.specs.Kinds.{is}
use Rattle.go_reading.specs.Exprs.{expr, deeper}
use Rattle.go_reading.specs.Types.{type_, type_in}

-- one turn of a loop
pub one_more : {X : Type 0} {x : X} (f : ℕ → X) (n at : ℕ) → at < n → f (n - at) ≡ x → x ≡ f (suc (n - (at + 1)))
one_more f n at below e = let turn : n - at ≡ suc (n - (at + 1)) = omega arith in sym e ∙ ap f turn

pub expr_inner : (n d least : ℕ) → d ≢ 0 → expr n d least ≡ deeper n (d - 1) (expr n (d - 1)) least
unfolding expr
expr_inner n zero least h = absurd (h refl)
expr_inner n (suc d) least h = rw sub-one refl

pub type_inner : (d : ℕ) → d ≢ 0 → type_ d ≡ type_in (d - 1) (type_ (d - 1))
unfolding type_
type_inner zero h = absurd (h refl)
type_inner (suc d) h = rw sub-one refl

-- ---- kinds

pub is_rune : (o : Option TokenKind) → is o kind.Rune ≡ true → o ≡ Some kind.Rune
is_rune None e = absurd cc
is_rune (Some kind.Name) e = absurd cc
is_rune (Some kind.Int) e = absurd cc
is_rune (Some kind.Rune) e = refl
is_rune (Some kind.Text) e = absurd cc
is_rune (Some (kind.Keyword place)) e = absurd cc
is_rune (Some (kind.Operator place)) e = absurd cc

pub is_text : (o : Option TokenKind) → is o kind.Text ≡ true → o ≡ Some kind.Text
is_text None e = absurd cc
is_text (Some kind.Name) e = absurd cc
is_text (Some kind.Int) e = absurd cc
is_text (Some kind.Rune) e = absurd cc
is_text (Some kind.Text) e = refl
is_text (Some (kind.Keyword place)) e = absurd cc
is_text (Some (kind.Operator place)) e = absurd cc

-- what is seen may be taken as what is expected
pub expect_taken : (wanted : TokenKind) (ts rest : List Word) (span : Span) → is (kind_of ts) wanted ≡ true → take_span ts ≡ (Ok span, rest) → expect wanted ts ≡ (Ok span, rest)
unfolding expect_as take_as
expect_taken wanted ts rest span sees e = rw sees e
