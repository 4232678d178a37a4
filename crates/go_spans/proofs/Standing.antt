-- The tokens of a text stand in it.
use Rattle.std.proofs.Common.{◌≡◌, ℕ, ◌+◌, ◌≤◌, Bool, true, false, cond, List, [], ◌∷◌, Option, Some, None, sym, ap, ◌∙◌, subst, length, arith}
use Rattle.std.specs.Prelude.{All}
use Rattle.std.proofs.lemmas.List.{length-append}
use Rattle.std.proofs.lemmas.List.Elements.{All-nil, All-cons, All-append}
use Rattle.go_ast.specs.declared.token.PieceForm.{PieceForm}
use Rattle.go_ast.specs.declared.token.PieceForm.TheVariants as form
use Rattle.go_ast.specs.declared.token.TokenKind.{TokenKind}
use Rattle.go_ast.specs.declared.token.TokenKind.TheVariants as kind
use Rattle.go_ast.specs.declared.token.Token.{Token}
use Rattle.go_ast.specs.Pieces.{Piece, Divides}
use Rattle.go_ast.specs.Tokens.{kind_of, ends_line, token, inserted, token_of, tokens_by, needed_behind, needed_after, tokens_from, HasTokens}
use Rattle.go_spans.specs.Spans.{IsUpTo}

-- a place up to there, or none
abbrev Needed : Option ℕ → ℕ → Type 0
Needed None end = Unit {0}
Needed (Some at) end = at ≤ end

needed_up : (o : Option ℕ) (end more : ℕ) → end ≤ more → Needed o end → Needed o more
needed_up None end more le h = tt
needed_up (Some at) end more le h = omega arith

module _ (high : ℕ) where
  one_token : (k : TokenKind) (start end : ℕ) → start ≤ end → end ≤ high → All (IsUpTo high) (token k start end ∷ [])
  one_token k start end le up = All-cons (IsUpTo high) (token k start end) [] (le, up) (All-nil (IsUpTo high))

  semicolon_in : (o : Option ℕ) (end : ℕ) → end ≤ high → Needed o end → All (IsUpTo high) (inserted o)
  semicolon_in None end up h = All-nil (IsUpTo high)
  semicolon_in (Some at) end up h = one_token (kind.Operator 45) at at (omega arith) (omega arith)

  token_in : (o : Option TokenKind) (start end : ℕ) → start ≤ end → end ≤ high → All (IsUpTo high) (token_of o start end)
  token_in None start end le up = All-nil (IsUpTo high)
  token_in (Some k) start end le up = one_token k start end le up

  tokens_in : (f : PieceForm) (bytes : List ℕ) (start end : ℕ) (o : Option ℕ) → start ≤ end → end ≤ high → Needed o start → All (IsUpTo high) (tokens_by f bytes start end o)
  tokens_in form.Line bytes start end o le up h = semicolon_in o start (omega arith) h
  tokens_in form.Blank bytes start end o le up h = token_in (kind_of form.Blank bytes) start end le up
  tokens_in form.Opening bytes start end o le up h = token_in (kind_of form.Opening bytes) start end le up
  tokens_in form.Word bytes start end o le up h = token_in (kind_of form.Word bytes) start end le up
  tokens_in form.Number bytes start end o le up h = token_in (kind_of form.Number bytes) start end le up
  tokens_in form.Rune bytes start end o le up h = token_in (kind_of form.Rune bytes) start end le up
  tokens_in form.Quoted bytes start end o le up h = token_in (kind_of form.Quoted bytes) start end le up
  tokens_in form.Raw bytes start end o le up h = token_in (kind_of form.Raw bytes) start end le up
  tokens_in (form.Operator place) bytes start end o le up h = token_in (kind_of (form.Operator place) bytes) start end le up

  by_end : (b : Bool) (end : ℕ) → Needed (cond b (Some end) None) end
  by_end true end = omega arith
  by_end false end = tt

  behind_in : (k : Option TokenKind) (end : ℕ) (o : Option ℕ) → Needed o end → Needed (needed_behind k end o) end
  behind_in None end o h = h
  behind_in (Some k) end o h = by_end (ends_line k) end

  after_in : (f : PieceForm) (bytes : List ℕ) (end : ℕ) (o : Option ℕ) → Needed o end → Needed (needed_after f bytes end o) end
  after_in form.Line bytes end o h = tt
  after_in form.Blank bytes end o h = behind_in (kind_of form.Blank bytes) end o h
  after_in form.Opening bytes end o h = behind_in (kind_of form.Opening bytes) end o h
  after_in form.Word bytes end o h = behind_in (kind_of form.Word bytes) end o h
  after_in form.Number bytes end o h = behind_in (kind_of form.Number bytes) end o h
  after_in form.Rune bytes end o h = behind_in (kind_of form.Rune bytes) end o h
  after_in form.Quoted bytes end o h = behind_in (kind_of form.Quoted bytes) end o h
  after_in form.Raw bytes end o h = behind_in (kind_of form.Raw bytes) end o h
  after_in (form.Operator place) bytes end o h = behind_in (kind_of (form.Operator place) bytes) end o h

  all_in : (start : ℕ) (o : Option ℕ) (pieces : List Piece) (text : List ℕ) → Divides text pieces [] → start + length text ≤ high → Needed o start → All (IsUpTo high) (tokens_from start o pieces)
  all_in start o [] text divides up h = semicolon_in o start (omega arith) h
  all_in start o (p ∷ ps) text divides up h =
      let more : List ℕ = divides.0 in
      let end : ℕ = start + length p.bytes in
      let long : length text ≡ length p.bytes + length more = ap length divides.1 ∙ length-append p.bytes more in
      All-append (IsUpTo high) (tokens_by p.form p.bytes start end o) (tokens_from end (needed_after p.form p.bytes end o) ps)
      (tokens_in p.form p.bytes start end o (omega arith) (omega arith) h)
      (all_in end (needed_after p.form p.bytes end o) ps more divides.5 (omega arith) (after_in p.form p.bytes end o (needed_up o start end (omega arith) h)))

pub tokens_within : (text : List ℕ) (tokens : List Token) → HasTokens text tokens → All (IsUpTo (length text)) tokens
tokens_within text tokens has =
    subst (All (IsUpTo (length text))) (sym has.2) (all_in (length text) 0 None has.0 text has.1 (omega arith) tt)
