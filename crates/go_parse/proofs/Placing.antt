-- The tokens of a text stand in it, and their literals have values.
use Rattle.std.proofs.Common.{◌≡◌, ℕ, ◌+◌, ◌-◌, ◌≤◌, List, [], ◌∷◌, ◌++◌, length, take, drop, get_or, Option, Some, None, true, false, Bool, cond, inl, inr, refl, sym, ap, subst, ◌∙◌, arith, append_assoc}
use Rattle.std.proofs.Math.Seq.{drop-append_seam}
use Rattle.std.proofs.lemmas.List.{take_at, length-append}
use Rattle.std.specs.List.{AllByRecursion, slice_range}
use Rattle.go_ast.specs.declared.token.PieceForm.{PieceForm}
use Rattle.go_ast.specs.declared.token.PieceForm.TheVariants as form
use Rattle.go_ast.specs.declared.token.Token.{Token}
use Rattle.go_ast.specs.declared.token.TokenKind.{TokenKind}
use Rattle.go_ast.specs.declared.token.TokenKind.TheVariants as kind
use Rattle.go_ast.specs.Words.{keywords, place_in}
use Rattle.go_ast.specs.Literals.{inner, IsRuneBody}
use Rattle.go_ast.specs.Pieces.{Piece, Divides, HasForm, IsMeant}
use Rattle.go_ast.specs.Tokens.{HasTokens, tokens_from, tokens_by, token_of, inserted, kind_of, word_kind, needed_after, needed_behind, ends_line}
use Rattle.go_grammar.specs.Words.{Word, words_of}
use Rattle.go_reading.specs.Input as input
use Rattle.go_parse.specs.Placed.{IsPlaced, ArePlaced, IsLiteral, IsTextLiteral}

all_append : {X : Type 0} (P : X → Type 0) (xs ys : List X) → AllByRecursion P xs → AllByRecursion P ys → AllByRecursion P (xs ++ ys)
all_append P [] ys a b = b
all_append P (x ∷ xs) ys a b = (a.0, all_append P xs ys a.1 b)

-- ---- the next token

abbrev pub some_kind : TokenKind → Option TokenKind
some_kind k = Some k

same_kind : (a b : TokenKind) → some_kind a ≡ some_kind b → a ≡ b
same_kind a b e = cc

pub first_placed : (text : List ℕ) (tokens : List Token) (d : Token) → 1 ≤ length tokens → ArePlaced text tokens → IsPlaced text (get_or tokens 0 d)
first_placed text [] d some are = absurd (omega arith)
first_placed text (t ∷ ts) d some are = are.0

pub rest_placed : (text : List ℕ) (tokens : List Token) → ArePlaced text tokens → ArePlaced text (drop 1 tokens)
rest_placed text [] are = are
rest_placed text (t ∷ ts) are = are.1

abbrev pub no_token : Token
no_token = record { kind = kind.Name; span = record { start = 0; end = 0 } }

-- the bytes of the next token
abbrev pub bytes_of : List ℕ → List Token → List ℕ
bytes_of text tokens = slice_range text (get_or tokens 0 no_token).span.start (get_or tokens 0 no_token).span.end

pub rune_next : (text : List ℕ) (tokens : List Token) (ws : List Word) → words_of text tokens ≡ ws → ArePlaced text tokens → input.kind_of ws ≡ Some kind.Rune → IsRuneBody (inner (bytes_of text tokens))
rune_next text [] ws e are k = let none : input.kind_of ws ≡ None = sym (ap input.kind_of e) in absurd cc
rune_next text (t ∷ ts) ws e are k =
    let some : some_kind t.kind ≡ some_kind kind.Rune = ap input.kind_of e ∙ k in
    let is : t.kind ≡ kind.Rune = same_kind t.kind kind.Rune some in
    subst (λ (x : TokenKind). IsLiteral x (slice_range text t.span.start t.span.end)) is are.0.literal

pub text_next : (text : List ℕ) (tokens : List Token) (ws : List Word) → words_of text tokens ≡ ws → ArePlaced text tokens → input.kind_of ws ≡ Some kind.Text → IsTextLiteral (bytes_of text tokens)
text_next text [] ws e are k = let none : input.kind_of ws ≡ None = sym (ap input.kind_of e) in absurd cc
text_next text (t ∷ ts) ws e are k =
    let some : some_kind t.kind ≡ some_kind kind.Text = ap input.kind_of e ∙ k in
    let is : t.kind ≡ kind.Text = same_kind t.kind kind.Text some in
    subst (λ (x : TokenKind). IsLiteral x (slice_range text t.span.start t.span.end)) is are.0.literal

-- ---- the tokens of pieces

slice_of : (before bytes more : List ℕ) → slice_range (before ++ (bytes ++ more)) (length before) (length before + length bytes) ≡ bytes
slice_of before bytes more =
    let n : (length before + length bytes) - length before ≡ length bytes = omega arith in
    ap (λ (k : ℕ). take k (drop (length before) (before ++ (bytes ++ more)))) n ∙ ap (λ (x : List ℕ). take (length bytes) x) (drop-append_seam before (bytes ++ more)) ∙ take_at bytes more (length bytes) refl

module _ (text : List ℕ) (start end : ℕ) (ordered : start ≤ end) (within : end ≤ length text) where
  word_placed : (o : Option ℕ) → ArePlaced text (token_of (Some (word_kind o)) start end)
  word_placed None = (record { ordered = ordered; within = within; literal = tt }, tt)
  word_placed (Some place) = (record { ordered = ordered; within = within; literal = tt }, tt)

  literal_placed : (k : TokenKind) → IsLiteral k (slice_range text start end) → ArePlaced text (token_of (Some k) start end)
  literal_placed k l = (record { ordered = ordered; within = within; literal = l }, tt)

  piece_placed : (f : PieceForm) (bytes : List ℕ) → slice_range text start end ≡ bytes → HasForm f bytes → IsMeant f bytes → ArePlaced text (token_of (kind_of f bytes) start end)
  piece_placed form.Blank bytes s h m = tt
  piece_placed form.Line bytes s h m = tt
  piece_placed form.Opening bytes s h m = tt
  piece_placed form.Word bytes s h m = word_placed (place_in keywords bytes)
  piece_placed form.Number bytes s h m = literal_placed kind.Int tt
  piece_placed form.Rune bytes s h m = literal_placed kind.Rune (subst (IsLiteral kind.Rune) (sym s) m)
  piece_placed form.Quoted bytes s h m = let l : IsTextLiteral bytes = inr (inner bytes ++ 34 ∷ [], h.1, m) in literal_placed kind.Text (subst IsTextLiteral (sym s) l)
  piece_placed form.Raw bytes s h m = let l : IsTextLiteral bytes = inl (h.0 ++ 96 ∷ [], h.2) in literal_placed kind.Text (subst IsTextLiteral (sym s) l)
  piece_placed (form.Operator place) bytes s h m = literal_placed (kind.Operator place) tt

-- where a semicolon may be inserted
abbrev pub IsBehind : ℕ → Option ℕ → Type 0
IsBehind end None = Unit {0}
IsBehind end (Some at) = at ≤ end

behind_more : (a b : ℕ) (needed : Option ℕ) → a ≤ b → IsBehind a needed → IsBehind b needed
behind_more a b None le h = tt
behind_more a b (Some at) le h = omega arith

inserted_placed : (text : List ℕ) (end : ℕ) (needed : Option ℕ) → end ≤ length text → IsBehind end needed → ArePlaced text (inserted needed)
inserted_placed text end None le h = tt
inserted_placed text end (Some at) le h = (record { ordered = omega arith; within = omega arith; literal = tt }, tt)

needed_kind : (o : Option TokenKind) (end : ℕ) (before : Option ℕ) → IsBehind end before → IsBehind end (needed_behind o end before)
needed_kind None end before h = h
needed_kind (Some k) end before h = go (ends_line k)
  where
    go : (b : Bool) → IsBehind end (cond b (Some end) None)
    go true = omega arith
    go false = tt

needed_placed : (f : PieceForm) (bytes : List ℕ) (end : ℕ) (before : Option ℕ) → IsBehind end before → IsBehind end (needed_after f bytes end before)
needed_placed form.Line bytes end before h = tt
needed_placed form.Blank bytes end before h = h
needed_placed form.Opening bytes end before h = h
needed_placed form.Word bytes end before h = needed_kind (kind_of form.Word bytes) end before h
needed_placed form.Number bytes end before h = needed_kind (kind_of form.Number bytes) end before h
needed_placed form.Rune bytes end before h = needed_kind (kind_of form.Rune bytes) end before h
needed_placed form.Quoted bytes end before h = needed_kind (kind_of form.Quoted bytes) end before h
needed_placed form.Raw bytes end before h = needed_kind (kind_of form.Raw bytes) end before h
needed_placed (form.Operator place) bytes end before h = needed_kind (kind_of (form.Operator place) bytes) end before h

by_placed : (text : List ℕ) (f : PieceForm) (bytes : List ℕ) (start end : ℕ) (needed : Option ℕ) → start ≤ end → end ≤ length text → IsBehind start needed → slice_range text start end ≡ bytes → HasForm f bytes → IsMeant f bytes → ArePlaced text (tokens_by f bytes start end needed)
by_placed text form.Line bytes start end needed o w b s h m = inserted_placed text start needed (omega arith) b
by_placed text form.Blank bytes start end needed o w b s h m = tt
by_placed text form.Opening bytes start end needed o w b s h m = tt
by_placed text form.Word bytes start end needed o w b s h m = piece_placed text start end o w form.Word bytes s h m
by_placed text form.Number bytes start end needed o w b s h m = piece_placed text start end o w form.Number bytes s h m
by_placed text form.Rune bytes start end needed o w b s h m = piece_placed text start end o w form.Rune bytes s h m
by_placed text form.Quoted bytes start end needed o w b s h m = piece_placed text start end o w form.Quoted bytes s h m
by_placed text form.Raw bytes start end needed o w b s h m = piece_placed text start end o w form.Raw bytes s h m
by_placed text (form.Operator place) bytes start end needed o w b s h m = piece_placed text start end o w (form.Operator place) bytes s h m

placed_from : (text before rest : List ℕ) (start : ℕ) (needed : Option ℕ) (pieces : List Piece) → start ≡ length before → text ≡ before ++ rest → IsBehind start needed → Divides rest pieces [] → ArePlaced text (tokens_from start needed pieces)
placed_from text before rest start needed [] at e b d = inserted_placed text start needed (let l = ap length e ∙ length-append before rest in omega arith) b
placed_from text before rest start needed (piece ∷ pieces) at e b d =
    let end : ℕ = start + length piece.bytes in
    let l = ap length e ∙ length-append before rest in
    let k = ap length d.1 ∙ length-append piece.bytes d.0 in
    let whole : text ≡ before ++ (piece.bytes ++ d.0) = e ∙ ap (λ (x : List ℕ). before ++ x) d.1 in
    let s : slice_range text start (start + length piece.bytes) ≡ piece.bytes =
    ap (λ (x : List ℕ). slice_range x start (start + length piece.bytes)) whole
    ∙ ap (λ (n : ℕ). slice_range (before ++ (piece.bytes ++ d.0)) n (n + length piece.bytes)) at
    ∙ slice_of before piece.bytes d.0
    in
    let more = placed_from text (before ++ piece.bytes) d.0 (start + length piece.bytes) (needed_after piece.form piece.bytes (start + length piece.bytes) needed) pieces
    (let a = length-append before piece.bytes in omega arith)
    (whole ∙ sym (append_assoc before piece.bytes d.0))
    (needed_placed piece.form piece.bytes (start + length piece.bytes) needed (behind_more start (start + length piece.bytes) needed (omega arith) b))
    d.5
    in
    all_append (IsPlaced text) (tokens_by piece.form piece.bytes start (start + length piece.bytes) needed) (tokens_from (start + length piece.bytes) (needed_after piece.form piece.bytes (start + length piece.bytes) needed) pieces)
    (by_placed text piece.form piece.bytes start (start + length piece.bytes) needed (omega arith) (omega arith) b s d.2.has_form d.4) more

-- the tokens of a text stand in it
pub tokens_placed : (text : List ℕ) (tokens : List Token) → HasTokens text tokens → ArePlaced text tokens
tokens_placed text tokens h = subst (ArePlaced text) (sym h.2) (placed_from text [] text 0 None h.0 refl refl tt h.1)
