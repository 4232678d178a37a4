-- The spellings of pieces.
use Rattle.std.proofs.Common.{◌≡◌, ℕ, ◌+◌, ◌-◌, Bool, true, false, cond, List, [], ◌∷◌, ◌++◌, length, take, drop, Option, Some, None, refl, sym, ap, ◌∙◌, arith, append_assoc}
use Rattle.std.specs.Prelude.{slice_range}
use Rattle.std.proofs.lemmas.List.{length-append, take_at, drop_at}
use Rattle.go_ast.specs.declared.token.PieceForm.{PieceForm}
use Rattle.go_ast.specs.declared.token.PieceForm.TheVariants as form
use Rattle.go_ast.specs.declared.token.TokenKind.{TokenKind}
use Rattle.go_ast.specs.declared.token.TokenKind.TheVariants as kind
use Rattle.go_ast.specs.declared.token.Token.{Token}
use Rattle.go_ast.specs.Pieces.{Piece}
use Rattle.go_ast.specs.Tokens.{kind_of, ends_line, inserted, token_of, tokens_by, needed_behind, needed_after, tokens_from}
use Rattle.cov_tokens.specs.Spellings.{Spelling, spelled, spelling_of, spellings_of, line_end}

-- the bytes of pieces
abbrev pub flat : List Piece → List ℕ
flat [] = []
flat (p ∷ ps) = p.bytes ++ flat ps

pub flat_append : (ps qs : List Piece) → flat (ps ++ qs) ≡ flat ps ++ flat qs
flat_append [] qs = refl
flat_append (p ∷ ps) qs = ap (λ (x : List ℕ). p.bytes ++ x) (flat_append ps qs) ∙ sym (append_assoc p.bytes (flat ps) (flat qs))

abbrev pub is_some : Option ℕ → Bool
is_some None = false
is_some (Some at) = true

-- ---- by pieces alone, with whether a semicolon is inserted where the line ends

abbrev pub semicolon : Bool → List Spelling
semicolon true = line_end ∷ []
semicolon false = []

abbrev pub one_spelling : Option TokenKind → List ℕ → List Spelling
one_spelling None bytes = []
one_spelling (Some k) bytes = spelled k bytes ∷ []

abbrev pub spelling_by : PieceForm → List ℕ → Bool → List Spelling
spelling_by form.Line bytes b = semicolon b
spelling_by f bytes b = one_spelling (kind_of f bytes) bytes

abbrev pub pending_by : Option TokenKind → Bool → Bool
pending_by None b = b
pending_by (Some k) b = ends_line k

abbrev pub pending : PieceForm → List ℕ → Bool → Bool
pending form.Line bytes b = false
pending f bytes b = pending_by (kind_of f bytes) b

abbrev pub spelled_in : Bool → List Piece → List Spelling
spelled_in b [] = []
spelled_in b (p ∷ ps) = spelling_by p.form p.bytes b ++ spelled_in (pending p.form p.bytes b) ps

abbrev pub pending_in : Bool → List Piece → Bool
pending_in b [] = b
pending_in b (p ∷ ps) = pending_in (pending p.form p.bytes b) ps

-- of a whole text
abbrev pub spelled_all : Bool → List Piece → List Spelling
spelled_all b ps = spelled_in b ps ++ semicolon (pending_in b ps)

pub spelled_in_append : (b : Bool) (ps qs : List Piece) → spelled_in b (ps ++ qs) ≡ spelled_in b ps ++ spelled_in (pending_in b ps) qs
spelled_in_append b [] qs = refl
spelled_in_append b (p ∷ ps) qs =
    ap (λ (x : List Spelling). spelling_by p.form p.bytes b ++ x) (spelled_in_append (pending p.form p.bytes b) ps qs)
    ∙ sym (append_assoc (spelling_by p.form p.bytes b) (spelled_in (pending p.form p.bytes b) ps) (spelled_in (pending_in (pending p.form p.bytes b) ps) qs))

pub pending_in_append : (b : Bool) (ps qs : List Piece) → pending_in b (ps ++ qs) ≡ pending_in (pending_in b ps) qs
pending_in_append b [] qs = refl
pending_in_append b (p ∷ ps) qs = pending_in_append (pending p.form p.bytes b) ps qs

pub spelled_all_append : (b : Bool) (ps qs : List Piece) → spelled_all b (ps ++ qs) ≡ spelled_in b ps ++ spelled_all (pending_in b ps) qs
spelled_all_append b ps qs =
    ap (λ (x : List Spelling). x ++ semicolon (pending_in b (ps ++ qs))) (spelled_in_append b ps qs)
    ∙ ap (λ (x : Bool). (spelled_in b ps ++ spelled_in (pending_in b ps) qs) ++ semicolon x) (pending_in_append b ps qs)
    ∙ append_assoc (spelled_in b ps) (spelled_in (pending_in b ps) qs) (semicolon (pending_in (pending_in b ps) qs))

-- ---- the tokens of a text have these spellings

pub no_bytes : (text : List ℕ) (at : ℕ) → slice_range text at at ≡ []
no_bytes text at = let k : at - at ≡ 0 = omega arith in ap (λ (n : ℕ). take n (drop at text)) k

pub its_bytes : (text pre bytes more : List ℕ) (at : ℕ) → text ≡ pre ++ (bytes ++ more) → at ≡ length pre → slice_range text at (at + length bytes) ≡ bytes
its_bytes text pre bytes more at e l =
    let k : (at + length bytes) - at ≡ length bytes = omega arith in
    ap (λ (n : ℕ). take n (drop at text)) k ∙ ap (λ (x : List ℕ). take (length bytes) (drop at x)) e
    ∙ ap (take (length bytes)) (drop_at pre (bytes ++ more) at (sym l)) ∙ take_at bytes more (length bytes) refl

inserted_spelled : (text : List ℕ) (o : Option ℕ) → spellings_of text (inserted o) ≡ semicolon (is_some o)
inserted_spelled text None = refl
inserted_spelled text (Some at) = ap (λ (x : List ℕ). spelled (kind.Operator 45) x ∷ []) (no_bytes text at)

token_spelled : (text bytes : List ℕ) (o : Option TokenKind) (start end : ℕ) → slice_range text start end ≡ bytes → spellings_of text (token_of o start end) ≡ one_spelling o bytes
token_spelled text bytes None start end e = refl
token_spelled text bytes (Some k) start end e = ap (λ (x : List ℕ). spelled k x ∷ []) e

pub by_spelled : (f : PieceForm) (text bytes : List ℕ) (start end : ℕ) (o : Option ℕ) → slice_range text start end ≡ bytes → spellings_of text (tokens_by f bytes start end o) ≡ spelling_by f bytes (is_some o)
by_spelled form.Line text bytes start end o e = inserted_spelled text o
by_spelled form.Blank text bytes start end o e = token_spelled text bytes (kind_of form.Blank bytes) start end e
by_spelled form.Opening text bytes start end o e = token_spelled text bytes (kind_of form.Opening bytes) start end e
by_spelled form.Word text bytes start end o e = token_spelled text bytes (kind_of form.Word bytes) start end e
by_spelled form.Number text bytes start end o e = token_spelled text bytes (kind_of form.Number bytes) start end e
by_spelled form.Rune text bytes start end o e = token_spelled text bytes (kind_of form.Rune bytes) start end e
by_spelled form.Quoted text bytes start end o e = token_spelled text bytes (kind_of form.Quoted bytes) start end e
by_spelled form.Raw text bytes start end o e = token_spelled text bytes (kind_of form.Raw bytes) start end e
by_spelled (form.Operator place) text bytes start end o e = token_spelled text bytes (kind_of (form.Operator place) bytes) start end e

some_if : (b : Bool) (end : ℕ) → is_some (cond b (Some end) None) ≡ b
some_if true end = refl
some_if false end = refl

behind_pending : (k : Option TokenKind) (end : ℕ) (o : Option ℕ) → is_some (needed_behind k end o) ≡ pending_by k (is_some o)
behind_pending None end o = refl
behind_pending (Some k) end o = some_if (ends_line k) end

pub after_pending : (f : PieceForm) (bytes : List ℕ) (end : ℕ) (o : Option ℕ) → is_some (needed_after f bytes end o) ≡ pending f bytes (is_some o)
after_pending form.Line bytes end o = refl
after_pending form.Blank bytes end o = behind_pending (kind_of form.Blank bytes) end o
after_pending form.Opening bytes end o = behind_pending (kind_of form.Opening bytes) end o
after_pending form.Word bytes end o = behind_pending (kind_of form.Word bytes) end o
after_pending form.Number bytes end o = behind_pending (kind_of form.Number bytes) end o
after_pending form.Rune bytes end o = behind_pending (kind_of form.Rune bytes) end o
after_pending form.Quoted bytes end o = behind_pending (kind_of form.Quoted bytes) end o
after_pending form.Raw bytes end o = behind_pending (kind_of form.Raw bytes) end o
after_pending (form.Operator place) bytes end o = behind_pending (kind_of (form.Operator place) bytes) end o

pub map_append : (text : List ℕ) (ts us : List Token) → spellings_of text (ts ++ us) ≡ spellings_of text ts ++ spellings_of text us
map_append text [] us = refl
map_append text (t ∷ ts) us = ap (λ (x : List Spelling). spelling_of text t ∷ x) (map_append text ts us)

pub tokens_spelled : (ps : List Piece) (text pre : List ℕ) (at : ℕ) (o : Option ℕ) → text ≡ pre ++ flat ps → at ≡ length pre → spellings_of text (tokens_from at o ps) ≡ spelled_all (is_some o) ps
tokens_spelled [] text pre at o e l = inserted_spelled text o
tokens_spelled (p ∷ ps) text pre at o e l =
    let end : ℕ = at + length p.bytes in
    let next : Option ℕ = needed_after p.form p.bytes end o in
    let k = length-append pre p.bytes in
    let more = tokens_spelled ps text (pre ++ p.bytes) end next (e ∙ sym (append_assoc pre p.bytes (flat ps))) (omega arith) in
    map_append text (tokens_by p.form p.bytes at end o) (tokens_from end next ps)
    ∙ ap (λ (x : List Spelling). x ++ spellings_of text (tokens_from end next ps)) (by_spelled p.form text p.bytes at end o (its_bytes text pre p.bytes (flat ps) at e l))
    ∙ ap (λ (x : List Spelling). spelling_by p.form p.bytes (is_some o) ++ x) (more ∙ ap (λ (b : Bool). spelled_all b ps) (after_pending p.form p.bytes end o))
    ∙ sym (append_assoc (spelling_by p.form p.bytes (is_some o)) (spelled_in (pending p.form p.bytes (is_some o)) ps) (semicolon (pending_in (pending p.form p.bytes (is_some o)) ps)))
