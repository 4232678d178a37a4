-- The tokens of a text stand one behind another in it.
use Rattle.std.proofs.Common.{◌≡◌, ℕ, zero, suc, ◌+◌, ◌<◌, ◌≤◌, Bool, true, false, ◌||◌, cond, inl, inr, List, [], ◌∷◌, ◌++◌, Option, Some, None, refl, sym, ap, ◌∙◌, subst, append_assoc, length, arith}
use Rattle.std.specs.Prelude.{encode_utf8, slice_get}
use Rattle.std.specs.List.{AllByRecursion, list_all}
use Rattle.std.specs.Str.{encode_utf8_all}
use Rattle.std.proofs.lemmas.List.{length-append}
use Rattle.std.proofs.lemmas.Str.{length-encode, len_utf8_bounds}
use Rattle.go_ast.specs.declared.token.PieceForm.{PieceForm}
use Rattle.go_ast.specs.declared.token.PieceForm.TheVariants as form
use Rattle.go_ast.specs.declared.token.TokenKind.{TokenKind}
use Rattle.go_ast.specs.declared.token.TokenKind.TheVariants as kind
use Rattle.go_ast.specs.declared.token.Token.{Token}
use Rattle.unicode.specs.GeneralCategory.{general_category}
use Rattle.go_ast.specs.Characters.{is_letter, is_letter_or_digit, is_digit_category}
use Rattle.go_ast.specs.Words.{keywords, operators, place_in}
use Rattle.go_ast.specs.Pieces.{Piece, HasForm, IsLongest, IsWord, IsNumber, Divides}
use Rattle.go_ast.specs.Tokens.{word_kind, ends_line, token, inserted, tokens_by, needed_behind, needed_after, tokens_from, HasTokens}
use Rattle.go_grammar.specs.Words.{Word, word_of, words_of}
use Rattle.cov_cut.proofs.Spread.{is_word, next, next_upto, Parted, Spread}

-- ---- pieces have bytes

character_len : (c : ℕ) → 1 ≤ length (encode_utf8 c)
character_len c = let l = length-encode c in let b = len_utf8_bounds c in omega (arith, l, b.0)

abbrev is_some : List ℕ → Bool
is_some [] = false
is_some (b ∷ bs) = true

both_true : (a b : Bool) → cond a b false ≡ true → (a ≡ true) × (b ≡ true)
both_true true b h = (refl, h)
both_true false b h = absurd cc

none_empty : (ws : List (List ℕ)) → list_all is_some ws ≡ true → (place : ℕ) → slice_get ws place ≡ Some [] → ⊥
none_empty [] all place e = cc
none_empty ([] ∷ ws) all place e = absurd cc
none_empty ((b ∷ bs) ∷ ws) all zero e = cc
none_empty ((b ∷ bs) ∷ ws) all (suc place) e = none_empty ws all place e

word_some : (c : ℕ) (cs bytes : List ℕ) → bytes ≡ encode_utf8_all (c ∷ cs) → 1 ≤ length bytes
word_some c cs bytes e =
    let l = length-append (encode_utf8 c) (encode_utf8_all cs) in
    let k : length bytes ≡ length (encode_utf8 c ++ encode_utf8_all cs) = ap length e in
    let some = character_len c in
    omega arith

number_some : IsNumber [] → ⊥
number_some (inl run) = cc
number_some (inr (inl p)) = let l = length-append p.0 (p.1 ∷ []) in let k : 0 ≡ length (p.0 ++ p.1 ∷ []) = ap length p.4 in absurd (omega arith)
number_some (inr (inr p)) = let e = p.2 in absurd cc

none_has : (f : PieceForm) → HasForm f [] → ⊥
none_has form.Blank (inl p) = let e = p.2 in absurd cc
none_has form.Blank (inr (inl p)) = let e = p.1 in absurd cc
none_has form.Blank (inr (inr p)) = let e = p.0.1 in absurd cc
none_has form.Line (inl e) = absurd cc
none_has form.Line (inr p) = let e = p.0.1 in absurd cc
none_has form.Opening e = absurd cc
none_has form.Word p = let some : 1 ≤ 0 = word_some p.0 p.1 [] p.5 in absurd (omega arith)
none_has form.Number p = number_some p
none_has form.Rune p = let e = p.1 in absurd cc
none_has form.Quoted p = let e = p.1 in absurd cc
none_has form.Raw p = let e = p.2 in absurd cc
none_has (form.Operator place) e = none_empty operators refl place e

pub form_some : (f : PieceForm) (bytes : List ℕ) → HasForm f bytes → 1 ≤ length bytes
form_some f [] has = absurd (none_has f has)
form_some f (b ∷ bs) has = omega arith

-- ---- no word directly behind a word

encode_both : (cs ds : List ℕ) → encode_utf8_all (cs ++ ds) ≡ encode_utf8_all cs ++ encode_utf8_all ds
encode_both [] ds = refl
encode_both (c ∷ cs) ds = ap (λ x. encode_utf8 c ++ x) (encode_both cs ds) ∙ sym (append_assoc (encode_utf8 c) (encode_utf8_all cs) (encode_utf8_all ds))

all_both : (P : ℕ → Type 0) (xs ys : List ℕ) → AllByRecursion P xs → AllByRecursion P ys → AllByRecursion P (xs ++ ys)
all_both P [] ys h k = k
all_both P (x ∷ xs) ys h k = (h.0, all_both P xs ys h.1 k)

or_true : (a b : Bool) → a ≡ true → (a || b) ≡ true
or_true true b h = refl
or_true false b h = absurd cc

joined_word : (a b : List ℕ) → IsWord a → IsWord b → IsWord (a ++ b)
joined_word a b p q =
    let letter : is_letter_or_digit q.0 ≡ true = or_true (is_letter q.0) (is_digit_category (general_category q.0)) q.3 in
    (p.0, p.1 ++ q.0 ∷ q.1, p.2, p.3, all_both _ p.1 (q.0 ∷ q.1) p.4 ((q.2, letter), q.4), ap (λ x. x ++ b) p.5 ∙ ap (λ x. encode_utf8_all (p.0 ∷ p.1) ++ x) q.5 ∙ sym (encode_both (p.0 ∷ p.1) (q.0 ∷ q.1)))

no_two_words : (a b more : List ℕ) → IsLongest form.Word a (b ++ more) → HasForm form.Word b → ⊥
no_two_words a b more l q =
    let some = form_some form.Word b q in
    let le : length (a ++ b) ≤ length a = l.longest form.Word (a ++ b) more (joined_word a b l.has_form q) (sym (append_assoc a b more)) in
    let k = length-append a b in
    absurd (omega arith)

-- ---- the first word of tokens

abbrev FirstWord : ℕ → List Word → Type 0
FirstWord bound [] = Unit {0}
FirstWord bound (u ∷ w) = is_word u.kind ≡ true → bound ≤ u.span.start

first_lower : (bound low : ℕ) (w : List Word) → low ≤ bound → FirstWord bound w → FirstWord low w
first_lower bound low [] le h = tt
first_lower bound low (u ∷ w) le h = λ e. let k : bound ≤ u.span.start = h e in omega arith

part_by_first : (t : Word) (w : List Word) → FirstWord (t.span.end + 1) w → Parted t w
part_by_first t [] h = tt
part_by_first t (u ∷ w) h = λ e f. let k : t.span.end + 1 ≤ u.span.start = h f in omega arith

part_by_kind : (t : Word) (w : List Word) → is_word t.kind ≡ false → Parted t w
part_by_kind t [] e = tt
part_by_kind t (u ∷ w) e = λ f g. absurd cc

module _ (text : List ℕ) where
  abbrev ws : List Token → List Word
  ws = words_of text

  first_semicolon : (at bound : ℕ) (w : List Token) → FirstWord bound (ws (token (kind.Operator 45) at at ∷ w))
  first_semicolon at bound w = λ e. absurd cc

  first_inserted : (o : Option ℕ) (bound : ℕ) → FirstWord bound (ws (inserted o))
  first_inserted None bound = tt
  first_inserted (Some at) bound = first_semicolon at bound []

  first_by : (f : PieceForm) (bytes : List ℕ) (start : ℕ) (o : Option ℕ) (ps : List Piece) → ((q : Option ℕ) → FirstWord (start + length bytes) (ws (tokens_from (start + length bytes) q ps)))
      → FirstWord start (ws (tokens_by f bytes start (start + length bytes) o ++ tokens_from (start + length bytes) (needed_after f bytes (start + length bytes) o) ps))
  first_by form.Line bytes start None ps rest = first_lower (start + length bytes) start (ws (tokens_from (start + length bytes) None ps)) (omega arith) (rest None)
  first_by form.Line bytes start (Some at) ps rest = first_semicolon at start (tokens_from (start + length bytes) None ps)
  first_by form.Blank bytes start o ps rest = first_lower (start + length bytes) start (ws (tokens_from (start + length bytes) o ps)) (omega arith) (rest o)
  first_by form.Opening bytes start o ps rest = first_lower (start + length bytes) start (ws (tokens_from (start + length bytes) o ps)) (omega arith) (rest o)
  first_by form.Word bytes start o ps rest = λ e. omega arith
  first_by form.Number bytes start o ps rest = λ e. omega arith
  first_by form.Rune bytes start o ps rest = λ e. omega arith
  first_by form.Quoted bytes start o ps rest = λ e. omega arith
  first_by form.Raw bytes start o ps rest = λ e. omega arith
  first_by (form.Operator place) bytes start o ps rest = λ e. omega arith

  first_from : (start : ℕ) (o : Option ℕ) (pieces : List Piece) → FirstWord start (ws (tokens_from start o pieces))
  first_from start o [] = first_inserted o start
  first_from start o (p ∷ ps) = first_by p.form p.bytes start o ps (λ q. first_from (start + length p.bytes) q ps)

  -- behind a word
  gap_by : (f : PieceForm) (bytes : List ℕ) (start : ℕ) (o : Option ℕ) (ps : List Piece) → (f ≡ form.Word → ⊥) → 1 ≤ length bytes
      → FirstWord (start + 1) (ws (tokens_by f bytes start (start + length bytes) o ++ tokens_from (start + length bytes) (needed_after f bytes (start + length bytes) o) ps))
  gap_by form.Line bytes start None ps other some = first_lower (start + length bytes) (start + 1) (ws (tokens_from (start + length bytes) None ps)) (omega arith) (first_from (start + length bytes) None ps)
  gap_by form.Line bytes start (Some at) ps other some = first_semicolon at (start + 1) (tokens_from (start + length bytes) None ps)
  gap_by form.Blank bytes start o ps other some = first_lower (start + length bytes) (start + 1) (ws (tokens_from (start + length bytes) o ps)) (omega arith) (first_from (start + length bytes) o ps)
  gap_by form.Opening bytes start o ps other some = first_lower (start + length bytes) (start + 1) (ws (tokens_from (start + length bytes) o ps)) (omega arith) (first_from (start + length bytes) o ps)
  gap_by form.Word bytes start o ps other some = absurd (other refl)
  gap_by form.Number bytes start o ps other some = λ e. absurd cc
  gap_by form.Rune bytes start o ps other some = λ e. absurd cc
  gap_by form.Quoted bytes start o ps other some = λ e. absurd cc
  gap_by form.Raw bytes start o ps other some = λ e. absurd cc
  gap_by (form.Operator place) bytes start o ps other some = λ e. absurd cc

  word_gap : (bytes more : List ℕ) (start : ℕ) (o : Option ℕ) (ps : List Piece) → IsLongest form.Word bytes more → Divides more ps [] → FirstWord (start + 1) (ws (tokens_from start o ps))
  word_gap bytes more start o [] l d = first_inserted o (start + 1)
  word_gap bytes more start o (q ∷ qs) l d =
      gap_by q.form q.bytes start o qs
      (λ e. no_two_words bytes q.bytes d.0 (subst (IsLongest form.Word bytes) d.1 l) (subst (λ f. HasForm f q.bytes) e d.2.has_form))
      (form_some q.form q.bytes d.2.has_form)

  -- ---- all tokens

  abbrev Held : ℕ → ℕ → Option ℕ → Type 0
  Held low start None = low ≤ start
  Held low start (Some at) = (low ≤ at) × (at ≤ start)

  inserted_spread : (low start total : ℕ) (o : Option ℕ) → start ≤ total → Held low start o → Spread low (total + 1) (ws (inserted o))
  inserted_spread low start total None up h = let k : low ≤ start = h in omega arith
  inserted_spread low start total (Some at) up h = (h.0, record { forward = omega arith; some = λ e. absurd cc }, tt, omega arith)

  ended : (b : Bool) (low end : ℕ) → low ≤ end → Held low end (cond b (Some end) None)
  ended true low end le = (le, omega arith)
  ended false low end le = le

  one_spread : (k : TokenKind) (start end low total : ℕ) (ps : List Piece) → low ≤ start → start < end → Parted (word_of text (token k start end)) (ws (tokens_from end (needed_behind (Some k) end None) ps))
      → ((low : ℕ) (o : Option ℕ) → Held low end o → Spread low (total + 1) (ws (tokens_from end o ps))) → Spread low (total + 1) (ws (token k start end ∷ tokens_from end (needed_behind (Some k) end None) ps))
  one_spread k start end low total ps from some parted rest =
      (from, record { forward = omega arith; some = λ e. some }, parted, rest (next (word_of text (token k start end))) (needed_behind (Some k) end None) (ended (ends_line k) (next (word_of text (token k start end))) end (next_upto (word_of text (token k start end)) some)))

  other_spread : (k : TokenKind) (start end low total : ℕ) (ps : List Piece) → is_word k ≡ false → low ≤ start → start < end
      → ((low : ℕ) (o : Option ℕ) → Held low end o → Spread low (total + 1) (ws (tokens_from end o ps))) → Spread low (total + 1) (ws (token k start end ∷ tokens_from end (needed_behind (Some k) end None) ps))
  other_spread k start end low total ps e from some rest =
      one_spread k start end low total ps from some (part_by_kind (word_of text (token k start end)) (ws (tokens_from end (needed_behind (Some k) end None) ps)) e) rest

  held_from : (low start : ℕ) (o : Option ℕ) → Held low start o → low ≤ start
  held_from low start None h = h
  held_from low start (Some at) h = omega arith

  held_up : (low start end : ℕ) (o : Option ℕ) → start ≤ end → Held low start o → Held low end o
  held_up low start end None le h = omega arith
  held_up low start end (Some at) le h = (h.0, omega arith)

  spread_by : (f : PieceForm) (bytes more : List ℕ) (start low total : ℕ) (o : Option ℕ) (ps : List Piece) → IsLongest f bytes more → Divides more ps [] → 1 ≤ length bytes → Held low start o → start + length bytes ≤ total
      → ((low : ℕ) (o : Option ℕ) → Held low (start + length bytes) o → Spread low (total + 1) (ws (tokens_from (start + length bytes) o ps)))
      → Spread low (total + 1) (ws (tokens_by f bytes start (start + length bytes) o ++ tokens_from (start + length bytes) (needed_after f bytes (start + length bytes) o) ps))
  spread_by form.Line bytes more start low total None ps l d some h up rest = rest low None (omega arith)
  spread_by form.Line bytes more start low total (Some at) ps l d some h up rest =
      (h.0, record { forward = omega arith; some = λ e. absurd cc }, part_by_kind (word_of text (token (kind.Operator 45) at at)) (ws (tokens_from (start + length bytes) None ps)) refl, rest (at + 1) None (omega arith))
  spread_by form.Blank bytes more start low total o ps l d some h up rest = rest low o (held_up low start (start + length bytes) o (omega arith) h)
  spread_by form.Opening bytes more start low total o ps l d some h up rest = rest low o (held_up low start (start + length bytes) o (omega arith) h)
  spread_by form.Word bytes more start low total o ps l d some h up rest =
      let k : TokenKind = word_kind (place_in keywords bytes) in
      one_spread k start (start + length bytes) low total ps (held_from low start o h) (omega arith)
      (part_by_first (word_of text (token k start (start + length bytes))) (ws (tokens_from (start + length bytes) (needed_behind (Some k) (start + length bytes) None) ps)) (word_gap bytes more (start + length bytes) (needed_behind (Some k) (start + length bytes) None) ps l d)) rest
  spread_by form.Number bytes more start low total o ps l d some h up rest = other_spread kind.Int start (start + length bytes) low total ps refl (held_from low start o h) (omega arith) rest
  spread_by form.Rune bytes more start low total o ps l d some h up rest = other_spread kind.Rune start (start + length bytes) low total ps refl (held_from low start o h) (omega arith) rest
  spread_by form.Quoted bytes more start low total o ps l d some h up rest = other_spread kind.Text start (start + length bytes) low total ps refl (held_from low start o h) (omega arith) rest
  spread_by form.Raw bytes more start low total o ps l d some h up rest = other_spread kind.Text start (start + length bytes) low total ps refl (held_from low start o h) (omega arith) rest
  spread_by (form.Operator place) bytes more start low total o ps l d some h up rest = other_spread (kind.Operator place) start (start + length bytes) low total ps refl (held_from low start o h) (omega arith) rest

  spread_from : (start low total : ℕ) (o : Option ℕ) (pieces : List Piece) (rest : List ℕ) → Divides rest pieces [] → start + length rest ≡ total → Held low start o → Spread low (total + 1) (ws (tokens_from start o pieces))
  spread_from start low total o [] rest d e h = inserted_spread low start total o (omega arith) h
  spread_from start low total o (p ∷ ps) rest d e h =
      let more : List ℕ = d.0 in
      let long : length rest ≡ length p.bytes + length more = ap length d.1 ∙ length-append p.bytes more in
      spread_by p.form p.bytes more start low total o ps d.2 d.5 (form_some p.form p.bytes d.2.has_form) h (omega arith)
      (λ low' o' h'. spread_from (start + length p.bytes) low' total o' ps more d.5 (omega arith) h')

pub tokens_spread : (text : List ℕ) (tokens : List Token) → HasTokens text tokens → Spread 0 (length text + 1) (words_of text tokens)
tokens_spread text tokens has =
    subst (λ ts. Spread 0 (length text + 1) (words_of text ts)) (sym has.2) (spread_from text 0 0 (length text) None has.0 text has.1 (omega arith) (omega arith))
