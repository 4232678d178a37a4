-- The first reason why a text doesn't go on, and the fault of the text.
use Rattle.std.proofs.Common.{◌≡◌, ◌≢◌, ℕ, zero, suc, ◌+◌, ◌<◌, ◌≤◌, Bool, true, false, inl, inr, List, [], ◌∷◌, ◌++◌, length, refl, sym, ap, subst, ◌∙◌, arith, append_assoc, nat_lt, nat_eq, ◌||◌}
use Rattle.std.specs.Prelude.{encode_utf8}
use Rattle.std.specs.List.{AllByRecursion}
use Rattle.std.specs.Str.{encode_utf8_all}
use Rattle.std.specs.Char.{IsScalar}
use Rattle.std.proofs.lemmas.List.{length-append}
use Rattle.std.proofs.lemmas.Str.{encodes-append, char_from_byte, encode_ascii}
use Rattle.std.proofs.lemmas.Bool.{ltb-true, ltb-false, eqb-true}
use Rattle.go_ast.specs.declared.token.PieceForm.{PieceForm}
use Rattle.go_ast.specs.declared.token.PieceForm.TheVariants as form
use Rattle.go_ast.specs.declared.kind.LexKind.{LexKind}
use Rattle.go_ast.specs.declared.kind.LexKind.TheVariants as fault
use Rattle.go_ast.specs.Characters.{is_banned, BeginsWith, IsSourceCharacter, AreCharacters}
use Rattle.go_ast.specs.Literals.{inner, IsBadEscape}
use Rattle.go_ast.specs.Pieces.{Piece, Divides, HasForm, IsBetween, IsLongest, IsStuck, IsMeant}
use Rattle.go_ast.specs.Faults.{IsBadCharacter, HasBadCharacter, IsStop, IsFlaw, IsBreak, row}
use Rattle.go_lex.specs.Fronts.{FollowsCharacters}
use Rattle.go_lex.specs.Verdicts.{IsFirstBad, IsGoodUpTo, IsFaultIn, IsStopOrBad, IsBefore, IsFirstBreak}
use Rattle.go_lex.proofs.Closes.{absurd_bool}
use Rattle.go_lex.proofs.Characters.{encode_len}
use Rattle.go_lex.proofs.Cut.{same_piece, stuck_none, piece_some}
use Rattle.go_lex.proofs.Flaws.{same_break, meant_no_break}
use Rattle.go_lex.proofs.Sealed.{sealed}
use Rattle.go_lex.proofs.Breaks.{behind, no_bad, has_first, first_bad_before, bad_row, flaw_row, same_row}

-- ---- within a piece

between_len : (quote : ℕ) (piece : List ℕ) → IsBetween quote piece → length piece ≡ 2 + length (inner piece)
between_len quote piece is = let l = length-append (inner piece) (quote ∷ []) in let k : length piece ≡ length (quote ∷ (inner piece ++ quote ∷ [])) = ap length is.1 in omega arith

bad_some : (quote : ℕ) (bytes : List ℕ) → IsBadEscape quote bytes → 1 ≤ length bytes
bad_some quote bytes bad = let k : length bytes ≡ length (92 ∷ bad.slash.0) = ap length bad.slash.1 in omega arith

flaw_within : (f : PieceForm) (piece : List ℕ) (at : ℕ) (kind : LexKind) → HasForm f piece → IsFlaw f piece at kind → at < length piece
flaw_within form.Opening piece at kind has l = let some = piece_some form.Opening piece has in let z = l.0 in omega arith
flaw_within form.Number piece at kind has l = let some = piece_some form.Number piece has in let z = l.0 in omega arith
flaw_within form.Rune piece at kind has (inl l) = let some = piece_some form.Rune piece has in let z = l.0 in omega arith
flaw_within form.Rune piece at kind has (inr l) = let len = between_len 39 piece has in let z = l.0 in omega arith
flaw_within form.Quoted piece at kind has l =
    let len = between_len 34 piece has in
    let some = bad_some 34 l.1.1 l.1.3 in
    let place = l.1.4 in
    omega arith
flaw_within form.Blank piece at kind has l = absurd l
flaw_within form.Line piece at kind has l = absurd l
flaw_within form.Word piece at kind has l = absurd l
flaw_within form.Raw piece at kind has l = absurd l
flaw_within (form.Operator place) piece at kind has l = absurd l

-- a bad character in a piece is one in the text
bad_onward : (f : PieceForm) (piece more cs r : List ℕ) (kind : LexKind) → IsLongest f piece more → piece ≡ encode_utf8_all cs ++ r → IsBadCharacter r kind → IsBadCharacter (r ++ more) kind
bad_onward f piece more cs r fault.BadUtf8 l e bad = ((λ none. bad.0 (front r none)), sealed f piece more cs r l e bad.0 bad.1)
  where
    front : (xs : List ℕ) → xs ++ more ≡ [] → xs ≡ []
    front [] h = refl
    front (x ∷ xs) h = absurd cc
bad_onward f piece more cs r fault.BadCharacter l e bad =
    (bad.0, bad.1, (bad.2.0 ++ more, bad.2.1, ap (λ (x : List ℕ). x ++ more) bad.2.2 ∙ append_assoc (encode_utf8 bad.0) bad.2.0 more))
bad_onward f piece more cs r fault.BadComment l e bad = bad
bad_onward f piece more cs r fault.BadNumber l e bad = bad
bad_onward f piece more cs r fault.BadRune l e bad = bad
bad_onward f piece more cs r fault.BadText l e bad = bad
bad_onward f piece more cs r fault.BadEscape l e bad = bad

first_bad_onward : (f : PieceForm) (piece more rest : List ℕ) (at : ℕ) (kind : LexKind) → IsLongest f piece more → rest ≡ piece ++ more → IsFirstBad piece at kind → IsFirstBad rest at kind
first_bad_onward f piece more rest at kind l e b =
    (b.0, b.1 ++ more, b.2, e ∙ ap (λ (x : List ℕ). x ++ more) b.3 ∙ append_assoc (encode_utf8_all b.0) b.1 more, b.4, bad_onward f piece more b.0 b.1 kind l b.3 b.5)

-- behind a place up to which all is good, bad characters stand further on
bad_later : (f : PieceForm) (piece more rest : List ℕ) (at other : ℕ) (kind : LexKind) → IsLongest f piece more → rest ≡ piece ++ more → at < length piece → IsGoodUpTo piece at → HasBadCharacter rest other kind → at < other
bad_later f piece more rest at other kind l e lt (inl are) bad =
    let b = behind are.0 more rest other kind are.1 (e ∙ ap (λ (x : List ℕ). x ++ more) are.2) bad in
    let place = b.place in
    let k : length piece ≡ length (encode_utf8_all are.0) = ap length are.2 in
    omega arith
bad_later f piece more rest at other kind l e lt (inr g) bad = go (first_bad_before rest g.0 other g.1 kind (first_bad_onward f piece more rest g.0 g.1 l e g.2) bad)
  where
    go : IsBefore g.0 g.1 other kind → at < other
    go (inl h) = let later = g.3 in omega arith
    go (inr h) = let later = g.3 in let same = h.0 in omega arith

bad_is_none : (f g : PieceForm) (piece bytes more after rest : List ℕ) (at : ℕ) (kind : LexKind) → rest ≡ piece ++ more → IsLongest f piece more → IsFirstBad piece at kind → rest ≡ bytes ++ after → IsLongest g bytes after → AreCharacters bytes → ⊥
bad_is_none f g piece bytes more after rest at kind e l b d m are =
    let same = same_piece g f bytes piece after more m l (sym d ∙ e) in
    no_bad piece at kind (subst AreCharacters same.bytes_same are) (has_first piece at kind b)

flaw_is_none : (f g : PieceForm) (piece bytes more after rest : List ℕ) (at : ℕ) (kind : LexKind) → rest ≡ piece ++ more → IsLongest f piece more → IsFlaw f piece at kind → rest ≡ bytes ++ after → IsLongest g bytes after → IsMeant g bytes → ⊥
flaw_is_none f g piece bytes more after rest at kind e l b d m meant = meant_no_break g bytes after rest at kind d m meant (inr (f, piece, more, e, l, b))

rest_some : (f : PieceForm) (piece more rest : List ℕ) → rest ≡ piece ++ more → HasForm f piece → rest ≢ []
rest_some f piece more rest e has none =
    let some = piece_some f piece has in
    let l = length-append piece more in
    let k : length rest ≡ length (piece ++ more) = ap length e in
    let z : length rest ≡ 0 = ap length none in
    absurd (omega arith)

bad_before_break : (f : PieceForm) (piece more rest : List ℕ) (at other : ℕ) (kind other_kind : LexKind) → rest ≡ piece ++ more → IsLongest f piece more → IsFirstBad piece at kind → ((flaw : ℕ) (k : LexKind) → IsFlaw f piece flaw k → at ≤ flaw) → IsBreak rest other other_kind → IsBefore at kind other other_kind
bad_before_break f piece more rest at other kind other_kind e l b first (inl s) = absurd (stuck_none f piece more rest s.0 l e)
bad_before_break f piece more rest at other kind other_kind e l b first (inr s) =
    let same = same_piece s.0 f s.1 piece s.2 more s.4 l (sym s.3 ∙ e) in
    let flaw : IsFlaw f piece other other_kind = subst (λ (g : PieceForm). IsFlaw g piece other other_kind) same.form (subst (λ (x : List ℕ). IsFlaw s.0 x other other_kind) same.bytes_same s.5) in
    let le = first other other_kind flaw in
    let low = bad_row b.1 kind b.5 in
    let high = flaw_row f piece other other_kind flaw in
    go (nat_lt at other) refl le low high
  where
    go : (v : Bool) → nat_lt at other ≡ v → at ≤ other → row kind ≤ 1 → 2 ≤ row other_kind → IsBefore at kind other other_kind
    go true v-is le low high = inl (ltb-true at other v-is)
    go false v-is le low high = let ge = ltb-false at other v-is in inr (omega arith, omega arith)

equal_before : (at other : ℕ) (kind other_kind : LexKind) → (at ≡ other) × (kind ≡ other_kind) → IsBefore at kind other other_kind
equal_before at other kind other_kind same = inr (same.0, same_row kind other_kind same.1)

-- the first fault in the longest piece is the first reason
pub first_in_piece : (f : PieceForm) (piece more rest : List ℕ) (at : ℕ) (kind : LexKind) → rest ≡ piece ++ more → IsLongest f piece more → IsFaultIn f piece at kind → IsFirstBreak rest at kind
first_in_piece f piece more rest at kind e l (inl b) = record {
  some = rest_some f piece more rest e l.has_form;
  has = inl (has_first rest at kind (first_bad_onward f piece more rest at kind l e b.0));
  before_bad = λ other other_kind h. first_bad_before rest at other kind other_kind (first_bad_onward f piece more rest at kind l e b.0) h;
  before_break = λ other other_kind h. bad_before_break f piece more rest at other kind other_kind e l b.0 b.1 h;
  stops = λ g bytes after d m are meant. bad_is_none f g piece bytes more after rest at kind e l b.0 d m are;
}
first_in_piece f piece more rest at kind e l (inr b) = record {
  some = rest_some f piece more rest e l.has_form;
  has = inr (inr (f, piece, more, e, l, b.0));
  before_bad = λ other other_kind h. inl (bad_later f piece more rest at other other_kind l e (flaw_within f piece at kind l.has_form b.0) b.1 h);
  before_break = λ other other_kind h. equal_before at other kind other_kind (same_break rest at other kind other_kind (inr (f, piece, more, e, l, b.0)) h);
  stops = λ g bytes after d m are meant. flaw_is_none f g piece bytes more after rest at kind e l b.0 d m meant;
}

-- ---- where nothing begins

at_zero : (other : ℕ) (kind other_kind : LexKind) → (0 ≡ other → row kind ≤ row other_kind) → IsBefore 0 kind other other_kind
at_zero zero kind other_kind h = inr (refl, h refl)
at_zero (suc n) kind other_kind h = inl (omega arith)

bad_at_zero : (rest : List ℕ) (kind : LexKind) → HasBadCharacter rest 0 kind → IsBadCharacter rest kind
bad_at_zero rest kind h = go h.0 h.1 h.3 h.4 h.5
  where
    go : (ds r : List ℕ) → rest ≡ encode_utf8_all ds ++ r → 0 ≡ length (encode_utf8_all ds) → IsBadCharacter r kind → IsBadCharacter rest kind
    go [] r e k bad = subst (λ (x : List ℕ). IsBadCharacter x kind) (sym e) bad
    go (d ∷ ds) r e k bad = let l = length-append (encode_utf8 d) (encode_utf8_all ds) in let s = (encode_len d).0 in absurd (omega arith)

-- where a character stands a bad one has the second row
character_row : (rest : List ℕ) (c : ℕ) (kind : LexKind) → BeginsWith rest c → IsBadCharacter rest kind → 1 ≤ row kind
character_row rest c fault.BadUtf8 begins bad = absurd (bad.1 c begins.0 begins.1 begins.2)
character_row rest c fault.BadCharacter begins bad = omega arith
character_row rest c fault.BadComment begins bad = absurd bad
character_row rest c fault.BadNumber begins bad = absurd bad
character_row rest c fault.BadRune begins bad = absurd bad
character_row rest c fault.BadText begins bad = absurd bad
character_row rest c fault.BadEscape begins bad = absurd bad

-- where a quote stands there is no bad character
quote_not_bad : (rest more : List ℕ) (q : ℕ) (kind : LexKind) → rest ≡ q ∷ more → q < 128 → IsScalar q → is_banned q ≡ false → IsBadCharacter rest kind → ⊥
quote_not_bad rest more q fault.BadUtf8 e lt is isnt bad = bad.1 q more is (e ∙ ap (λ (x : List ℕ). x ++ more) (sym (encode_ascii q lt)))
quote_not_bad rest more q fault.BadCharacter e lt is isnt bad =
    let same : bad.0 ≡ q = char_from_byte (q ∷ more) bad.2.0 bad.0 (sym e ∙ bad.2.2) lt (omega arith) in
    absurd_bool (is_banned q) (subst (λ (x : ℕ). is_banned x ≡ true) same bad.1) isnt
quote_not_bad rest more q fault.BadComment e lt is isnt bad = bad
quote_not_bad rest more q fault.BadNumber e lt is isnt bad = bad
quote_not_bad rest more q fault.BadRune e lt is isnt bad = bad
quote_not_bad rest more q fault.BadText e lt is isnt bad = bad
quote_not_bad rest more q fault.BadEscape e lt is isnt bad = bad

stop_break : (rest : List ℕ) (kind : LexKind) → IsStuck rest → IsStop rest kind → ((other : LexKind) → IsBadCharacter rest other → row kind ≤ row other) → IsFirstBreak rest 0 kind
stop_break rest kind stuck stop rows = record {
  some = stuck.some;
  has = inr (inl (stuck, refl, stop));
  before_bad = λ other other_kind h. at_zero other kind other_kind (λ z. rows other_kind (bad_at_zero rest other_kind (subst (λ (n : ℕ). HasBadCharacter rest n other_kind) (sym z) h)));
  before_break = λ other other_kind h. equal_before 0 other kind other_kind (same_break rest 0 other kind other_kind (inl (stuck, refl, stop)) h);
  stops = λ g bytes after d m are meant. stuck_none g bytes after rest stuck m d;
}

pub first_at_stop : (rest : List ℕ) (kind : LexKind) → IsStuck rest → IsStopOrBad rest kind → IsFirstBreak rest 0 kind
first_at_stop rest fault.BadUtf8 stuck none = record {
  some = stuck.some;
  has = inl ([], rest, tt, refl, refl, (stuck.some, none));
  before_bad = λ other other_kind h. at_zero other fault.BadUtf8 other_kind (λ z. omega arith);
  before_break = λ other other_kind h. at_zero other fault.BadUtf8 other_kind (λ z. omega arith);
  stops = λ g bytes after d m are meant. stuck_none g bytes after rest stuck m d;
}
first_at_stop rest fault.BadCharacter stuck stop = stop_break rest fault.BadCharacter stuck stop (λ other bad. character_row rest stop.0 other stop.2 bad)
first_at_stop rest fault.BadRune stuck stop = stop_break rest fault.BadRune stuck stop (λ other bad. absurd (quote_not_bad rest stop.0 39 other stop.1 (omega arith) refl refl bad))
first_at_stop rest fault.BadText stuck stop = stop_break rest fault.BadText stuck stop (λ other bad. absurd (text_not_bad stop.0 stop.1 stop.2 stop.3 other bad))
  where
    text_not_bad : (q : ℕ) (more : List ℕ) → (nat_eq q 34 || nat_eq q 96) ≡ true → rest ≡ q ∷ more → (other : LexKind) → IsBadCharacter rest other → ⊥
    text_not_bad q more is e other bad = go (nat_eq q 34) (nat_eq q 96) refl refl is
      where
        go : (a b : Bool) → nat_eq q 34 ≡ a → nat_eq q 96 ≡ b → (a || b) ≡ true → ⊥
        go true b a-is b-is h = quote_not_bad rest more 34 other (e ∙ ap (λ (x : ℕ). x ∷ more) (eqb-true q 34 a-is)) (omega arith) refl refl bad
        go false true a-is b-is h = quote_not_bad rest more 96 other (e ∙ ap (λ (x : ℕ). x ∷ more) (eqb-true q 96 b-is)) (omega arith) refl refl bad
        go false false a-is b-is h = absurd cc
first_at_stop rest fault.BadComment stuck stop = absurd stop
first_at_stop rest fault.BadNumber stuck stop = absurd stop
first_at_stop rest fault.BadEscape stuck stop = absurd stop

-- ---- the whole text

all_append : (P : ℕ → Type 0) (xs ys : List ℕ) → AllByRecursion P xs → AllByRecursion P ys → AllByRecursion P (xs ++ ys)
all_append P [] ys a b = b
all_append P (x ∷ xs) ys a b = (a.0, all_append P xs ys a.1 b)

-- good pieces are good characters
pub divides_characters : (text rest : List ℕ) (pieces : List Piece) → Divides text pieces rest → FollowsCharacters text rest
divides_characters text rest [] d = ([], tt, d)
divides_characters text rest (p ∷ ps) d =
    let more = divides_characters d.0 rest ps d.5 in (
      d.3.0 ++ more.0,
      all_append IsSourceCharacter d.3.0 more.0 d.3.1 more.1,
      d.1 ∙ ap (λ (x : List ℕ). x ++ d.0) d.3.2 ∙ ap (λ (x : List ℕ). encode_utf8_all d.3.0 ++ x) more.2 ∙ sym (append_assoc (encode_utf8_all d.3.0) (encode_utf8_all more.0) rest)
          ∙ ap (λ (x : List ℕ). x ++ rest) (sym (encodes-append d.3.0 more.0)),
    )
