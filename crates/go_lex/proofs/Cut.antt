-- A text is cut into pieces in one way.
use Rattle.std.proofs.Common.{◌≡◌, ◌≢◌, ℕ, zero, suc, ◌+◌, ◌≤◌, Bool, true, false, ◌⊎◌, inl, inr, List, [], ◌∷◌, ◌++◌, length, take, drop, Some, None, refl, sym, ap, subst, ◌∙◌, arith, append_assoc, nat_le}
use Rattle.std.specs.Prelude.{encode_utf8}
use Rattle.std.specs.Str.{encode_utf8_all, IsUtf8, is_utf8, StartsWithNoChar}
use Rattle.std.proofs.lemmas.List.{append-nil, length-append, length-take, length-drop, take_at, drop_at, take-append-drop}
use Rattle.std.proofs.lemmas.Str.{IsUtf8-from_is_utf8, is_utf8-from_IsUtf8, IsUtf8-encode}
use Rattle.go_ast.specs.declared.token.PieceForm.{PieceForm}
use Rattle.go_ast.specs.Characters.{is_letter, is_letter_or_digit, BeginsWith}
use Rattle.go_ast.specs.Pieces.{HasForm, IsLongest, IsStuck}
use Rattle.go_lex.specs.Pieces.{piece_by}
use Rattle.go_lex.specs.Fronts.{IsCharacterAt, IsRunLen, IsWordLen}
use Rattle.go_lex.proofs.Values.{both}
use Rattle.go_lex.proofs.Characters.{encode_len, character_some}
use Rattle.go_lex.proofs.Words.{run_stop, run_end, word_some, word_no_character, word_no_letter, drop_more}
use Rattle.go_lex.proofs.Closes.{absurd_bool}
use Rattle.go_lex.proofs.Longest.{reaches}
use Rattle.go_lex.proofs.Sound.{some_piece, piece_same, sound}
use Rattle.std.proofs.lemmas.Bool.{leb-true, leb-false}
use lib.Utf8.{scalar, scalars}

-- ---- there is a longest word

abbrev Character : List ℕ → Type 0
Character bytes = (c : ℕ) × (len : ℕ) × IsCharacterAt bytes c len

from_front : (bytes : List ℕ) (n : ℕ) → 1 ≤ n → n ≤ length bytes → is_utf8 (take n bytes) ≡ true → Character bytes
from_front bytes n some within valid = go utf8.0 utf8.1.0 utf8.1.1
  where
    utf8 : IsUtf8 (take n bytes)
    utf8 = IsUtf8-from_is_utf8 (take n bytes) valid

    go : (cs : List ℕ) → scalars cs ≡ true → encode_utf8_all cs ≡ take n bytes → Character bytes
    go [] s e = let l = length-take n bytes in let k : 0 ≡ length (take n bytes) = ap length e in absurd (omega arith)
    go (c ∷ cs) s e =
        let whole : bytes ≡ encode_utf8 c ++ (encode_utf8_all cs ++ drop n bytes) = sym (take-append-drop n bytes) ∙ ap (λ (x : List ℕ). x ++ drop n bytes) (sym e) ∙ append_assoc (encode_utf8 c) (encode_utf8_all cs) (drop n bytes) in
        let rest : drop (length (encode_utf8 c)) bytes ≡ encode_utf8_all cs ++ drop n bytes = ap (drop (length (encode_utf8 c))) whole ∙ drop_at (encode_utf8 c) (encode_utf8_all cs ++ drop n bytes) (length (encode_utf8 c)) refl in
        let l = length-append (encode_utf8 c) (encode_utf8_all cs ++ drop n bytes) in
        let k : length bytes ≡ length (encode_utf8 c ++ (encode_utf8_all cs ++ drop n bytes)) = ap length whole in
        (c, length (encode_utf8 c), record { scalar = (both (scalar c) (scalars cs) s).0; is = whole ∙ ap (λ (x : List ℕ). encode_utf8 c ++ x) (sym rest); long = refl; within = omega arith })

-- no front of one to four bytes is a character
abbrev pub AreBad : List ℕ → ℕ → Type 0
AreBad bytes n = (k : ℕ) → 1 ≤ k → k ≤ n → k ≤ length bytes → is_utf8 (take k bytes) ≡ false

bad_more : (bytes : List ℕ) (n : ℕ) → AreBad bytes n → (suc n ≤ length bytes → is_utf8 (take (suc n) bytes) ≡ false) → AreBad bytes (suc n)
bad_more bytes n bad here k some le within = go (nat_le k n) refl
  where
    go : (v : Bool) → nat_le k n ≡ v → is_utf8 (take k bytes) ≡ false
    go true e = bad k some (leb-true k n e) within
    go false e = let lt = leb-false k n e in let is : k ≡ suc n = omega arith in rw is (here (omega arith))

seek : (bytes : List ℕ) (n : ℕ) → Character bytes ⊎ AreBad bytes n
seek bytes zero = inr (λ k some le within. absurd (omega arith))
seek bytes (suc n) = go (seek bytes n) (nat_le (suc n) (length bytes)) (is_utf8 (take (suc n) bytes)) refl refl
  where
    go : Character bytes ⊎ AreBad bytes n → (f v : Bool) → nat_le (suc n) (length bytes) ≡ f → is_utf8 (take (suc n) bytes) ≡ v → Character bytes ⊎ AreBad bytes (suc n)
    go (inl c) f v f-is v-is = inl c
    go (inr bad) true true f-is v-is = inl (from_front bytes (suc n) (omega arith) (leb-true (suc n) (length bytes) f-is) v-is)
    go (inr bad) true false f-is v-is = inr (bad_more bytes n bad (λ _. v-is))
    go (inr bad) false v f-is v-is = let lt = leb-false (suc n) (length bytes) f-is in inr (bad_more bytes n bad (λ le. absurd (omega arith)))

bad_none : (bytes : List ℕ) → AreBad bytes 4 → StartsWithNoChar bytes
bad_none bytes bad c rest is-scalar e =
    let one = encode_len c in
    let some = one.0 in
    let few = one.1 in
    let l = length-append (encode_utf8 c) rest in
    let k : length bytes ≡ length (encode_utf8 c ++ rest) = ap length e in
    let front : take (length (encode_utf8 c)) bytes ≡ encode_utf8 c = ap (take (length (encode_utf8 c))) e ∙ take_at (encode_utf8 c) rest (length (encode_utf8 c)) refl in
    let good : is_utf8 (take (length (encode_utf8 c)) bytes) ≡ true = is_utf8-from_IsUtf8 (take (length (encode_utf8 c)) bytes) (subst IsUtf8 (sym front) (IsUtf8-encode c is-scalar)) in
    absurd_bool (is_utf8 (take (length (encode_utf8 c)) bytes)) good (bad (length (encode_utf8 c)) some few (omega arith))

pub character_cases : (bytes : List ℕ) → Character bytes ⊎ StartsWithNoChar bytes
character_cases bytes = go (seek bytes 4)
  where
    go : Character bytes ⊎ AreBad bytes 4 → Character bytes ⊎ StartsWithNoChar bytes
    go (inl c) = inl c
    go (inr bad) = inr (bad_none bytes bad)

run_cons : (bytes : List ℕ) (c width len : ℕ) → IsCharacterAt bytes c width → is_letter_or_digit c ≡ true → IsRunLen (drop width bytes) len → IsRunLen bytes (width + len)
run_cons bytes c width len at is run =
    let again = drop_more bytes width len in
    let d = length-drop width bytes in
    let w = run.within in
    let v = at.within in
    record {
      follows = (c ∷ run.follows.0, ((at.scalar, is), run.follows.1), at.is ∙ ap (λ (x : List ℕ). encode_utf8 c ++ x) run.follows.2 ∙ sym (append_assoc (encode_utf8 c) (encode_utf8_all run.follows.0) (drop len (drop width bytes))) ∙ ap (λ (x : List ℕ). encode_utf8_all (c ∷ run.follows.0) ++ x) again);
      within = omega arith;
      stops = λ d begins. run.stops d (subst (λ (x : List ℕ). BeginsWith x d) (sym again) begins);
    }

abbrev Run : List ℕ → Type 0
Run bytes = (len : ℕ) × IsRunLen bytes len

run_by : (bytes : List ℕ) → ((c width : ℕ) → IsCharacterAt bytes c width → Run (drop width bytes)) → Character bytes ⊎ StartsWithNoChar bytes → Run bytes
run_by bytes more (inr none) = (0, run_end bytes bytes 0 ([], tt, refl) refl (omega arith) none)
run_by bytes more (inl p) = go (is_letter_or_digit p.0) refl
  where
    go : (v : Bool) → is_letter_or_digit p.0 ≡ v → Run bytes
    go true e = let r = more p.0 p.1 p.2 in (p.1 + r.0, run_cons bytes p.0 p.1 r.0 p.2 e r.1)
    go false e = (0, run_stop bytes bytes 0 p.0 p.1 ([], tt, refl) refl (omega arith) p.2 e)

shorter : (bytes : List ℕ) (c width fuel : ℕ) → IsCharacterAt bytes c width → length bytes ≤ suc fuel → length (drop width bytes) ≤ fuel
shorter bytes c width fuel at le = let some = character_some bytes c width at in let w = at.within in let d = length-drop width bytes in omega arith

run_exists : (fuel : ℕ) (bytes : List ℕ) → length bytes ≤ fuel → Run bytes
run_exists zero bytes le = run_by bytes (λ c width at. absurd (let some = character_some bytes c width at in let w = at.within in omega arith)) (character_cases bytes)
run_exists (suc fuel) bytes le = run_by bytes (λ c width at. run_exists fuel (drop width bytes) (shorter bytes c width fuel at le)) (character_cases bytes)

abbrev pub Word : List ℕ → Type 0
Word bytes = (word : ℕ) × IsWordLen bytes word

pub word_exists : (bytes : List ℕ) → Word bytes
word_exists bytes = by (character_cases bytes)
  where
    by : Character bytes ⊎ StartsWithNoChar bytes → Word bytes
    by (inr none) = (0, word_no_character bytes none)
    by (inl p) = go (is_letter p.0) refl
      where
        go : (v : Bool) → is_letter p.0 ≡ v → Word bytes
        go true e = let r = run_exists (length (drop p.1 bytes)) (drop p.1 bytes) (omega arith) in (p.1 + r.0, word_some bytes (drop p.1 bytes) p.0 p.1 r.0 p.2 e refl r.1)
        go false e = (0, word_no_letter bytes p.0 p.1 p.2 e)

-- ---- the longest piece is the one that is found

pub longest_at : (text : List ℕ) (word : ℕ) (p : PieceForm × ℕ) → IsWordLen text word → piece_by word text ≡ Some p → IsLongest p.0 (take p.1 text) (drop p.1 text)
longest_at text word p len e =
    let f = sound text word p len e in
    let whole : take p.1 text ++ drop p.1 text ≡ text = take-append-drop p.1 text in
    record {
      has_form = f.has;
      longest = λ other others after has same.
          let g = reaches other others text after word has (sym whole ∙ same) len in
          let one : (g.other, g.len) ≡ p = piece_same (g.other, g.len) p (sym g.found ∙ e) in
          let long : g.len ≡ p.1 = ap (λ (q : PieceForm × ℕ). q.1) one in
          let k = length-take p.1 text in
          let l = g.long in
          let within = f.within in
          omega arith;
    }

pub none_stuck : (text : List ℕ) (word : ℕ) → text ≢ [] → IsWordLen text word → piece_by word text ≡ None → IsStuck text
none_stuck text word some len e = record {
  some = some;
  none = λ f bytes after has same. let g = reaches f bytes text after word has same len in let one : some_piece (g.other, g.len) ≡ None = sym g.found ∙ e in absurd cc;
}

pub longest_read : (f : PieceForm) (bytes rest : List ℕ) (word : ℕ) → IsLongest f bytes rest → IsWordLen (bytes ++ rest) word → piece_by word (bytes ++ rest) ≡ Some (f, length bytes)
longest_read f bytes rest word l len =
    let g = reaches f bytes (bytes ++ rest) rest word l.has_form refl len in
    let s = sound (bytes ++ rest) word (g.other, g.len) len g.found in
    let most = l.longest g.other (take g.len (bytes ++ rest)) (drop g.len (bytes ++ rest)) s.has (sym (take-append-drop g.len (bytes ++ rest))) in
    let k = length-take g.len (bytes ++ rest) in
    let long = g.long in
    let within = s.within in
    let same : g.len ≡ length bytes = omega arith in
    g.found ∙ rw (g.only same, same) refl

pub record IsSame (f g : PieceForm) (bytes others rest after : List ℕ) : Type 0 where
  pub form : f ≡ g
  pub bytes_same : bytes ≡ others
  pub rest_same : rest ≡ after

-- one piece is the longest
pub same_piece : (f g : PieceForm) (bytes others rest after : List ℕ) → IsLongest f bytes rest → IsLongest g others after → bytes ++ rest ≡ others ++ after → IsSame f g bytes others rest after
same_piece f g bytes others rest after l m e =
    let w = word_exists (bytes ++ rest) in
    let one = longest_read f bytes rest w.0 l w.1 in
    let two = longest_read g others after w.0 m (subst (λ (t : List ℕ). IsWordLen t w.0) e w.1) in
    let same : (f, length bytes) ≡ (g, length others) = piece_same (f, length bytes) (g, length others) (sym one ∙ ap (piece_by w.0) e ∙ two) in
    let len : length bytes ≡ length others = ap (λ (q : PieceForm × ℕ). q.1) same in
    record {
      form = ap (λ (q : PieceForm × ℕ). q.0) same;
      bytes_same = sym (take_at bytes rest (length bytes) refl) ∙ ap (take (length bytes)) e ∙ take_at others after (length bytes) (sym len);
      rest_same = sym (drop_at bytes rest (length bytes) refl) ∙ ap (drop (length bytes)) e ∙ drop_at others after (length bytes) (sym len);
    }

-- where nothing begins there is no piece
pub stuck_none : (f : PieceForm) (bytes after rest : List ℕ) → IsStuck rest → IsLongest f bytes after → rest ≡ bytes ++ after → ⊥
stuck_none f bytes after rest stuck l e = stuck.none f bytes after l.has_form e

-- a piece has a byte
pub piece_some : (f : PieceForm) (bytes : List ℕ) → HasForm f bytes → 1 ≤ length bytes
piece_some f bytes has =
    let w = word_exists (bytes ++ []) in
    let g = reaches f bytes (bytes ++ []) [] w.0 has refl w.1 in
    let s = sound (bytes ++ []) w.0 (g.other, g.len) w.1 g.found in
    let some = s.some in
    let within = s.within in
    let e = append-nil bytes in
    let k : length (bytes ++ []) ≡ length bytes = ap length e in
    omega arith
