-- Characters at the front of bytes.
use Rattle.std.proofs.Common.{◌≡◌, ℕ, zero, suc, ◌<◌, ◌≤◌, true, List, [], ◌∷◌, ◌++◌, length, take, drop, refl, sym, ap, subst, ◌∙◌, arith, append_assoc, min}
use Rattle.std.specs.Prelude.{encode_utf8}
use Rattle.std.specs.List.{AllByRecursion}
use Rattle.std.specs.Str.{encode_utf8_all, IsUtf8, IsValidUpTo, StartsWithNoChar}
use Rattle.std.specs.Char.{IsScalar}
use Rattle.std.proofs.lemmas.List.{append-nil, length-append, take_at, take-append-drop, length-take}
use Rattle.std.proofs.lemmas.Str.{length-encode, len_utf8_bounds, IsUtf8-encode, encode_same, encodes-append}
use Rattle.go_ast.specs.Characters.{is_letter_or_digit, BeginsWith, IsSourceCharacter}
use Rattle.go_lex.specs.Fronts.{IsCharacterAt, IsValidFront, FollowsCharacters, FollowsLetters, IsLetterOrDigit}
use Rattle.go_lex.proofs.Values.{both}
use lib.Utf8.{scalar, scalars}

-- a character has one to four bytes
pub encode_len : (c : ℕ) → (1 ≤ length (encode_utf8 c)) × (length (encode_utf8 c) ≤ 4)
encode_len c = let l = length-encode c in let b = len_utf8_bounds c in (rw l b.0, rw l b.1)

pub no_char : StartsWithNoChar []
no_char c rest s e = let l = length-append (encode_utf8 c) rest in let n : 0 ≡ length (encode_utf8 c ++ rest) = ap length e in let some = (encode_len c).0 in absurd (omega arith)

pub front_of_valid : (bytes front : List ℕ) (n : ℕ) → IsValidUpTo bytes n → front ≡ take n bytes → IsValidFront bytes front
front_of_valid bytes front n valid e =
    let short = valid.short in
    let l = length-take n bytes in
    let same : length front ≡ length (take n bytes) = ap length e in
    let long : length front ≡ n = omega arith in
    record {
      is = e ∙ ap (λ (k : ℕ). take k bytes) (sym long);
      within = omega arith;
      valid = rw e valid.front;
      longest = λ len lt le utf8. valid.longest len (omega arith) utf8;
    }

take_take : (bytes : List ℕ) (k n : ℕ) → k ≤ n → take k (take n bytes) ≡ take k bytes
take_take bytes zero n le = refl
take_take [] (suc k) zero le = refl
take_take [] (suc k) (suc n) le = refl
take_take (b ∷ bs) (suc k) zero le = absurd (omega arith)
take_take (b ∷ bs) (suc k) (suc n) le = ap (λ (r : List ℕ). b ∷ r) (take_take bs k n (omega arith))

-- where a window of four bytes has no valid front no character begins
pub none_at_front : (bytes front : List ℕ) (n : ℕ) → n ≡ min (length bytes) 4 → IsValidFront (take n bytes) front → length front ≡ 0 → StartsWithNoChar bytes
none_at_front bytes front n n-is valid none c rest is-scalar e =
    let one = encode_len c in
    let some = one.0 in
    let few = one.1 in
    let l = length-append (encode_utf8 c) rest in
    let k : length bytes ≡ length (encode_utf8 c ++ rest) = ap length e in
    let w = length-take n bytes in
    let m : length (encode_utf8 c) ≤ n = omega arith in
    let is : take (length (encode_utf8 c)) (take n bytes) ≡ encode_utf8 c = take_take bytes (length (encode_utf8 c)) n m ∙ ap (take (length (encode_utf8 c))) e ∙ take_at (encode_utf8 c) rest (length (encode_utf8 c)) refl in
    valid.longest (length (encode_utf8 c)) (omega arith) (omega arith) (rw is (IsUtf8-encode c is-scalar))

-- the first character of a valid text is a scalar
first_scalar : (text rest : List ℕ) (c : ℕ) → IsUtf8 text → text ≡ encode_utf8 c ++ rest → IsScalar c
first_scalar text rest c utf8 e = go utf8.0 utf8.1.0 (utf8.1.1 ∙ e)
  where
    go : (cs : List ℕ) → scalars cs ≡ true → encode_utf8_all cs ≡ encode_utf8 c ++ rest → IsScalar c
    go [] s same = let l = length-append (encode_utf8 c) rest in let n : 0 ≡ length (encode_utf8 c ++ rest) = ap length same in let some = (encode_len c).0 in absurd (omega arith)
    go (d ∷ ds) s same = let one = encode_same d c (encode_utf8_all ds) rest same in subst IsScalar one.0 (both (scalar d) (scalars ds) s).0

-- the first character of a window
pub some_at_front : (bytes front rest : List ℕ) (n c len : ℕ) → IsValidFront (take n bytes) front → front ≡ encode_utf8 c ++ rest → len ≡ length (encode_utf8 c) → IsCharacterAt bytes c len
some_at_front bytes front rest n c len valid e long =
    let l = length-append (encode_utf8 c) rest in
    let k : length front ≡ length (encode_utf8 c ++ rest) = ap length e in
    let w = length-take n bytes in
    let within = valid.within in
    let m : len ≤ n = omega arith in
    let one : take len front ≡ encode_utf8 c = ap (take len) e ∙ take_at (encode_utf8 c) rest len (sym long) in
    let two : take len (take n bytes) ≡ encode_utf8 c = sym (take_take (take n bytes) len (length front) (omega arith)) ∙ ap (take len) (sym valid.is) ∙ one in
    let three : take len bytes ≡ encode_utf8 c = sym (take_take bytes len n m) ∙ two in
    record {
      scalar = first_scalar front rest c valid.valid e;
      is = sym (take-append-drop len bytes) ∙ ap (λ (x : List ℕ). x ++ drop len bytes) three;
      long = long;
      within = omega arith;
    }

pub character_begins : (bytes : List ℕ) (c len : ℕ) → IsCharacterAt bytes c len → BeginsWith bytes c
character_begins bytes c len at = (drop len bytes, at.scalar, at.is)

pub character_some : (bytes : List ℕ) (c len : ℕ) → IsCharacterAt bytes c len → 1 ≤ len
character_some bytes c len at = let some = (encode_len c).0 in let long = at.long in omega arith

-- one more character
pub encodes_push : (cs : List ℕ) (c : ℕ) (bytes rest more : List ℕ) → bytes ≡ encode_utf8_all cs ++ rest → rest ≡ encode_utf8 c ++ more → bytes ≡ encode_utf8_all (cs ++ c ∷ []) ++ more
encodes_push cs c bytes rest more e f =
    e ∙ ap (λ (x : List ℕ). encode_utf8_all cs ++ x) f ∙ sym (append_assoc (encode_utf8_all cs) (encode_utf8 c) more)
    ∙ ap (λ (x : List ℕ). x ++ more) (ap (λ (x : List ℕ). encode_utf8_all cs ++ x) (sym (append-nil (encode_utf8 c))) ∙ sym (encodes-append cs (c ∷ [])))

pub all_push : (P : ℕ → Type 0) (cs : List ℕ) (c : ℕ) → AllByRecursion P cs → P c → AllByRecursion P (cs ++ c ∷ [])
all_push P [] c all p = (p, tt)
all_push P (d ∷ ds) c all p = (all.0, all_push P ds c all.1 p)

pub characters_more : (bytes rest more : List ℕ) (c len : ℕ) → FollowsCharacters bytes rest → IsCharacterAt rest c len → IsSourceCharacter c → more ≡ drop len rest → FollowsCharacters bytes more
characters_more bytes rest more c len follows at is e =
    (follows.0 ++ c ∷ [], all_push IsSourceCharacter follows.0 c follows.1 is, encodes_push follows.0 c bytes rest more follows.2 (at.is ∙ ap (λ (x : List ℕ). encode_utf8 c ++ x) (sym e)))

pub letters_more : (bytes rest more : List ℕ) (c len : ℕ) → FollowsLetters bytes rest → IsCharacterAt rest c len → is_letter_or_digit c ≡ true → more ≡ drop len rest → FollowsLetters bytes more
letters_more bytes rest more c len follows at is e =
    (follows.0 ++ c ∷ [], all_push IsLetterOrDigit follows.0 c follows.1 (at.scalar, is), encodes_push follows.0 c bytes rest more follows.2 (at.is ∙ ap (λ (x : List ℕ). encode_utf8 c ++ x) (sym e)))

pub no_char_of : (bytes : List ℕ) → length bytes < 1 → StartsWithNoChar bytes
no_char_of [] lt = no_char
no_char_of (b ∷ bs) lt = absurd (omega arith)
