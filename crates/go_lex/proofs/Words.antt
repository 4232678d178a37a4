-- The longest word at the front.
use Rattle.std.proofs.Common.{◌≡◌, ℕ, zero, suc, ◌+◌, ◌≤◌, Bool, true, false, List, [], ◌∷◌, ◌++◌, length, take, drop, refl, sym, ap, subst, ◌∙◌, arith, append_assoc}
use Rattle.std.specs.Prelude.{encode_utf8}
use Rattle.std.specs.List.{AllByRecursion}
use Rattle.std.specs.Str.{encode_utf8_all, StartsWithNoChar}
use Rattle.std.proofs.lemmas.List.{length-append, take_at, length-drop}
use Rattle.std.proofs.lemmas.Str.{encode_same}
use Rattle.go_ast.specs.Characters.{is_letter, is_letter_or_digit, BeginsWith}
use Rattle.go_lex.specs.Fronts.{IsCharacterAt, FollowsLetters, IsRunLen, IsWordLen, IsLetterOrDigit}

false_true : (b : Bool) → b ≡ true → b ≡ false → ⊥
false_true b t f = let e : true ≡ false = sym t ∙ f in absurd cc

-- only one character stands at the front
pub same_character : (bytes : List ℕ) (c d len : ℕ) → IsCharacterAt bytes c len → BeginsWith bytes d → c ≡ d
same_character bytes c d len at begins = (encode_same c d (drop len bytes) begins.0 (sym at.is ∙ begins.2)).0

pub run_stop : (bytes rest : List ℕ) (len c width : ℕ) → FollowsLetters bytes rest → rest ≡ drop len bytes → len ≤ length bytes → IsCharacterAt rest c width → is_letter_or_digit c ≡ false → IsRunLen bytes len
run_stop bytes rest len c width follows same le at isnt = record {
  follows = subst (FollowsLetters bytes) same follows;
  within = le;
  stops = λ d begins. subst (λ (e : ℕ). is_letter_or_digit e ≡ false) (same_character rest c d width at (subst (λ (r : List ℕ). BeginsWith r d) (sym same) begins)) isnt;
}

pub run_end : (bytes rest : List ℕ) (len : ℕ) → FollowsLetters bytes rest → rest ≡ drop len bytes → len ≤ length bytes → StartsWithNoChar rest → IsRunLen bytes len
run_end bytes rest len follows same le none = record {
  follows = subst (FollowsLetters bytes) same follows;
  within = le;
  stops = λ d begins. absurd (none d begins.0 begins.1 (same ∙ begins.2));
}

-- letters and digits go no further than where they stop
letters_longest : (cs ds rest after : List ℕ) → AllByRecursion IsLetterOrDigit ds → ((c : ℕ) → BeginsWith rest c → is_letter_or_digit c ≡ false) → encode_utf8_all cs ++ rest ≡ encode_utf8_all ds ++ after → length (encode_utf8_all ds) ≤ length (encode_utf8_all cs)
letters_longest cs [] rest after all stops e = omega arith
letters_longest [] (d ∷ ds) rest after all stops e =
    absurd (false_true (is_letter_or_digit d) all.0.1 (stops d (encode_utf8_all ds ++ after, all.0.0, e ∙ append_assoc (encode_utf8 d) (encode_utf8_all ds) after)))
letters_longest (c ∷ cs) (d ∷ ds) rest after all stops e =
    let one = encode_same c d (encode_utf8_all cs ++ rest) (encode_utf8_all ds ++ after) (sym (append_assoc (encode_utf8 c) (encode_utf8_all cs) rest) ∙ e ∙ append_assoc (encode_utf8 d) (encode_utf8_all ds) after) in
    let more = letters_longest cs ds rest after all.1 stops one.1 in
    let l = length-append (encode_utf8 c) (encode_utf8_all cs) in
    let m = length-append (encode_utf8 d) (encode_utf8_all ds) in
    let k : length (encode_utf8 c) ≡ length (encode_utf8 d) = ap (λ (x : ℕ). length (encode_utf8 x)) one.0 in
    omega arith

word_is : (bytes rest cs : List ℕ) (c width len : ℕ) → bytes ≡ encode_utf8 c ++ (encode_utf8_all cs ++ rest) → width ≡ length (encode_utf8 c) → len ≡ length (encode_utf8_all cs) → take (width + len) bytes ≡ encode_utf8_all (c ∷ cs)
word_is bytes rest cs c width len e w l =
    let a = length-append (encode_utf8 c) (encode_utf8_all cs) in
    ap (take (width + len)) (e ∙ sym (append_assoc (encode_utf8 c) (encode_utf8_all cs) rest)) ∙ take_at (encode_utf8_all (c ∷ cs)) rest (width + len) (omega arith)

run_length : (bytes cs rest : List ℕ) (len : ℕ) → bytes ≡ encode_utf8_all cs ++ rest → rest ≡ drop len bytes → len ≤ length bytes → len ≡ length (encode_utf8_all cs)
run_length bytes cs rest len e same le =
    let a = length-append (encode_utf8_all cs) rest in
    let b : length bytes ≡ length (encode_utf8_all cs ++ rest) = ap length e in
    let d = length-drop len bytes in
    let f : length rest ≡ length (drop len bytes) = ap length same in
    omega arith

-- a letter, and what follows it
pub word_some : (bytes more : List ℕ) (c width len : ℕ) → IsCharacterAt bytes c width → is_letter c ≡ true → more ≡ drop width bytes → IsRunLen more len → IsWordLen bytes (width + len)
word_some bytes more c width len at letter same run =
    let cs = run.follows.0 in
    let rest : List ℕ = drop len more in
    let long : len ≡ length (encode_utf8_all cs) = run_length more cs rest len run.follows.2 refl run.within in
    let whole : bytes ≡ encode_utf8 c ++ (encode_utf8_all cs ++ rest) = at.is ∙ ap (λ (x : List ℕ). encode_utf8 c ++ x) (sym same ∙ run.follows.2) in
    let within = run.within in
    let w = at.within in
    let d = length-drop width bytes in
    let m : length more ≡ length (drop width bytes) = ap length same in
    record {
      within = omega arith;
      word = λ some. (c, cs, at.scalar, letter, run.follows.1, word_is bytes rest cs c width len whole at.long long);
      longest = λ word after is e.
          let v = encode_utf8_all (is.0 ∷ is.1) in
          let one = encode_same c is.0 (encode_utf8_all cs ++ rest) (encode_utf8_all is.1 ++ after) (sym whole ∙ e ∙ ap (λ (x : List ℕ). x ++ after) is.5 ∙ append_assoc (encode_utf8 is.0) (encode_utf8_all is.1) after) in
          let go = letters_longest cs is.1 rest after is.4 run.stops one.1 in
          let l = length-append (encode_utf8 is.0) (encode_utf8_all is.1) in
          let k : length (encode_utf8 c) ≡ length (encode_utf8 is.0) = ap (λ (x : ℕ). length (encode_utf8 x)) one.0 in
          let n : length word ≡ length (encode_utf8_all (is.0 ∷ is.1)) = ap length is.5 in
          let al = at.long in
          omega arith;
    }

-- no letter, no word
pub word_none : (bytes : List ℕ) → ((c : ℕ) → BeginsWith bytes c → is_letter c ≡ false) → IsWordLen bytes 0
word_none bytes none = record {
  within = omega arith;
  word = λ some. absurd (omega arith);
  longest = λ word after is e. absurd (false_true (is_letter is.0) is.3 (none is.0 (encode_utf8_all is.1 ++ after, is.2, e ∙ ap (λ (x : List ℕ). x ++ after) is.5 ∙ append_assoc (encode_utf8 is.0) (encode_utf8_all is.1) after)));
}

pub word_no_character : (bytes : List ℕ) → StartsWithNoChar bytes → IsWordLen bytes 0
word_no_character bytes none = word_none bytes (λ c begins. absurd (none c begins.0 begins.1 begins.2))

pub word_no_letter : (bytes : List ℕ) (c width : ℕ) → IsCharacterAt bytes c width → is_letter c ≡ false → IsWordLen bytes 0
word_no_letter bytes c width at isnt = word_none bytes (λ d begins. subst (λ (e : ℕ). is_letter e ≡ false) (same_character bytes c d width at begins) isnt)

pub drop_more : (bytes : List ℕ) (m n : ℕ) → drop n (drop m bytes) ≡ drop (m + n) bytes
drop_more bytes zero n = let k : 0 + n ≡ n = omega arith in ap (λ (j : ℕ). drop j bytes) (sym k)
drop_more [] (suc m) zero = let k : suc m + 0 ≡ suc m = omega arith in rw k refl
drop_more [] (suc m) (suc n) = let k : suc m + suc n ≡ suc (m + suc n) = omega arith in rw k refl
drop_more (b ∷ bs) (suc m) n = let k : suc m + n ≡ suc (m + n) = omega arith in drop_more bs m n ∙ ap (λ (j : ℕ). drop j (b ∷ bs)) (sym k)
