-- Pieces that stay the longest before a byte, or before any.
use Rattle.std.proofs.Common.{◌≡◌, ◌⊎◌, inl, inr, ℕ, ◌<◌, ◌≤◌, Bool, true, false, ◌&&◌, ◌||◌, not, cond, List, [], ◌∷◌, ◌++◌, length, Some, refl, sym, ap, subst, ◌∙◌, arith, nat_eq, nat_le, nat_lt}
use Rattle.std.specs.Prelude.{encode_utf8, slice_get, codes}
use Rattle.std.specs.List.{list_all, list_any, starts_with, AllByRecursion}
use Rattle.std.specs.Str.{encode_utf8_all}
use Rattle.std.proofs.lemmas.List.{length-append, append-nil}
use Rattle.std.proofs.lemmas.Str.{encode_ascii}
use Rattle.std.proofs.lemmas.Bool.{eqb-true, eq-eqb, leb-true, lt-ltb}
use Rattle.go_ast.specs.declared.token.PieceForm.{PieceForm}
use Rattle.go_ast.specs.declared.token.PieceForm.TheVariants as form
use Rattle.go_ast.specs.Places.{is_newline}
use Rattle.go_ast.specs.Characters.{is_letter_or_digit}
use Rattle.go_ast.specs.Numbers.{is_decimal, is_x, is_o, is_b, is_decimal_or_line, is_hex, is_hex_or_line, is_run, is_run_after_zero, is_number_end}
use Rattle.go_ast.specs.Words.{operators}
use Rattle.go_ast.specs.Pieces.{HasForm, IsLongest, IsWord, IsNumber, IsBlockComment, IsBetween}
use Rattle.cov_tokens.proofs.Basics.{both, either, clash, not_true, or_left, or_right, cons_is, goes_on, by_cases}
use Rattle.cov_tokens.proofs.Firsts.{is_ascii_word, is_sign, starts, first_byte, form_some, all_at, operator_signs, word_ascii, run_first}
use Rattle.cov_tokens.proofs.Beyond.{quoted_once, closed_once, opens_no_comment}
use Rattle.cov_tokens.proofs.Local.{IsLetterOrDigit, chars_go_on}

-- no piece begins with these bytes and then this byte
abbrev pub Parts : List ℕ → ℕ → Type 0
Parts w b = (other : PieceForm) (u : List ℕ) → HasForm other (w ++ b ∷ u) → ⊥

-- it is the longest before these bytes, whatever follows them
abbrev pub StandsBefore : PieceForm → List ℕ → List ℕ → Type 0
StandsBefore f w v = (r : List ℕ) → IsLongest f w (v ++ r)

-- it is the longest whatever follows
abbrev pub IsFirm : PieceForm → List ℕ → Type 0
IsFirm f w = (r : List ℕ) → IsLongest f w r

pub parted : (f : PieceForm) (w r : List ℕ) (b : ℕ) → HasForm f w → Parts w b → IsLongest f w (b ∷ r)
parted f w r b is parts = record {
  has_form = is;
  longest = λ other v q i e. by_cases (length v) (length w) (λ lt. let g = goes_on w v r q b e lt in parts other g.more (subst (HasForm other) g.is i));
}

at_end : (f : PieceForm) (w : List ℕ) → HasForm f w → IsLongest f w []
at_end f w is = record {
  has_form = is;
  longest = λ other v q i e. let l : length (w ++ []) ≡ length (v ++ q) = ap length e in let m = length-append v q in let k = length-append w [] in omega arith;
}

pub firm : (f : PieceForm) (w : List ℕ) → HasForm f w → ((b : ℕ) → Parts w b) → IsFirm f w
firm f w is parts [] = at_end f w is
firm f w is parts (b ∷ r) = parted f w r b is (parts b)

-- ---- tests that exclude each other

-- a byte of a list where a test fails doesn't pass it
pub none_of : (p : ℕ → Bool) (cs : List ℕ) (b : ℕ) → list_all (λ c. not (p c)) cs ≡ true → list_any (λ c. nat_eq c b) cs ≡ true → p b ≡ true → ⊥
none_of p [] b fails any h = absurd cc
none_of p (c ∷ cs) b fails any h = go (nat_eq c b) refl any (none_of p cs b two.1)
  where
    two : (not (p c) ≡ true) × (list_all (λ d. not (p d)) cs ≡ true)
    two = both (not (p c)) (list_all (λ d. not (p d)) cs) fails

    go : (v : Bool) → nat_eq c b ≡ v → (v || list_any (λ d. nat_eq d b) cs) ≡ true → (list_any (λ d. nat_eq d b) cs ≡ true → p b ≡ true → ⊥) → ⊥
    go true v-is a more = clash (p c) (subst (λ (d : ℕ). p d ≡ true) (sym (eqb-true c b v-is)) h) (not_true (p c) two.0)
    go false v-is a more = more a h

abbrev sign_bytes : List ℕ
sign_bytes = codes "+-*/%&|^<>=!~.()[]{},;:"

word_no_sign : (b : ℕ) → starts form.Word b ≡ true → is_sign b ≡ true → ⊥
word_no_sign b h s = none_of (starts form.Word) sign_bytes b refl s h

pub sign_of_word : (b : ℕ) → starts form.Word b ≡ true → is_sign b ≡ false
sign_of_word b h = go (is_sign b) refl
  where
    go : (v : Bool) → is_sign b ≡ v → v ≡ false
    go true e = absurd (word_no_sign b h e)
    go false e = refl

is_clash : (p : ℕ → Bool) (b k : ℕ) → p k ≡ false → nat_eq b k ≡ true → p b ≡ true → ⊥
is_clash p b k fails e h = clash (p k) (subst (λ (x : ℕ). p x ≡ true) (eqb-true b k e) h) fails

pair_clash : (p : ℕ → Bool) (b j k : ℕ) → p j ≡ false → p k ≡ false → (nat_eq b j || nat_eq b k) ≡ true → p b ≡ true → ⊥
pair_clash p b j k fails fails' e h = go (nat_eq b j) refl e
  where
    go : (v : Bool) → nat_eq b j ≡ v → (v || nat_eq b k) ≡ true → ⊥
    go true v-is g = is_clash p b j fails v-is h
    go false v-is g = is_clash p b k fails' g h

blank_clash : (p : ℕ → Bool) (b : ℕ) → p 32 ≡ false → p 9 ≡ false → p 13 ≡ false → p 47 ≡ false → starts form.Blank b ≡ true → p b ≡ true → ⊥
blank_clash p b n32 n9 n13 n47 e h = go (nat_eq b 32 || nat_eq b 9) refl e
  where
    go : (v : Bool) → (nat_eq b 32 || nat_eq b 9) ≡ v → (v || (nat_eq b 13 || nat_eq b 47)) ≡ true → ⊥
    go true v-is g = pair_clash p b 32 9 n32 n9 v-is h
    go false v-is g = pair_clash p b 13 47 n13 n47 g h

word_high : (b : ℕ) → starts form.Word b ≡ true → 65 ≤ b
word_high b h = go (nat_le 128 b) (nat_eq b 95) (nat_le 65 b && nat_le b 90) refl refl refl h
  where
    go : (x y z : Bool) → nat_le 128 b ≡ x → nat_eq b 95 ≡ y → (nat_le 65 b && nat_le b 90) ≡ z → (x || (y || (z || (nat_le 97 b && nat_le b 122)))) ≡ true → 65 ≤ b
    go true y z x-is y-is z-is e = let l = leb-true 128 b x-is in omega arith
    go false true z x-is y-is z-is e = let l = eqb-true b 95 y-is in omega arith
    go false false true x-is y-is z-is e = leb-true 65 b (both (nat_le 65 b) (nat_le b 90) z-is).0
    go false false false x-is y-is z-is e = let l = leb-true 97 b (both (nat_le 97 b) (nat_le b 122) e).0 in omega arith

pub word_no_decimal : (b : ℕ) → starts form.Word b ≡ true → is_decimal b ≡ true → ⊥
word_no_decimal b h d = let l = word_high b h in let k = leb-true b 57 (both (nat_le 48 b) (nat_le b 57) d).1 in omega arith

number_no_word : (b : ℕ) → starts form.Word b ≡ true → starts form.Number b ≡ true → ⊥
number_no_word b h n = go (is_decimal b) refl n
  where
    go : (v : Bool) → is_decimal b ≡ v → (v || nat_eq b 46) ≡ true → ⊥
    go true v-is e = word_no_decimal b h v-is
    go false v-is e = is_clash (starts form.Word) b 46 refl e h

-- ---- words

-- what begins as a word does is a word
word_only : (f : PieceForm) (b : ℕ) (bs : List ℕ) → starts form.Word b ≡ true → HasForm f (b ∷ bs) → IsWord (b ∷ bs)
word_only form.Word b bs h is = is
word_only form.Blank b bs h is = absurd (blank_clash (starts form.Word) b refl refl refl refl (first_byte form.Blank b bs is) h)
word_only form.Line b bs h is = absurd (pair_clash (starts form.Word) b 10 47 refl refl (first_byte form.Line b bs is) h)
word_only form.Opening b bs h is = absurd (is_clash (starts form.Word) b 47 refl (first_byte form.Opening b bs is) h)
word_only form.Number b bs h is = absurd (number_no_word b h (first_byte form.Number b bs is))
word_only form.Rune b bs h is = absurd (is_clash (starts form.Word) b 39 refl (first_byte form.Rune b bs is) h)
word_only form.Quoted b bs h is = absurd (is_clash (starts form.Word) b 34 refl (first_byte form.Quoted b bs is) h)
word_only form.Raw b bs h is = absurd (is_clash (starts form.Word) b 96 refl (first_byte form.Raw b bs is) h)
word_only (form.Operator place) b bs h is = absurd (word_no_sign b h (first_byte (form.Operator place) b bs is))

letter_among : (ws ds : List ℕ) (b : ℕ) → AllByRecursion IsLetterOrDigit (ws ++ b ∷ ds) → is_letter_or_digit b ≡ true
letter_among [] ds b all = all.0.1
letter_among (w ∷ ws) ds b all = letter_among ws ds b all.1

pub letter_behind : (w c b : ℕ) (ws cs ds : List ℕ) → c ∷ cs ≡ (w ∷ ws) ++ b ∷ ds → AllByRecursion IsLetterOrDigit cs → is_letter_or_digit b ≡ true
letter_behind w c b ws cs ds e all = letter_among ws ds b (subst (AllByRecursion IsLetterOrDigit) (cons_is c w cs (ws ++ b ∷ ds) e).1 all)

word_ends : (w u : List ℕ) (b : ℕ) → b < 128 → is_ascii_word b ≡ false → IsWord w → IsWord (w ++ b ∷ u) → ⊥
word_ends w u b lt fails is long =
    let split : encode_utf8_all (long.0 ∷ long.1) ++ [] ≡ encode_utf8_all (is.0 ∷ is.1) ++ (encode_utf8 b ++ u) =
    append-nil (encode_utf8_all (long.0 ∷ long.1)) ∙ sym long.5 ∙ ap (λ (x : List ℕ). x ++ b ∷ u) is.5 ∙ ap (λ (x : List ℕ). encode_utf8_all (is.0 ∷ is.1) ++ (x ++ u)) (sym (encode_ascii b lt)) in
    let a : length w ≡ length (encode_utf8_all (is.0 ∷ is.1)) = ap length is.5 in
    let l : length (w ++ b ∷ u) ≡ length (encode_utf8_all (long.0 ∷ long.1)) = ap length long.5 in
    let m = length-append w (b ∷ u) in
    let on = chars_go_on (is.0 ∷ is.1) (long.0 ∷ long.1) b [] u split (omega arith) in
    clash (is_ascii_word b) (sym (word_ascii b lt) ∙ letter_behind is.0 long.0 b is.1 long.1 on.0 on.1 long.4) fails

pub word_parts : (w : List ℕ) (b : ℕ) → b < 128 → is_ascii_word b ≡ false → IsWord w → Parts w b
word_parts [] b lt fails is other u p = let some = form_some form.Word [] is in absurd (omega arith)
word_parts (x ∷ w) b lt fails is other u p = word_ends (x ∷ w) u b lt fails is (word_only other x (w ++ b ∷ u) (first_byte form.Word x w is) p)

-- ---- numbers

-- a byte that may stand in a number behind the first
abbrev pub is_number_byte : ℕ → Bool
is_number_byte b = (is_hex_or_line b || is_x b) || ((is_o b || is_b b) || is_number_end b)

all_imply : (p q : ℕ → Bool) → ((b : ℕ) → p b ≡ true → q b ≡ true) → (xs : List ℕ) → list_all p xs ≡ true → list_all q xs ≡ true
all_imply p q imp [] all = refl
all_imply p q imp (x ∷ xs) all = let two = both (p x) (list_all p xs) all in rw (imp x two.0) (all_imply p q imp xs two.1)

hex_number : (b : ℕ) → is_hex_or_line b ≡ true → is_number_byte b ≡ true
hex_number b h = or_left (is_hex_or_line b || is_x b) ((is_o b || is_b b) || is_number_end b) (or_left (is_hex_or_line b) (is_x b) h)

line_number : (b : ℕ) → is_decimal_or_line b ≡ true → is_number_byte b ≡ true
line_number b h = hex_number b (go (is_decimal b) refl h)
  where
    go : (v : Bool) → is_decimal b ≡ v → (v || nat_eq b 95) ≡ true → is_hex_or_line b ≡ true
    go true v-is e = rw v-is refl
    go false v-is e = or_right (is_hex b) (nat_eq b 95) e

after_zero_bytes : (bs : List ℕ) → is_run_after_zero bs ≡ true → list_all is_number_byte bs ≡ true
after_zero_bytes [] e = refl
after_zero_bytes (x ∷ xs) e = go (is_x x) refl e
  where
    small : (is_o x || is_b x || is_decimal_or_line x) ≡ true → is_number_byte x ≡ true
    small h = by (is_o x || is_b x) refl h
      where
        by : (v : Bool) → (is_o x || is_b x) ≡ v → (v || is_decimal_or_line x) ≡ true → is_number_byte x ≡ true
        by true v-is g = or_right (is_hex_or_line x || is_x x) ((is_o x || is_b x) || is_number_end x) (or_left (is_o x || is_b x) (is_number_end x) v-is)
        by false v-is g = line_number x g

    go : (h : Bool) → is_x x ≡ h → cond h (list_all is_hex_or_line xs) ((is_o x || is_b x || is_decimal_or_line x) && list_all is_decimal_or_line xs) ≡ true → list_all is_number_byte (x ∷ xs) ≡ true
    go true h-is g =
        rw (or_left (is_hex_or_line x || is_x x) ((is_o x || is_b x) || is_number_end x) (or_right (is_hex_or_line x) (is_x x) h-is)) (all_imply is_hex_or_line is_number_byte hex_number xs g)
    go false h-is g =
        let two = both (is_o x || is_b x || is_decimal_or_line x) (list_all is_decimal_or_line xs) g in
        rw (small two.0) (all_imply is_decimal_or_line is_number_byte line_number xs two.1)

run_bytes : (x : ℕ) (xs : List ℕ) → is_run (x ∷ xs) ≡ true → list_all is_number_byte xs ≡ true
run_bytes x xs e = go (nat_eq x 48) refl e
  where
    go : (z : Bool) → nat_eq x 48 ≡ z → cond z (is_run_after_zero xs) (is_decimal x && list_all is_decimal_or_line xs) ≡ true → list_all is_number_byte xs ≡ true
    go true z-is h = after_zero_bytes xs h
    go false z-is h = all_imply is_decimal_or_line is_number_byte line_number xs (both (is_decimal x) (list_all is_decimal_or_line xs) h).1

all_join : (p : ℕ → Bool) (xs : List ℕ) (y : ℕ) → list_all p xs ≡ true → p y ≡ true → list_all p (xs ++ y ∷ []) ≡ true
all_join p [] y e h = rw h refl
all_join p (x ∷ xs) y e h = let two = both (p x) (list_all p xs) e in rw two.0 (all_join p xs y two.1 h)

end_number : (b : ℕ) → is_number_end b ≡ true → is_number_byte b ≡ true
end_number b h = or_right (is_hex_or_line b || is_x b) ((is_o b || is_b b) || is_number_end b) (or_right (is_o b || is_b b) (is_number_end b) h)

pub number_bytes : (x : ℕ) (xs : List ℕ) → is_decimal x ≡ true → IsNumber (x ∷ xs) → list_all is_number_byte xs ≡ true
number_bytes x xs d (inl run) = run_bytes x xs run
number_bytes x xs d (inr (inl p)) = go p.0 p.2 p.4
  where
    go : (run : List ℕ) → is_run run ≡ true → x ∷ xs ≡ run ++ p.1 ∷ [] → list_all is_number_byte xs ≡ true
    go [] r e = absurd cc
    go (y ∷ ys) r e = ap (list_all is_number_byte) (cons_is x y xs (ys ++ p.1 ∷ []) e).1 ∙ all_join is_number_byte ys p.1 (run_bytes y ys r) (end_number p.1 p.3)
number_bytes x xs d (inr (inr p)) = absurd (is_clash is_decimal x 46 refl (eq-eqb x 46 (cons_is x 46 xs (p.0 ∷ []) p.2).0) d)

pub all_among : (p : ℕ → Bool) (xs ys : List ℕ) (b : ℕ) → list_all p (xs ++ b ∷ ys) ≡ true → p b ≡ true
all_among p [] ys b e = (both (p b) (list_all p ys) e).0
all_among p (x ∷ xs) ys b e = all_among p xs ys b (both (p x) (list_all p (xs ++ b ∷ ys)) e).1

decimal_no_sign : (b : ℕ) → is_decimal b ≡ true → is_sign b ≡ true → ⊥
decimal_no_sign b d s = none_of is_decimal sign_bytes b refl s d

number_only : (f : PieceForm) (b : ℕ) (bs : List ℕ) → is_decimal b ≡ true → HasForm f (b ∷ bs) → IsNumber (b ∷ bs)
number_only form.Number b bs h is = is
number_only form.Word b bs h is = absurd (word_no_decimal b (first_byte form.Word b bs is) h)
number_only form.Blank b bs h is = absurd (blank_clash is_decimal b refl refl refl refl (first_byte form.Blank b bs is) h)
number_only form.Line b bs h is = absurd (pair_clash is_decimal b 10 47 refl refl (first_byte form.Line b bs is) h)
number_only form.Opening b bs h is = absurd (is_clash is_decimal b 47 refl (first_byte form.Opening b bs is) h)
number_only form.Rune b bs h is = absurd (is_clash is_decimal b 39 refl (first_byte form.Rune b bs is) h)
number_only form.Quoted b bs h is = absurd (is_clash is_decimal b 34 refl (first_byte form.Quoted b bs is) h)
number_only form.Raw b bs h is = absurd (is_clash is_decimal b 96 refl (first_byte form.Raw b bs is) h)
number_only (form.Operator place) b bs h is = absurd (decimal_no_sign b h (first_byte (form.Operator place) b bs is))

pub number_parts : (w : List ℕ) (b : ℕ) → is_run w ≡ true → is_number_byte b ≡ false → Parts w b
number_parts [] b run fails other u p = absurd cc
number_parts (x ∷ w) b run fails other u p =
    let d = run_first x w run in
    clash (is_number_byte b) (all_among is_number_byte w u b (number_bytes x (w ++ b ∷ u) d (number_only other x (w ++ b ∷ u) d p))) fails

-- ---- operators

-- what begins with a sign other than a slash is an operator, or a point and a digit
sign_only : (f : PieceForm) (b : ℕ) (bs : List ℕ) → is_sign b ≡ true → nat_eq b 47 ≡ false → HasForm f (b ∷ bs) → ((place : ℕ) × (slice_get operators place ≡ Some (b ∷ bs))) ⊎ ((b ≡ 46) × ((d : ℕ) × (is_decimal d ≡ true) × (bs ≡ d ∷ [])))
sign_only (form.Operator place) b bs s ns is = inl (place, is)
sign_only form.Word b bs s ns is = absurd (word_no_sign b (first_byte form.Word b bs is) s)
sign_only form.Blank b bs s ns is = absurd (blank_sign b ns (first_byte form.Blank b bs is) s)
  where
    blank_sign : (c : ℕ) → nat_eq c 47 ≡ false → starts form.Blank c ≡ true → is_sign c ≡ true → ⊥
    blank_sign c n e h = go (nat_eq c 32 || nat_eq c 9) refl e
      where
        go : (v : Bool) → (nat_eq c 32 || nat_eq c 9) ≡ v → (v || (nat_eq c 13 || nat_eq c 47)) ≡ true → ⊥
        go true v-is g = pair_clash is_sign c 32 9 refl refl v-is h
        go false v-is g = by (nat_eq c 13) refl g
          where
            by : (v : Bool) → nat_eq c 13 ≡ v → (v || nat_eq c 47) ≡ true → ⊥
            by true w-is k = is_clash is_sign c 13 refl w-is h
            by false w-is k = clash (nat_eq c 47) k n
sign_only form.Line b bs s ns is = absurd (go (nat_eq b 10) refl (first_byte form.Line b bs is))
  where
    go : (v : Bool) → nat_eq b 10 ≡ v → (v || nat_eq b 47) ≡ true → ⊥
    go true v-is g = is_clash is_sign b 10 refl v-is s
    go false v-is g = clash (nat_eq b 47) g ns
sign_only form.Opening b bs s ns is = absurd (clash (nat_eq b 47) (first_byte form.Opening b bs is) ns)
sign_only form.Number b bs s ns (inl run) = absurd (decimal_no_sign b (run_first b bs run) s)
sign_only form.Number b bs s ns (inr (inl p)) = absurd (go p.0 p.2 p.4)
  where
    go : (run : List ℕ) → is_run run ≡ true → b ∷ bs ≡ run ++ p.1 ∷ [] → ⊥
    go [] r e = absurd cc
    go (y ∷ ys) r e = decimal_no_sign b (subst (λ (x : ℕ). is_decimal x ≡ true) (sym (cons_is b y bs (ys ++ p.1 ∷ []) e).0) (run_first y ys r)) s
sign_only form.Number b bs s ns (inr (inr p)) = let two = cons_is b 46 bs (p.0 ∷ []) p.2 in inr (two.0, (p.0, p.1, two.1))
sign_only form.Rune b bs s ns is = absurd (is_clash is_sign b 39 refl (first_byte form.Rune b bs is) s)
sign_only form.Quoted b bs s ns is = absurd (is_clash is_sign b 34 refl (first_byte form.Quoted b bs is) s)
sign_only form.Raw b bs s ns is = absurd (is_clash is_sign b 96 refl (first_byte form.Raw b bs is) s)

-- does an operator of the table begin so and go on
abbrev goes_on_from : List ℕ → List ℕ → Bool
goes_on_from w word = starts_with nat_eq word w && nat_lt (length w) (length word)

starts_self : (w r : List ℕ) → starts_with nat_eq (w ++ r) w ≡ true
starts_self [] r = refl
starts_self (b ∷ w) r = rw (eq-eqb b b refl) (starts_self w r)

goes_on_so : (w u : List ℕ) (b : ℕ) → goes_on_from w (w ++ b ∷ u) ≡ true
goes_on_so w u b = let l = length-append w (b ∷ u) in rw (starts_self w (b ∷ u), lt-ltb (length w) (length (w ++ b ∷ u)) (omega arith)) refl

-- an operator from which no other goes on, that is neither a slash nor a point
abbrev pub is_closed_sign : List ℕ → Bool
is_closed_sign [] = false
is_closed_sign (x ∷ w) = is_sign x && (not (nat_eq x 47) && (not (nat_eq x 46) && list_all (λ word. not (goes_on_from (x ∷ w) word)) operators))

pub sign_parts : (w : List ℕ) (b : ℕ) → is_closed_sign w ≡ true → Parts w b
sign_parts [] b test other u p = absurd cc
sign_parts (x ∷ w) b test other u p = go (sign_only other x (w ++ b ∷ u) one.0 (not_true (nat_eq x 47) two.0) p)
  where
    one : (is_sign x ≡ true) × ((not (nat_eq x 47) && (not (nat_eq x 46) && list_all (λ word. not (goes_on_from (x ∷ w) word)) operators)) ≡ true)
    one = both (is_sign x) (not (nat_eq x 47) && (not (nat_eq x 46) && list_all (λ word. not (goes_on_from (x ∷ w) word)) operators)) test

    two : (not (nat_eq x 47) ≡ true) × ((not (nat_eq x 46) && list_all (λ word. not (goes_on_from (x ∷ w) word)) operators) ≡ true)
    two = both (not (nat_eq x 47)) (not (nat_eq x 46) && list_all (λ word. not (goes_on_from (x ∷ w) word)) operators) one.1

    three : (not (nat_eq x 46) ≡ true) × (list_all (λ word. not (goes_on_from (x ∷ w) word)) operators ≡ true)
    three = both (not (nat_eq x 46)) (list_all (λ word. not (goes_on_from (x ∷ w) word)) operators) two.1

    go : (((place : ℕ) × (slice_get operators place ≡ Some (x ∷ (w ++ b ∷ u)))) ⊎ ((x ≡ 46) × ((d : ℕ) × (is_decimal d ≡ true) × (w ++ b ∷ u ≡ d ∷ [])))) → ⊥
    go (inl q) = clash (goes_on_from (x ∷ w) (x ∷ (w ++ b ∷ u))) (goes_on_so (x ∷ w) u b) (not_true (goes_on_from (x ∷ w) (x ∷ (w ++ b ∷ u))) (all_at (λ word. not (goes_on_from (x ∷ w) word)) operators q.0 (x ∷ (w ++ b ∷ u)) three.1 q.1))
    go (inr q) = clash (nat_eq x 46) (eq-eqb x 46 q.0) (not_true (nat_eq x 46) three.0)

-- an operator of one byte before what no operator consists of, a point not before a digit
pub sign_before : (x b : ℕ) → is_sign x ≡ true → nat_eq x 47 ≡ false → is_sign b ≡ false → is_decimal b ≡ false → Parts (x ∷ []) b
sign_before x b s ns fails nd other u p = go (sign_only other x (b ∷ u) s ns p)
  where
    go : (((place : ℕ) × (slice_get operators place ≡ Some (x ∷ b ∷ u))) ⊎ ((x ≡ 46) × ((d : ℕ) × (is_decimal d ≡ true) × (b ∷ u ≡ d ∷ [])))) → ⊥
    go (inl q) = let signs = (operator_signs q.0 x (b ∷ u) q.1).1 in clash (is_sign b) (both (is_sign b) (list_all is_sign u) signs).0 fails
    go (inr q) = clash (is_decimal b) (subst (λ (y : ℕ). is_decimal y ≡ true) (sym (cons_is b q.1.0 u [] q.1.2).0) q.1.1) nd

-- ---- spaces, line ends, comments, texts

single_short : (b c : ℕ) (u : List ℕ) (x : ℕ) → x ∷ b ∷ u ≡ c ∷ [] → ⊥
single_short b c u x e = let l = ap length e in absurd (omega arith)

second_is : (x y a c : ℕ) (u v : List ℕ) → x ∷ y ∷ u ≡ a ∷ c ∷ v → (x ≡ a) × (y ≡ c)
second_is x y a c u v e = let one = cons_is x a (y ∷ u) (c ∷ v) e in (one.0, (cons_is y c u v one.1).0)

-- a space, a tab or a carriage return; or a newline
abbrev pub is_gap : ℕ → Bool
is_gap b = (nat_eq b 32 || nat_eq b 9) || (nat_eq b 13 || nat_eq b 10)

gap_parts_by : (x b : ℕ) → is_gap x ≡ true → Parts (x ∷ []) b
gap_parts_by x b g form.Blank u (inl p) = single_short b p.0 u x p.2
gap_parts_by x b g form.Blank u (inr (inl p)) = is_clash is_gap x 47 refl (eq-eqb x 47 (cons_is x 47 (b ∷ u) (47 ∷ p.0) p.1).0) g
gap_parts_by x b g form.Blank u (inr (inr p)) = is_clash is_gap x 47 refl (eq-eqb x 47 (cons_is x 47 (b ∷ u) (42 ∷ (p.0.0 ++ 42 ∷ 47 ∷ [])) p.0.1).0) g
gap_parts_by x b g form.Line u (inl e) = single_short b 10 u x e
gap_parts_by x b g form.Line u (inr p) = is_clash is_gap x 47 refl (eq-eqb x 47 (cons_is x 47 (b ∷ u) (42 ∷ (p.0.0 ++ 42 ∷ 47 ∷ [])) p.0.1).0) g
gap_parts_by x b g form.Opening u e = is_clash is_gap x 47 refl (eq-eqb x 47 (cons_is x 47 (b ∷ u) (42 ∷ []) e).0) g
gap_parts_by x b g form.Word u is = let h = word_high x (first_byte form.Word x (b ∷ u) is) in high (nat_eq x 32 || nat_eq x 9) refl g h
  where
    low : (j k : ℕ) → j < 65 → k < 65 → (nat_eq x j || nat_eq x k) ≡ true → 65 ≤ x → ⊥
    low j k lj lk e h = go (nat_eq x j) refl e
      where
        go : (v : Bool) → nat_eq x j ≡ v → (v || nat_eq x k) ≡ true → ⊥
        go true v-is f = let is-j = eqb-true x j v-is in omega arith
        go false v-is f = let is-k = eqb-true x k f in omega arith

    high : (v : Bool) → (nat_eq x 32 || nat_eq x 9) ≡ v → (v || (nat_eq x 13 || nat_eq x 10)) ≡ true → 65 ≤ x → ⊥
    high true v-is f h = low 32 9 (omega arith) (omega arith) v-is h
    high false v-is f h = low 13 10 (omega arith) (omega arith) f h
gap_parts_by x b g form.Number u is = go (is_decimal x) refl (first_byte form.Number x (b ∷ u) is)
  where
    by : (v : Bool) → (nat_eq x 32 || nat_eq x 9) ≡ v → (v || (nat_eq x 13 || nat_eq x 10)) ≡ true → is_decimal x ≡ true → ⊥
    by true v-is f d = pair_clash is_decimal x 32 9 refl refl v-is d
    by false v-is f d = pair_clash is_decimal x 13 10 refl refl f d

    go : (v : Bool) → is_decimal x ≡ v → (v || nat_eq x 46) ≡ true → ⊥
    go true v-is e = by (nat_eq x 32 || nat_eq x 9) refl g v-is
    go false v-is e = is_clash is_gap x 46 refl e g
gap_parts_by x b g form.Rune u is = is_clash is_gap x 39 refl (first_byte form.Rune x (b ∷ u) is) g
gap_parts_by x b g form.Quoted u is = is_clash is_gap x 34 refl (first_byte form.Quoted x (b ∷ u) is) g
gap_parts_by x b g form.Raw u is = is_clash is_gap x 96 refl (first_byte form.Raw x (b ∷ u) is) g
gap_parts_by x b g (form.Operator place) u is = none_of is_gap sign_bytes x refl (first_byte (form.Operator place) x (b ∷ u) is) g

pub gap_parts : (x b : ℕ) → is_gap x ≡ true → Parts (x ∷ []) b
gap_parts x b g = gap_parts_by x b g

-- what begins as a comment and ends as one
pub block_parts : (w : List ℕ) (b : ℕ) → IsBlockComment w → Parts w b
block_parts w b is other u p = go other (subst (HasForm other) front p) long
  where
    front : w ++ b ∷ u ≡ 47 ∷ 42 ∷ ((is.0 ++ 42 ∷ 47 ∷ []) ++ b ∷ u)
    front = ap (λ (x : List ℕ). x ++ b ∷ u) is.1

    long : IsBlockComment (47 ∷ 42 ∷ ((is.0 ++ 42 ∷ 47 ∷ []) ++ b ∷ u)) → ⊥
    long h = closed_once w u b is (subst IsBlockComment (sym front) h)

    go : (f : PieceForm) → HasForm f (47 ∷ 42 ∷ ((is.0 ++ 42 ∷ 47 ∷ []) ++ b ∷ u)) → (IsBlockComment (47 ∷ 42 ∷ ((is.0 ++ 42 ∷ 47 ∷ []) ++ b ∷ u)) → ⊥) → ⊥
    go form.Blank (inl q) fails = single_short 42 q.0 ((is.0 ++ 42 ∷ 47 ∷ []) ++ b ∷ u) 47 q.2
    go form.Blank (inr (inl q)) fails = let e = (second_is 47 42 47 47 ((is.0 ++ 42 ∷ 47 ∷ []) ++ b ∷ u) q.0 q.1).1 in absurd (omega arith)
    go form.Blank (inr (inr q)) fails = fails q.0
    go form.Line (inl e) fails = single_short 42 10 ((is.0 ++ 42 ∷ 47 ∷ []) ++ b ∷ u) 47 e
    go form.Line (inr q) fails = fails q.0
    go form.Opening e fails =
        let l = ap length e in
        let m = length-append (is.0 ++ 42 ∷ 47 ∷ []) (b ∷ u) in
        absurd (omega arith)
    go form.Word q fails = let h : false ≡ true = first_byte form.Word 47 (42 ∷ ((is.0 ++ 42 ∷ 47 ∷ []) ++ b ∷ u)) q in absurd cc
    go form.Number q fails = let h : false ≡ true = first_byte form.Number 47 (42 ∷ ((is.0 ++ 42 ∷ 47 ∷ []) ++ b ∷ u)) q in absurd cc
    go form.Rune q fails = let h : false ≡ true = first_byte form.Rune 47 (42 ∷ ((is.0 ++ 42 ∷ 47 ∷ []) ++ b ∷ u)) q in absurd cc
    go form.Quoted q fails = let h : false ≡ true = first_byte form.Quoted 47 (42 ∷ ((is.0 ++ 42 ∷ 47 ∷ []) ++ b ∷ u)) q in absurd cc
    go form.Raw q fails = let h : false ≡ true = first_byte form.Raw 47 (42 ∷ ((is.0 ++ 42 ∷ 47 ∷ []) ++ b ∷ u)) q in absurd cc
    go (form.Operator place) q fails = let h : false ≡ true = all_at opens_no_comment operators place (47 ∷ 42 ∷ ((is.0 ++ 42 ∷ 47 ∷ []) ++ b ∷ u)) refl q in absurd cc

-- a line comment stands before a newline
abbrev is_no_line : List ℕ → Bool
is_no_line w = not (starts_with nat_eq w (47 ∷ 47 ∷ []))

newline_among : (xs ys : List ℕ) → list_any is_newline (xs ++ 10 ∷ ys) ≡ false → ⊥
newline_among [] ys e = absurd cc
newline_among (x ∷ xs) ys e = newline_among xs ys (either (is_newline x) (list_any is_newline (xs ++ 10 ∷ ys)) e).1

pub comment_parts : (more : List ℕ) → Parts (47 ∷ 47 ∷ more) 10
comment_parts more form.Blank u (inl q) = single_short 47 q.0 (more ++ 10 ∷ u) 47 q.2
comment_parts more form.Blank u (inr (inl q)) =
    let one = cons_is 47 47 (47 ∷ (more ++ 10 ∷ u)) (47 ∷ q.0) q.1 in
    let two = cons_is 47 47 (more ++ 10 ∷ u) q.0 one.1 in
    newline_among more u (ap (list_any is_newline) two.1 ∙ q.2)
comment_parts more form.Blank u (inr (inr q)) = let e = (second_is 47 47 47 42 (more ++ 10 ∷ u) (q.0.0 ++ 42 ∷ 47 ∷ []) q.0.1).1 in absurd (omega arith)
comment_parts more form.Line u (inl e) = single_short 47 10 (more ++ 10 ∷ u) 47 e
comment_parts more form.Line u (inr q) = let e = (second_is 47 47 47 42 (more ++ 10 ∷ u) (q.0.0 ++ 42 ∷ 47 ∷ []) q.0.1).1 in absurd (omega arith)
comment_parts more form.Opening u e = let f = (second_is 47 47 47 42 (more ++ 10 ∷ u) [] e).1 in absurd (omega arith)
comment_parts more form.Word u q = let h : false ≡ true = first_byte form.Word 47 (47 ∷ (more ++ 10 ∷ u)) q in absurd cc
comment_parts more form.Number u q = let h : false ≡ true = first_byte form.Number 47 (47 ∷ (more ++ 10 ∷ u)) q in absurd cc
comment_parts more form.Rune u q = let h : false ≡ true = first_byte form.Rune 47 (47 ∷ (more ++ 10 ∷ u)) q in absurd cc
comment_parts more form.Quoted u q = let h : false ≡ true = first_byte form.Quoted 47 (47 ∷ (more ++ 10 ∷ u)) q in absurd cc
comment_parts more form.Raw u q = let h : false ≡ true = first_byte form.Raw 47 (47 ∷ (more ++ 10 ∷ u)) q in absurd cc
comment_parts more (form.Operator place) u q = let h : false ≡ true = all_at is_no_line operators place (47 ∷ 47 ∷ (more ++ 10 ∷ u)) refl q in absurd cc

-- a text in double quotes
pub text_parts : (w : List ℕ) (b : ℕ) → IsBetween 34 (34 ∷ w) → Parts (34 ∷ w) b
text_parts w b is form.Quoted u q = quoted_once 34 (34 ∷ w) u b is q
text_parts w b is form.Blank u q = let h : false ≡ true = first_byte form.Blank 34 (w ++ b ∷ u) q in absurd cc
text_parts w b is form.Line u q = let h : false ≡ true = first_byte form.Line 34 (w ++ b ∷ u) q in absurd cc
text_parts w b is form.Opening u q = let h : false ≡ true = first_byte form.Opening 34 (w ++ b ∷ u) q in absurd cc
text_parts w b is form.Word u q = let h : false ≡ true = first_byte form.Word 34 (w ++ b ∷ u) q in absurd cc
text_parts w b is form.Number u q = let h : false ≡ true = first_byte form.Number 34 (w ++ b ∷ u) q in absurd cc
text_parts w b is form.Rune u q = let h : false ≡ true = first_byte form.Rune 34 (w ++ b ∷ u) q in absurd cc
text_parts w b is form.Raw u q = let h : false ≡ true = first_byte form.Raw 34 (w ++ b ∷ u) q in absurd cc
text_parts w b is (form.Operator place) u q = let h : false ≡ true = first_byte (form.Operator place) 34 (w ++ b ∷ u) q in absurd cc
