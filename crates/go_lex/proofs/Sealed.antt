-- What begins no character within a piece begins none with what follows the piece.
use Rattle.std.proofs.Common.{◌≡◌, ◌≢◌, ℕ, zero, suc, ◌-◌, ◌<◌, ◌≤◌, Bool, true, false, ◌&&◌, ◌||◌, ◌⊎◌, inl, inr, cond, List, [], ◌∷◌, ◌++◌, length, take, drop, get_or, refl, sym, ap, subst, ◌∙◌, arith, append_assoc, nat_le, nat_lt, nat_eq}
use Rattle.std.specs.Prelude.{encode_utf8}
use Rattle.std.specs.List.{list_all, list_any, AllByRecursion}
use Rattle.std.specs.Str.{encode_utf8_all, StartsWithNoChar}
use Rattle.std.specs.Char.{IsScalar}
use Rattle.std.proofs.lemmas.List.{append-nil, length-append, take_at, take-append-drop, take-append-le}
use Rattle.std.proofs.lemmas.Str.{encode_same, inside_one, length-encode, len_utf8_ascii}
use Rattle.std.proofs.lemmas.Bool.{eqb-true, leb-true, leb-false, ltb-true, lt-ltb}
use Rattle.go_ast.specs.declared.token.PieceForm.{PieceForm}
use Rattle.go_ast.specs.declared.token.PieceForm.TheVariants as form
use Rattle.go_ast.specs.Places.{is_newline}
use Rattle.go_ast.specs.Numbers.{is_decimal, is_hex, is_x, is_o, is_b, is_decimal_or_line, is_hex_or_line, is_run, is_run_after_zero, is_number_end}
use Rattle.go_ast.specs.Literals.{inner}
use Rattle.go_ast.specs.Words.{operators}
use Rattle.go_ast.specs.Pieces.{HasForm, IsLongest, IsWord, IsLineComment, IsBlockComment}
use Rattle.go_lex.specs.Fronts.{IsLetterOrDigit}
use Rattle.go_lex.proofs.Values.{both}
use Rattle.go_lex.proofs.Closes.{either}
use Rattle.go_lex.proofs.Characters.{encode_len}
use Rattle.go_lex.proofs.Reaches.{space_other}
use Rattle.go_lex.proofs.Slashes.{all_at}

-- ---- bytes of ASCII

abbrev is_low : ℕ → Bool
is_low b = nat_lt b 128

abbrev pub last : List ℕ → ℕ
last [] = 0
last (x ∷ []) = x
last (x ∷ y ∷ ys) = last (y ∷ ys)

last_append : (xs : List ℕ) (y : ℕ) (ys : List ℕ) → last (xs ++ y ∷ ys) ≡ last (y ∷ ys)
last_append [] y ys = refl
last_append (x ∷ []) y ys = refl
last_append (x ∷ z ∷ zs) y ys = last_append (z ∷ zs) y ys

last_is : (xs : List ℕ) → last xs ≡ get_or xs (length xs - 1) 0
last_is [] = refl
last_is (x ∷ []) = refl
last_is (x ∷ y ∷ ys) = let k : length (x ∷ y ∷ ys) - 1 ≡ suc (length (y ∷ ys) - 1) = omega arith in last_is (y ∷ ys) ∙ ap (λ (n : ℕ). get_or (x ∷ y ∷ ys) n 0) (sym k)

low_last : (xs : List ℕ) → list_all is_low xs ≡ true → last xs < 128
low_last [] all = omega arith
low_last (x ∷ []) all = ltb-true x 128 (both (is_low x) true all).0
low_last (x ∷ y ∷ ys) all = low_last (y ∷ ys) (both (is_low x) (list_all is_low (y ∷ ys)) all).1

low : (b : ℕ) → b < 128 → is_low b ≡ true
low b lt = lt-ltb b 128 lt

all_imply : (p q : ℕ → Bool) → ((b : ℕ) → p b ≡ true → q b ≡ true) → (xs : List ℕ) → list_all p xs ≡ true → list_all q xs ≡ true
all_imply p q imp [] all = refl
all_imply p q imp (x ∷ xs) all = let two = both (p x) (list_all p xs) all in rw (imp x two.0) (all_imply p q imp xs two.1)

or_low : (a b : Bool) (n : ℕ) → (a ≡ true → n < 128) → (b ≡ true → n < 128) → (a || b) ≡ true → n < 128
or_low true b n ha hb e = ha refl
or_low false b n ha hb e = hb e

eq_low : (b k : ℕ) → k < 128 → nat_eq b k ≡ true → b < 128
eq_low b k lt e = let is = eqb-true b k e in omega arith

range_low : (a c b : ℕ) → c < 128 → (nat_le a b && nat_le b c) ≡ true → b < 128
range_low a c b lt e = let le = leb-true b c (both (nat_le a b) (nat_le b c) e).1 in omega arith

decimal_low : (b : ℕ) → is_decimal b ≡ true → b < 128
decimal_low b e = range_low 48 57 b (omega arith) e

decimal_line_low : (b : ℕ) → is_decimal_or_line b ≡ true → is_low b ≡ true
decimal_line_low b e = low b (or_low (is_decimal b) (nat_eq b 95) b (decimal_low b) (eq_low b 95 (omega arith)) e)

hex_line_low : (b : ℕ) → is_hex_or_line b ≡ true → is_low b ≡ true
hex_line_low b e =
    low b
    (or_low (is_hex b) (nat_eq b 95) b
    (or_low (is_decimal b) ((nat_le 65 b && nat_le b 70) || (nat_le 97 b && nat_le b 102)) b (decimal_low b)
    (or_low (nat_le 65 b && nat_le b 70) (nat_le 97 b && nat_le b 102) b (range_low 65 70 b (omega arith)) (range_low 97 102 b (omega arith))))
    (eq_low b 95 (omega arith)) e)

pair_low : (b x y : ℕ) → x < 128 → y < 128 → (nat_eq b x || nat_eq b y) ≡ true → b < 128
pair_low b x y hx hy e = or_low (nat_eq b x) (nat_eq b y) b (eq_low b x hx) (eq_low b y hy) e

end_low : (b : ℕ) → is_number_end b ≡ true → b < 128
end_low b e =
    or_low (nat_eq b 46 || (nat_eq b 101 || nat_eq b 69) || (nat_eq b 112 || nat_eq b 80)) (nat_eq b 105) b
    (or_low (nat_eq b 46 || (nat_eq b 101 || nat_eq b 69)) (nat_eq b 112 || nat_eq b 80) b
    (or_low (nat_eq b 46) (nat_eq b 101 || nat_eq b 69) b (eq_low b 46 (omega arith)) (pair_low b 101 69 (omega arith) (omega arith)))
    (pair_low b 112 80 (omega arith) (omega arith)))
    (eq_low b 105 (omega arith)) e

after_zero_low : (bs : List ℕ) → is_run_after_zero bs ≡ true → list_all is_low bs ≡ true
after_zero_low [] e = refl
after_zero_low (x ∷ xs) e = go (is_x x) (is_o x || is_b x || is_decimal_or_line x) refl refl e
  where
    first : (is_o x || is_b x || is_decimal_or_line x) ≡ true → is_low x ≡ true
    first h =
        low x
        (or_low (is_o x || is_b x) (is_decimal_or_line x) x (or_low (is_o x) (is_b x) x (pair_low x 111 79 (omega arith) (omega arith)) (pair_low x 98 66 (omega arith) (omega arith)))
        (λ d. ltb-true x 128 (decimal_line_low x d)) h)

    go : (a d : Bool) → is_x x ≡ a → (is_o x || is_b x || is_decimal_or_line x) ≡ d → cond a (list_all is_hex_or_line xs) (d && list_all is_decimal_or_line xs) ≡ true → list_all is_low (x ∷ xs) ≡ true
    go true d a-is d-is h = rw (low x (pair_low x 120 88 (omega arith) (omega arith) a-is)) (all_imply is_hex_or_line is_low hex_line_low xs h)
    go false true a-is d-is h = rw (first d-is) (all_imply is_decimal_or_line is_low decimal_line_low xs h)
    go false false a-is d-is h = absurd cc

run_low : (bs : List ℕ) → is_run bs ≡ true → list_all is_low bs ≡ true
run_low [] e = absurd cc
run_low (x ∷ xs) e = go (nat_eq x 48) refl e
  where
    go : (z : Bool) → nat_eq x 48 ≡ z → cond z (is_run_after_zero xs) (is_decimal x && list_all is_decimal_or_line xs) ≡ true → list_all is_low (x ∷ xs) ≡ true
    go true z-is h = rw (low x (eq_low x 48 (omega arith) z-is)) (after_zero_low xs h)
    go false z-is h = let two = both (is_decimal x) (list_all is_decimal_or_line xs) h in rw (low x (decimal_low x two.0)) (all_imply is_decimal_or_line is_low decimal_line_low xs two.1)

-- ---- how pieces end

-- a piece ends with ASCII, or is whole characters, or a comment up to a newline
pub data Seal (piece : List ℕ) : Type 0 where
  ascii : last piece < 128 → Seal piece
  word : IsWord piece → Seal piece
  line : IsLineComment piece → Seal piece

low_end : (piece init : List ℕ) (b : ℕ) → piece ≡ init ++ b ∷ [] → b < 128 → last piece < 128
low_end piece init b e lt = subst (λ (x : List ℕ). last x < 128) (sym e) (rw (last_append init b []) lt)

block_end : (piece : List ℕ) → IsBlockComment piece → last piece < 128
block_end piece is = low_end piece (47 ∷ 42 ∷ (is.0 ++ 42 ∷ [])) 47 (is.1 ∙ ap (λ (x : List ℕ). 47 ∷ 42 ∷ x) (sym (append_assoc is.0 (42 ∷ []) (47 ∷ [])))) (omega arith)

space_end : (b : ℕ) → ((b ≡ 32) ⊎ (b ≡ 9) ⊎ (b ≡ 13)) → b < 128
space_end b (inl e) = omega arith
space_end b (inr (inl e)) = omega arith
space_end b (inr (inr e)) = omega arith

pub seal_of : (f : PieceForm) (piece : List ℕ) → HasForm f piece → Seal piece
seal_of form.Blank piece (inl p) = ascii (low_end piece [] p.0 p.2 (space_end p.0 (space_other p.0 p.1)))
seal_of form.Blank piece (inr (inl is)) = line is
seal_of form.Blank piece (inr (inr is)) = ascii (block_end piece is.0)
seal_of form.Line piece (inl is) = ascii (low_end piece [] 10 is (omega arith))
seal_of form.Line piece (inr is) = ascii (block_end piece is.0)
seal_of form.Opening piece is = ascii (low_end piece (47 ∷ []) 42 is (omega arith))
seal_of form.Word piece is = word is
seal_of form.Number piece (inl run) = ascii (low_last piece (run_low piece run))
seal_of form.Number piece (inr (inl p)) = ascii (low_end piece p.0 p.1 p.4 (end_low p.1 p.3))
seal_of form.Number piece (inr (inr p)) = ascii (low_end piece (46 ∷ []) p.0 p.2 (decimal_low p.0 p.1))
seal_of form.Rune piece is = ascii (low_end piece (39 ∷ inner piece) 39 is.1 (omega arith))
seal_of form.Quoted piece is = ascii (low_end piece (34 ∷ inner piece) 34 is.1 (omega arith))
seal_of form.Raw piece is = ascii (low_end piece (96 ∷ is.0) 96 is.2 (omega arith))
seal_of (form.Operator place) piece is = ascii (low_last piece (all_at (list_all is_low) operators place piece refl is))

-- ---- no character goes on behind a piece

-- a character of several bytes has no byte of ASCII
wide : (c k : ℕ) (rest bytes : List ℕ) → bytes ≡ encode_utf8 c ++ rest → 1 < length (encode_utf8 c) → k < length (encode_utf8 c) → get_or bytes k 0 < 128 → ⊥
wide c k rest bytes e some lt is-low =
    let is = inside_one c rest bytes k e lt is-low in
    let one = len_utf8_ascii c (rw is is-low) in
    let len = length-encode c in
    omega arith

get_front : (xs ys : List ℕ) (k : ℕ) → k < length xs → get_or (xs ++ ys) k 0 ≡ get_or xs k 0
get_front [] ys k lt = absurd (omega arith)
get_front (x ∷ xs) ys zero lt = refl
get_front (x ∷ xs) ys (suc k) lt = get_front xs ys k (omega arith)

get_behind : (xs ys : List ℕ) (y : ℕ) → get_or (xs ++ y ∷ ys) (length xs) 0 ≡ y
get_behind [] ys y = refl
get_behind (x ∷ xs) ys y = get_behind xs ys y

-- a character that doesn't go past the front stands in it
front_character : (r more rest : List ℕ) (c : ℕ) → IsScalar c → StartsWithNoChar r → length (encode_utf8 c) ≤ length r → r ++ more ≡ encode_utf8 c ++ rest → ⊥
front_character r more rest c is none le e =
    let n = length (encode_utf8 c) in
    let front : take (length (encode_utf8 c)) r ≡ encode_utf8 c = sym (take-append-le (length (encode_utf8 c)) r more le) ∙ ap (take (length (encode_utf8 c))) e ∙ take_at (encode_utf8 c) rest (length (encode_utf8 c)) refl in
    none c (drop (length (encode_utf8 c)) r) is (sym (take-append-drop (length (encode_utf8 c)) r) ∙ ap (λ (x : List ℕ). x ++ drop (length (encode_utf8 c)) r) front)

ascii_sealed : (r more : List ℕ) → r ≢ [] → last r < 128 → StartsWithNoChar r → StartsWithNoChar (r ++ more)
ascii_sealed [] more some lt none c rest is e = some refl
ascii_sealed (x ∷ xs) more some lt none c rest is e = go (nat_le (length (encode_utf8 c)) (length (x ∷ xs))) refl
  where
    go : (v : Bool) → nat_le (length (encode_utf8 c)) (length (x ∷ xs)) ≡ v → ⊥
    go true v-is = front_character (x ∷ xs) more rest c is none (leb-true (length (encode_utf8 c)) (length (x ∷ xs)) v-is) e
    go false v-is =
        let longer = leb-false (length (encode_utf8 c)) (length (x ∷ xs)) v-is in
        let same = get_front (x ∷ xs) more (length (x ∷ xs) - 1) (omega arith) in
        let end = last_is (x ∷ xs) in
        wide c (length (x ∷ xs) - 1) rest ((x ∷ xs) ++ more) e (omega arith) (omega arith) (omega arith)

-- whole characters have no front of a character behind some of them
whole_none : (cs ds : List ℕ) (r : List ℕ) → AllByRecursion IsScalar ds → encode_utf8_all ds ≡ encode_utf8_all cs ++ r → r ≢ [] → StartsWithNoChar r → ⊥
whole_none [] [] r all e some none = some (sym e)
whole_none [] (d ∷ ds) r all e some none = none d (encode_utf8_all ds) all.0 (sym e)
whole_none (c ∷ cs) [] r all e some none =
    let l = length-append (encode_utf8 c) (encode_utf8_all cs) in
    let m = length-append (encode_utf8_all (c ∷ cs)) r in
    let k : 0 ≡ length (encode_utf8_all (c ∷ cs) ++ r) = ap length e in
    let s = (encode_len c).0 in
    absurd (omega arith)
whole_none (c ∷ cs) (d ∷ ds) r all e some none =
    let one = encode_same d c (encode_utf8_all ds) (encode_utf8_all cs ++ r) (e ∙ append_assoc (encode_utf8 c) (encode_utf8_all cs) r) in
    whole_none cs ds r all.1 one.1 some none

all_scalars : (cs : List ℕ) → AllByRecursion IsLetterOrDigit cs → AllByRecursion IsScalar cs
all_scalars [] all = tt
all_scalars (c ∷ cs) all = (all.0.0, all_scalars cs all.1)

any_append : (p : ℕ → Bool) (xs : List ℕ) (b : ℕ) → list_any p xs ≡ false → p b ≡ false → list_any p (xs ++ b ∷ []) ≡ false
any_append p [] b e f = rw f refl
any_append p (x ∷ xs) b e f = let two = either (p x) (list_any p xs) e in rw two.0 (any_append p xs b two.1 f)

-- a comment goes up to a newline
line_end : (f : PieceForm) (piece : List ℕ) (b : ℕ) (more : List ℕ) → IsLineComment piece → IsLongest f piece (b ∷ more) → b ≡ 10
line_end f piece b more is l = go (nat_eq b 10) refl
  where
    go : (v : Bool) → nat_eq b 10 ≡ v → b ≡ 10
    go true v-is = eqb-true b 10 v-is
    go false v-is =
        let has : HasForm form.Blank (piece ++ b ∷ []) = inr (inl (is.0 ++ b ∷ [], ap (λ (x : List ℕ). x ++ b ∷ []) is.1, any_append is_newline is.0 b is.2 v-is)) in
        let most = l.longest form.Blank (piece ++ b ∷ []) more has (sym (append_assoc piece (b ∷ []) more)) in
        let len = length-append piece (b ∷ []) in
        absurd (omega arith)

line_sealed_by : (x : ℕ) (xs more rest : List ℕ) (b c : ℕ) → b ≡ 10 → IsScalar c → StartsWithNoChar (x ∷ xs) → (x ∷ xs) ++ b ∷ more ≡ encode_utf8 c ++ rest → ⊥
line_sealed_by x xs more rest b c end is none e = go (nat_le (length (encode_utf8 c)) (length (x ∷ xs))) refl
  where
    go : (v : Bool) → nat_le (length (encode_utf8 c)) (length (x ∷ xs)) ≡ v → ⊥
    go true v-is = front_character (x ∷ xs) (b ∷ more) rest c is none (leb-true (length (encode_utf8 c)) (length (x ∷ xs)) v-is) e
    go false v-is =
        let longer = leb-false (length (encode_utf8 c)) (length (x ∷ xs)) v-is in
        let byte = get_behind (x ∷ xs) more b in
        wide c (length (x ∷ xs)) rest ((x ∷ xs) ++ b ∷ more) e (omega arith) longer (omega arith)

line_sealed : (f : PieceForm) (piece r more : List ℕ) → IsLineComment piece → IsLongest f piece more → r ≢ [] → StartsWithNoChar r → StartsWithNoChar (r ++ more)
line_sealed f piece r [] is l some none = subst StartsWithNoChar (sym (append-nil r)) none
line_sealed f piece [] (b ∷ more) is l some none = absurd (some refl)
line_sealed f piece (x ∷ xs) (b ∷ more) is l some none = λ c rest scalar e. line_sealed_by x xs more rest b c (line_end f piece b more is l) scalar none e

last_behind : (xs r : List ℕ) → r ≢ [] → last (xs ++ r) ≡ last r
last_behind xs [] some = absurd (some refl)
last_behind xs (y ∷ ys) some = last_append xs y ys

pub sealed : (f : PieceForm) (piece more cs r : List ℕ) → IsLongest f piece more → piece ≡ encode_utf8_all cs ++ r → r ≢ [] → StartsWithNoChar r → StartsWithNoChar (r ++ more)
sealed f piece more cs r l e some none = go (seal_of f piece l.has_form)
  where
    go : Seal piece → StartsWithNoChar (r ++ more)
    go (ascii lt) = ascii_sealed r more some (subst (λ (n : ℕ). n < 128) (ap last e ∙ last_behind (encode_utf8_all cs) r some) lt) none
    go (word is) = absurd (whole_none cs (is.0 ∷ is.1) r (is.2, all_scalars is.1 is.4) (sym is.5 ∙ e) some none)
    go (line is) = line_sealed f piece r more is l some none
