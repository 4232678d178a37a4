-- A piece that stands at the front is found, or a longer one.
use Rattle.std.proofs.Common.{◌≡◌, ◌≢◌, ℕ, ◌+◌, ◌<◌, ◌≤◌, Bool, true, false, ◌||◌, ◌⊎◌, inl, inr, List, [], ◌∷◌, ◌++◌, length, Option, Some, refl, sym, ap, subst, ◌∙◌, arith, append_assoc, nat_le, nat_eq}
use Rattle.std.specs.Prelude.{encode_utf8}
use Rattle.std.specs.List.{list_any}
use Rattle.std.specs.Str.{encode_utf8_all}
use Rattle.std.proofs.lemmas.List.{length-append}
use Rattle.std.proofs.lemmas.Bool.{eqb-true, lt-ltb, leb-true}
use Rattle.go_ast.specs.declared.token.PieceForm.{PieceForm}
use Rattle.go_ast.specs.declared.token.PieceForm.TheVariants as form
use Rattle.go_ast.specs.Numbers.{is_decimal, is_run}
use Rattle.go_ast.specs.Literals.{inner}
use Rattle.go_ast.specs.Pieces.{IsBetween, IsWord, IsNumber}
use Rattle.go_lex.specs.Scan.{number_len, run_len, quote_close, raw_close}
use Rattle.go_lex.specs.Pieces.{piece_by, other_front, slash_front, quoted_by}
use Rattle.go_lex.specs.Fronts.{IsWordLen}
use Rattle.go_lex.proofs.Values.{both}
use Rattle.go_lex.proofs.Characters.{encode_len}
use Rattle.go_lex.proofs.Runs.{run_first, number_reaches}
use Rattle.go_lex.proofs.Closes.{quote_reaches, raw_reaches}
use Rattle.go_lex.proofs.Table.{is_ascii_letter}
use Rattle.go_lex.proofs.Letters.{no_word}

-- a piece of this form at the front gives one that is as long
pub record Reaches (form : PieceForm) (bytes text : List ℕ) (word : ℕ) : Type 0 where
  pub other : PieceForm
  pub len : ℕ
  pub found : piece_by word text ≡ Some (other, len)
  pub long : length bytes ≤ len
  pub only : len ≡ length bytes → other ≡ form

-- what is found where neither a word nor a number begins
pub piece_is : (word : ℕ) (text : List ℕ) → word ≡ 0 → number_len text ≡ 0 → piece_by word text ≡ other_front text
piece_is word text w n = rw (w, n) refl

pub word_reaches : (bytes text rest : List ℕ) (word : ℕ) → IsWord bytes → text ≡ bytes ++ rest → IsWordLen text word → Reaches form.Word bytes text word
word_reaches bytes text rest word is e len =
    let long = len.longest bytes rest is e in
    let l = length-append (encode_utf8 is.0) (encode_utf8_all is.1) in
    let some = (encode_len is.0).0 in
    let k : length bytes ≡ length (encode_utf8_all (is.0 ∷ is.1)) = ap length is.5 in
    record { other = form.Word; len = word; found = rw (lt-ltb 0 word (omega arith)) refl; long = long; only = λ _. refl }

number_some : (bytes : List ℕ) → IsNumber bytes → 0 < length bytes
number_some [] (inl run) = absurd cc
number_some [] (inr (inl p)) = let l = length-append p.0 (p.1 ∷ []) in let k : 0 ≡ length (p.0 ++ p.1 ∷ []) = ap length p.4 in absurd (omega arith)
number_some [] (inr (inr p)) = absurd cc
number_some (b ∷ bs) is = omega arith

false_le : (a b : ℕ) → b < a → nat_le a b ≡ false
false_le a b lt = go (nat_le a b) refl
  where
    go : (v : Bool) → nat_le a b ≡ v → v ≡ false
    go true e = let le = leb-true a b e in absurd (omega arith)
    go false e = refl

false_eq : (a b : ℕ) → a ≢ b → nat_eq a b ≡ false
false_eq a b ne = go (nat_eq a b) refl
  where
    go : (v : Bool) → nat_eq a b ≡ v → v ≡ false
    go true e = absurd (ne (eqb-true a b e))
    go false e = refl

pub decimal_range : (b : ℕ) → is_decimal b ≡ true → (48 ≤ b) × (b ≤ 57)
decimal_range b d = let two = both (nat_le 48 b) (nat_le b 57) d in (leb-true 48 b two.0, leb-true b 57 two.1)

decimal_letter : (b : ℕ) → is_decimal b ≡ true → is_ascii_letter b ≡ false
decimal_letter b d =
    let r = decimal_range b d in
    let high = r.1 in
    let ne : b ≢ 95 = λ e. absurd (omega arith) in
    rw (false_eq b 95 ne, false_le 65 b (omega arith), false_le 97 b (omega arith)) refl

-- how a number begins
pub record IsNumberFirst (bytes : List ℕ) : Type 0 where
  pub byte : ℕ
  pub more : List ℕ
  pub is : bytes ≡ byte ∷ more
  pub ascii : byte < 128
  pub letter : is_ascii_letter byte ≡ false

decimal_first : (b : ℕ) (bs : List ℕ) → is_decimal b ≡ true → IsNumberFirst (b ∷ bs)
decimal_first b bs d = let high = (decimal_range b d).1 in record { byte = b; more = bs; is = refl; ascii = omega arith; letter = decimal_letter b d }

number_first : (bytes : List ℕ) → IsNumber bytes → IsNumberFirst bytes
number_first bytes (inl run) = go bytes run
  where
    go : (w : List ℕ) → is_run w ≡ true → IsNumberFirst w
    go [] h = absurd cc
    go (b ∷ bs) h = decimal_first b bs (run_first b bs h)
number_first bytes (inr (inl p)) = go p.0 p.2 p.4
  where
    go : (w : List ℕ) → is_run w ≡ true → bytes ≡ w ++ p.1 ∷ [] → IsNumberFirst bytes
    go [] h e = absurd cc
    go (b ∷ bs) h e = subst IsNumberFirst (sym e) (decimal_first b (bs ++ p.1 ∷ []) (run_first b bs h))
number_first bytes (inr (inr p)) = subst IsNumberFirst (sym p.2) (record { byte = 46; more = p.0 ∷ []; is = refl; ascii = omega arith; letter = refl })

pub piece_number : (word : ℕ) (text : List ℕ) → word ≡ 0 → 0 < number_len text → piece_by word text ≡ Some (form.Number, number_len text)
piece_number word text w some = rw (w, lt-ltb 0 (number_len text) some) refl

pub number_form_reaches : (bytes text rest : List ℕ) (word : ℕ) → IsNumber bytes → text ≡ bytes ++ rest → IsWordLen text word → Reaches form.Number bytes text word
number_form_reaches bytes text rest word is e len =
    let first = number_first bytes is in
    let front : text ≡ first.byte ∷ (first.more ++ rest) = e ∙ ap (λ (x : List ℕ). x ++ rest) first.is in
    let none : word ≡ 0 = no_word first.byte (first.more ++ rest) word first.ascii first.letter (subst (λ (t : List ℕ). IsWordLen t word) front len) in
    let some = number_some bytes is in
    let long = number_reaches bytes rest is in
    let same : number_len text ≡ number_len (bytes ++ rest) = ap number_len e in
    record { other = form.Number; len = number_len text; found = piece_number word text none (omega arith); long = omega arith; only = λ _. refl }

-- ---- what begins with a byte that begins neither a word nor a number

pub no_number : (b : ℕ) (bs : List ℕ) → nat_eq b 46 ≡ false → is_decimal b ≡ false → number_len (b ∷ bs) ≡ 0
unfolding number_len run_len
no_number b bs p d = go (nat_eq b 48) refl
  where
    go : (v : Bool) → nat_eq b 48 ≡ v → number_len (b ∷ bs) ≡ 0
    go true e = let is = eqb-true b 48 e in let f : is_decimal 48 ≡ false = rw is at d in absurd cc
    go false e = rw (p, e, d) refl

-- such a byte: ASCII, no letter, no digit, no point
pub record IsOther (b : ℕ) : Type 0 where
  pub ascii : b < 128
  pub letter : is_ascii_letter b ≡ false
  pub point : nat_eq b 46 ≡ false
  pub digit : is_decimal b ≡ false

pub other_is : (b : ℕ) (bs : List ℕ) (word : ℕ) → IsOther b → IsWordLen (b ∷ bs) word → piece_by word (b ∷ bs) ≡ other_front (b ∷ bs)
other_is b bs word is len = piece_is word (b ∷ bs) (no_word b bs word is.ascii is.letter len) (no_number b bs is.point is.digit)

-- the piece found at a front of another kind, by its computing
pub reaches_by : (f : PieceForm) (b : ℕ) (bs rest : List ℕ) (word n : ℕ) → IsOther b → other_front (b ∷ (bs ++ rest)) ≡ Some (f, n) → n ≡ length (b ∷ bs) → IsWordLen (b ∷ (bs ++ rest)) word → Reaches f (b ∷ bs) (b ∷ (bs ++ rest)) word
reaches_by f b bs rest word n is front long len = record { other = f; len = n; found = other_is b (bs ++ rest) word is len ∙ front; long = omega arith; only = λ _. refl }

pub space_other : (b : ℕ) → list_any (λ c. nat_eq b c) (32 ∷ 9 ∷ 13 ∷ []) ≡ true → (b ≡ 32) ⊎ (b ≡ 9) ⊎ (b ≡ 13)
space_other b h = go (nat_eq b 32) (nat_eq b 9) (nat_eq b 13) refl refl refl h
  where
    go : (x y z : Bool) → nat_eq b 32 ≡ x → nat_eq b 9 ≡ y → nat_eq b 13 ≡ z → (x || (y || (z || false))) ≡ true → (b ≡ 32) ⊎ (b ≡ 9) ⊎ (b ≡ 13)
    go true y z x-is y-is z-is e = inl (eqb-true b 32 x-is)
    go false true z x-is y-is z-is e = inr (inl (eqb-true b 9 y-is))
    go false false true x-is y-is z-is e = inr (inr (eqb-true b 13 z-is))
    go false false false x-is y-is z-is e = absurd cc

pub other_byte : (b : ℕ) → b < 128 → is_ascii_letter b ≡ false → nat_eq b 46 ≡ false → is_decimal b ≡ false → IsOther b
other_byte b a l p d = record { ascii = a; letter = l; point = p; digit = d }

other_32 : IsOther 32
other_32 = other_byte 32 (omega arith) refl refl refl

other_9 : IsOther 9
other_9 = other_byte 9 (omega arith) refl refl refl

other_13 : IsOther 13
other_13 = other_byte 13 (omega arith) refl refl refl

other_10 : IsOther 10
other_10 = other_byte 10 (omega arith) refl refl refl

pub other_39 : IsOther 39
other_39 = other_byte 39 (omega arith) refl refl refl

pub other_34 : IsOther 34
other_34 = other_byte 34 (omega arith) refl refl refl

other_96 : IsOther 96
other_96 = other_byte 96 (omega arith) refl refl refl

pub other_47 : IsOther 47
other_47 = other_byte 47 (omega arith) refl refl refl

pub space_reaches : (b : ℕ) (rest : List ℕ) (word : ℕ) → ((b ≡ 32) ⊎ (b ≡ 9) ⊎ (b ≡ 13)) → IsWordLen (b ∷ rest) word → Reaches form.Blank (b ∷ []) (b ∷ rest) word
unfolding other_front
space_reaches b rest word (inl e) len = subst (λ (c : ℕ). IsWordLen (c ∷ rest) word → Reaches form.Blank (c ∷ []) (c ∷ rest) word) (sym e) (reaches_by form.Blank 32 [] rest word 1 other_32 refl refl) len
space_reaches b rest word (inr (inl e)) len = subst (λ (c : ℕ). IsWordLen (c ∷ rest) word → Reaches form.Blank (c ∷ []) (c ∷ rest) word) (sym e) (reaches_by form.Blank 9 [] rest word 1 other_9 refl refl) len
space_reaches b rest word (inr (inr e)) len = subst (λ (c : ℕ). IsWordLen (c ∷ rest) word → Reaches form.Blank (c ∷ []) (c ∷ rest) word) (sym e) (reaches_by form.Blank 13 [] rest word 1 other_13 refl refl) len

pub line_reaches : (rest : List ℕ) (word : ℕ) → IsWordLen (10 ∷ rest) word → Reaches form.Line (10 ∷ []) (10 ∷ rest) word
unfolding other_front
line_reaches rest word len = reaches_by form.Line 10 [] rest word 1 other_10 refl refl len

quoted_front : (f : PieceForm) (o : Option ℕ) (n m : ℕ) → o ≡ Some n → 1 + n ≡ m → quoted_by f o ≡ Some (f, m)
quoted_front f o n m e k = rw (e, k) refl

pub between_reaches : (f : PieceForm) (quote : ℕ) (bytes text rest : List ℕ) (word : ℕ) → IsOther quote → nat_eq quote 10 ≡ false → ((more : List ℕ) → other_front (quote ∷ more) ≡ quoted_by f (quote_close quote false 0 more)) → IsBetween quote bytes → text ≡ bytes ++ rest → IsWordLen text word → Reaches f bytes text word
between_reaches f quote bytes text rest word is-other n front is e len =
    let body = inner bytes in
    let text-is : text ≡ quote ∷ ((body ++ quote ∷ []) ++ rest) = e ∙ ap (λ (x : List ℕ). x ++ rest) is.1 in
    let again : (body ++ quote ∷ []) ++ rest ≡ body ++ quote ∷ rest = append_assoc body (quote ∷ []) rest in
    let l = length-append body (quote ∷ []) in
    let close = quote_reaches quote body rest false 0 n is.0 in
    let found : other_front (quote ∷ ((body ++ quote ∷ []) ++ rest)) ≡ Some (f, length (quote ∷ (body ++ quote ∷ []))) =
    front ((body ++ quote ∷ []) ++ rest) ∙ ap (λ (x : List ℕ). quoted_by f (quote_close quote false 0 x)) again ∙ quoted_front f (quote_close quote false 0 (body ++ quote ∷ rest)) (0 + length body + 1) (length (quote ∷ (body ++ quote ∷ []))) close (omega arith) in
    let r = reaches_by f quote (body ++ quote ∷ []) rest word (length (quote ∷ (body ++ quote ∷ []))) is-other found refl in
    subst (λ (b : List ℕ). IsWordLen text word → Reaches f b text word) (sym is.1)
    (subst (λ (t : List ℕ). IsWordLen t word → Reaches f (quote ∷ (body ++ quote ∷ [])) t word) (sym text-is) r) len

pub rune_front : (more : List ℕ) → other_front (39 ∷ more) ≡ quoted_by form.Rune (quote_close 39 false 0 more)
unfolding other_front
rune_front more = refl

pub text_front : (more : List ℕ) → other_front (34 ∷ more) ≡ quoted_by form.Quoted (quote_close 34 false 0 more)
unfolding other_front
text_front more = refl

pub raw_front : (more : List ℕ) → other_front (96 ∷ more) ≡ quoted_by form.Raw (raw_close 0 more)
unfolding other_front
raw_front more = refl

pub slash_is : (more : List ℕ) → other_front (47 ∷ more) ≡ slash_front more
unfolding other_front
slash_is more = refl

pub raw_form_reaches : (body text rest : List ℕ) (word : ℕ) → list_any (λ b. nat_eq b 96) body ≡ false → text ≡ 96 ∷ ((body ++ 96 ∷ []) ++ rest) → IsWordLen text word → Reaches form.Raw (96 ∷ (body ++ 96 ∷ [])) text word
raw_form_reaches body text rest word none e len =
    let again : (body ++ 96 ∷ []) ++ rest ≡ body ++ 96 ∷ rest = append_assoc body (96 ∷ []) rest in
    let l = length-append body (96 ∷ []) in
    let close = raw_reaches body rest 0 none in
    let found : other_front (96 ∷ ((body ++ 96 ∷ []) ++ rest)) ≡ Some (form.Raw, length (96 ∷ (body ++ 96 ∷ []))) =
    raw_front ((body ++ 96 ∷ []) ++ rest) ∙ ap (λ (x : List ℕ). quoted_by form.Raw (raw_close 0 x)) again ∙ quoted_front form.Raw (raw_close 0 (body ++ 96 ∷ rest)) (0 + length body + 1) (length (96 ∷ (body ++ 96 ∷ []))) close (omega arith) in
    subst (λ (t : List ℕ). IsWordLen t word → Reaches form.Raw (96 ∷ (body ++ 96 ∷ [])) t word) (sym e) (reaches_by form.Raw 96 (body ++ 96 ∷ []) rest word (length (96 ∷ (body ++ 96 ∷ []))) other_96 found refl) len
