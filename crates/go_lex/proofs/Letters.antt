-- No letter of ASCII is anything but `_` and the letters of the alphabet.
use Rattle.std.proofs.Common.{◌≡◌, ℕ, zero, suc, ◌<◌, Bool, true, false, ◌||◌, not, List, ◌∷◌, ◌++◌, take, refl, subst, ◌∙◌, arith, nat_eq}
use Rattle.std.specs.Prelude.{encode_utf8}
use Rattle.std.specs.Str.{encode_utf8_all}
use Rattle.std.proofs.lemmas.Str.{char_from_byte}
use Rattle.unicode.specs.GeneralCategory.{general_category}
use Rattle.unicode.proofs.CategoryComputing.{ucd_category}
use Rattle.unicode.proofs.GeneralCategoryLemmas.{general_category_stepped}
use Rattle.unicode.proofs.Facts.{Stepped-below}
use Rattle.go_ast.specs.Characters.{is_letter, is_letter_category}
use Rattle.go_lex.specs.Fronts.{IsWordLen}
use Rattle.go_lex.proofs.Closes.{absurd_bool}
use Rattle.go_lex.proofs.Table.{is_ascii_letter}

abbrev same : Bool → Bool → Bool
same true b = b
same false b = not b

same_is : (a b : Bool) → same a b ≡ true → b ≡ a
same_is true b e = e
same_is false true e = absurd cc
same_is false false e = refl

letter_ascii : (b : ℕ) → b < 128 → is_letter b ≡ is_ascii_letter b
unfolding ucd_category
letter_ascii b lt =
    same_is (is_ascii_letter b) (is_letter b)
    (Stepped-below general_category general_category_stepped (λ c g. same (is_ascii_letter c) (nat_eq c 95 || is_letter_category g)) 128 refl b lt)

-- where another byte of ASCII stands no word begins
pub no_word : (b : ℕ) (bs : List ℕ) (word : ℕ) → b < 128 → is_ascii_letter b ≡ false → IsWordLen (b ∷ bs) word → word ≡ 0
no_word b bs zero lt isnt is = refl
no_word b bs (suc word) lt isnt is =
    let w = is.word (omega arith) in
    let front : b ∷ take word bs ≡ encode_utf8 w.0 ++ encode_utf8_all w.1 = w.5 in
    let same-char : w.0 ≡ b = char_from_byte (b ∷ take word bs) (encode_utf8_all w.1) w.0 front lt (omega arith) in
    let letter : is_letter b ≡ true = subst (λ (c : ℕ). is_letter c ≡ true) same-char w.3 in
    absurd (absurd_bool (is_letter b) letter (letter_ascii b lt ∙ isnt))
