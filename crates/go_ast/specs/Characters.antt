-- The characters of a source (Go specification: Source code representation, "Characters" and "Letters and digits").
use Rattle.std.specs.Prelude.{◌≡◌, ℕ, Bool, true, false, ◌==◌, ◌||◌, List, ◌++◌, encode_utf8}
use Rattle.std.specs.List.{AllByRecursion}
use Rattle.std.specs.Str.{encode_utf8_all}
use Rattle.std.specs.Char.{IsScalar}
use Rattle.unicode.specs.GeneralCategory.{general_category}
use Rattle.unicode.specs.declared.properties.GeneralCategory.{GeneralCategory}
use Rattle.unicode.specs.declared.properties.GeneralCategory.TheVariants.{UppercaseLetter, LowercaseLetter, TitlecaseLetter, ModifierLetter, OtherLetter, DecimalNumber}

-- the categories of letters: Lu, Ll, Lt, Lm and Lo
abbrev pub is_letter_category : GeneralCategory → Bool
is_letter_category UppercaseLetter = true
is_letter_category LowercaseLetter = true
is_letter_category TitlecaseLetter = true
is_letter_category ModifierLetter = true
is_letter_category OtherLetter = true
is_letter_category _ = false

-- the category of digits: Nd
abbrev pub is_digit_category : GeneralCategory → Bool
is_digit_category DecimalNumber = true
is_digit_category _ = false

-- a letter, of which `_` is one
abbrev pub is_letter : ℕ → Bool
is_letter c = c == 95 || is_letter_category (general_category c)

-- a letter or a digit
abbrev pub is_letter_or_digit : ℕ → Bool
is_letter_or_digit c = is_letter c || is_digit_category (general_category c)

-- a NUL or a byte order mark, which no source has
abbrev pub is_banned : ℕ → Bool
is_banned c = c == 0 || c == 0xFEFF

-- a character that a source may have
abbrev pub IsSourceCharacter : ℕ → Type 0
IsSourceCharacter c = IsScalar c × (is_banned c ≡ false)

-- the bytes are characters that a source may have
abbrev pub AreCharacters : List ℕ → Type 0
AreCharacters bytes = (cs : List ℕ) × AllByRecursion IsSourceCharacter cs × (bytes ≡ encode_utf8_all cs)

-- the bytes begin with this character
abbrev pub BeginsWith : List ℕ → ℕ → Type 0
BeginsWith bytes c = (rest : List ℕ) × IsScalar c × (bytes ≡ encode_utf8 c ++ rest)
