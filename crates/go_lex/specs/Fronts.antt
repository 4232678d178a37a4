-- What bytes begin with.
use Rattle.std.specs.Prelude.{◌≡◌, ℕ, ◌<◌, ◌≤◌, true, false, List, ◌++◌, length, take, drop, encode_utf8}
use Rattle.std.specs.List.{AllByRecursion}
use Rattle.std.specs.Str.{encode_utf8_all, IsUtf8}
use Rattle.std.specs.Char.{IsScalar}
use Rattle.go_ast.specs.Characters.{is_letter_or_digit, BeginsWith, IsSourceCharacter}
use Rattle.go_ast.specs.Pieces.{IsWord}

-- a character stands at the front, and has this many bytes
pub record IsCharacterAt (bytes : List ℕ) (c len : ℕ) : Type 0 where
  pub scalar : IsScalar c
  pub is : bytes ≡ encode_utf8 c ++ drop len bytes
  pub long : len ≡ length (encode_utf8 c)
  pub within : len ≤ length bytes

-- this is the longest front that is UTF-8
pub record IsValidFront (bytes front : List ℕ) : Type 0 where
  pub is : front ≡ take (length front) bytes
  pub within : length front ≤ length bytes
  pub valid : IsUtf8 front
  pub longest : (len : ℕ) → length front < len → len ≤ length bytes → IsUtf8 (take len bytes) → ⊥

-- the bytes are these characters, which a source may have, and then the rest
abbrev pub FollowsCharacters : List ℕ → List ℕ → Type 0
FollowsCharacters bytes rest = (cs : List ℕ) × AllByRecursion IsSourceCharacter cs × (bytes ≡ encode_utf8_all cs ++ rest)

abbrev pub IsLetterOrDigit : ℕ → Type 0
IsLetterOrDigit c = IsScalar c × (is_letter_or_digit c ≡ true)

-- the bytes are letters and digits, and then the rest
abbrev pub FollowsLetters : List ℕ → List ℕ → Type 0
FollowsLetters bytes rest = (cs : List ℕ) × AllByRecursion IsLetterOrDigit cs × (bytes ≡ encode_utf8_all cs ++ rest)

-- as many bytes at the front are letters and digits as can be
pub record IsRunLen (bytes : List ℕ) (len : ℕ) : Type 0 where
  pub follows : FollowsLetters bytes (drop len bytes)
  pub within : len ≤ length bytes
  pub stops : (c : ℕ) → BeginsWith (drop len bytes) c → is_letter_or_digit c ≡ false

-- how long the longest word at the front is, or 0
pub record IsWordLen (bytes : List ℕ) (len : ℕ) : Type 0 where
  pub within : len ≤ length bytes
  pub word : 0 < len → IsWord (take len bytes)
  pub longest : (word after : List ℕ) → IsWord word → bytes ≡ word ++ after → length word ≤ len
