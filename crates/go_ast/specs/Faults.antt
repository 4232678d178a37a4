-- The fault of a text without tokens (Go specification: Lexical elements).
use Rattle.std.specs.Prelude.{◌≡◌, ◌≢◌, ◌⊎◌, ℕ, ◌+◌, ◌<◌, ◌≤◌, Bool, true, false, ◌==◌, ◌||◌, List, [], ◌∷◌, ◌++◌, length}
use Rattle.std.specs.List.{AllByRecursion}
use Rattle.std.specs.Str.{encode_utf8_all, StartsWithNoChar}
use Rattle.std.specs.Char.{IsScalar}
use Rattle.go_ast.specs.declared.token.PieceForm.{PieceForm}
use Rattle.go_ast.specs.declared.token.PieceForm.TheVariants as form
use Rattle.go_ast.specs.declared.kind.LexKind.{LexKind}
use Rattle.go_ast.specs.declared.kind.LexKind.TheVariants as fault
use Rattle.go_ast.specs.Characters.{is_banned, BeginsWith}
use Rattle.go_ast.specs.Numbers.{is_int}
use Rattle.go_ast.specs.Literals.{inner, IsNoneOrMany, IsBadEscape, HasBadEscape}
use Rattle.go_ast.specs.Pieces.{Piece, Divides, IsLongest, IsStuck}

-- no character begins there, or one that no source has
abbrev pub IsBadCharacter : List ℕ → LexKind → Type 0
IsBadCharacter rest fault.BadUtf8 = (rest ≢ []) × StartsWithNoChar rest
IsBadCharacter rest fault.BadCharacter = (c : ℕ) × (is_banned c ≡ true) × BeginsWith rest c
IsBadCharacter rest _ = ⊥

-- behind whole characters
abbrev pub HasBadCharacter : List ℕ → ℕ → LexKind → Type 0
HasBadCharacter text at kind =
    (cs : List ℕ) × (rest : List ℕ) × AllByRecursion IsScalar cs × (text ≡ encode_utf8_all cs ++ rest) × (at ≡ length (encode_utf8_all cs)) × IsBadCharacter rest kind

abbrev pub is_quote : ℕ → Bool
is_quote c = c == 34 || c == 39 || c == 96

-- why nothing begins there: a quote that isn't closed, or a character that begins no token
abbrev pub IsStop : List ℕ → LexKind → Type 0
IsStop rest fault.BadCharacter = (c : ℕ) × (is_quote c ≡ false) × BeginsWith rest c
IsStop rest fault.BadRune = (more : List ℕ) × (rest ≡ 39 ∷ more)
IsStop rest fault.BadText = (quote : ℕ) × (more : List ℕ) × ((quote == 34 || quote == 96) ≡ true) × (rest ≡ quote ∷ more)
IsStop rest _ = ⊥

-- why bytes of a form aren't meant, and at which offset from their first
abbrev pub IsFlaw : PieceForm → List ℕ → ℕ → LexKind → Type 0
IsFlaw form.Opening bytes at kind = (at ≡ 0) × (kind ≡ fault.BadComment)
IsFlaw form.Number bytes at kind = (at ≡ 0) × (kind ≡ fault.BadNumber) × (is_int bytes ≡ false)
IsFlaw form.Rune bytes at kind = ((at ≡ 0) × (kind ≡ fault.BadRune) × IsNoneOrMany (inner bytes)) ⊎ ((at ≡ 1) × (kind ≡ fault.BadEscape) × IsBadEscape 39 (inner bytes))
IsFlaw form.Quoted bytes at kind = (kind ≡ fault.BadEscape) × HasBadEscape (inner bytes) at
IsFlaw _ bytes at kind = ⊥

-- why the text doesn't go on there, and at which offset from there
abbrev pub IsBreak : List ℕ → ℕ → LexKind → Type 0
IsBreak rest at kind =
    (IsStuck rest × (at ≡ 0) × IsStop rest kind)
    ⊎ ((form : PieceForm) × (bytes after : List ℕ) × (rest ≡ bytes ++ after) × IsLongest form bytes after × IsFlaw form bytes at kind)

-- the text has this fault at this offset: a bad character, or a break behind pieces
abbrev pub HasFault : List ℕ → ℕ → LexKind → Type 0
HasFault text at kind =
    HasBadCharacter text at kind
    ⊎ ((pieces : List Piece) × (rest : List ℕ) × (near : ℕ) × Divides text pieces rest × IsBreak rest near kind × (at + length rest ≡ near + length text))

-- the row of a kind in the table of faults
abbrev pub row : LexKind → ℕ
row fault.BadUtf8 = 0
row fault.BadCharacter = 1
row fault.BadComment = 2
row fault.BadNumber = 3
row fault.BadRune = 4
row fault.BadText = 5
row fault.BadEscape = 6

-- the fault of the text: the one with the least offset, and of two at one offset the earlier row
pub record IsFault (text : List ℕ) (at : ℕ) (kind : LexKind) : Type 0 where
  pub has : HasFault text at kind
  pub first : (other : ℕ) (other_kind : LexKind) → HasFault text other other_kind → (at < other) ⊎ ((at ≡ other) × (row kind ≤ row other_kind))
