-- What is said of the front of a text.
use Rattle.std.specs.Prelude.{◌≡◌, ◌≢◌, ◌⊎◌, ℕ, ◌<◌, ◌≤◌, List, [], ◌∷◌, ◌++◌, length, take, drop, Option, None}
use Rattle.std.specs.List.{AllByRecursion}
use Rattle.std.specs.Str.{encode_utf8_all, StartsWithNoChar}
use Rattle.go_ast.specs.declared.token.PieceForm.{PieceForm}
use Rattle.go_ast.specs.declared.token.Token.{Token}
use Rattle.go_ast.specs.declared.kind.LexKind.{LexKind}
use Rattle.go_ast.specs.declared.kind.LexKind.TheVariants as fault
use Rattle.go_ast.specs.Characters.{IsSourceCharacter, AreCharacters}
use Rattle.go_ast.specs.Literals.{IsRuneBody, IsNoneOrMany, IsBadEscape}
use Rattle.go_ast.specs.Pieces.{Piece, Divides, IsLongest, IsMeant}
use Rattle.go_ast.specs.Tokens.{tokens_from}
use Rattle.go_ast.specs.Faults.{IsBadCharacter, HasBadCharacter, IsStop, IsFlaw, IsBreak, IsFault, row}
use Rattle.go_lex.specs.declared.fault.LexFault.{LexFault}
use Rattle.go_lex.specs.declared.fault.LexFault.TheVariants as lex

-- a bad character behind others that a source may have
abbrev pub IsFirstBad : List ℕ → ℕ → LexKind → Type 0
IsFirstBad bytes at kind =
    (cs : List ℕ) × (rest : List ℕ) × AllByRecursion IsSourceCharacter cs × (bytes ≡ encode_utf8_all cs ++ rest) × (at ≡ length (encode_utf8_all cs)) × IsBadCharacter rest kind

-- why what stands between single quotes isn't meant
abbrev pub IsRuneFlaw : List ℕ → ℕ → LexKind → Type 0
IsRuneFlaw body at kind = ((at ≡ 0) × (kind ≡ fault.BadRune) × IsNoneOrMany body) ⊎ ((at ≡ 1) × (kind ≡ fault.BadEscape) × IsBadEscape 39 body)

-- it is meant, unless it is a byte that begins no character
pub record IsUnflawedRune (body : List ℕ) : Type 0 where
  pub meant : AreCharacters (39 ∷ (body ++ 39 ∷ [])) → IsRuneBody body
  pub none : (at : ℕ) (kind : LexKind) → IsRuneFlaw body at kind → ⊥

pub record IsUnflawed (form : PieceForm) (bytes : List ℕ) : Type 0 where
  pub meant : AreCharacters bytes → IsMeant form bytes
  pub none : (at : ℕ) (kind : LexKind) → IsFlaw form bytes at kind → ⊥

-- no bad character stands up to there
abbrev pub IsGoodUpTo : List ℕ → ℕ → Type 0
IsGoodUpTo bytes at = AreCharacters bytes ⊎ ((later : ℕ) × (kind : LexKind) × IsFirstBad bytes later kind × (at < later))

-- the first fault in a piece: a bad character, before or at any flaw, or a flaw before any bad character
abbrev pub IsFaultIn : PieceForm → List ℕ → ℕ → LexKind → Type 0
IsFaultIn form bytes at kind =
    (IsFirstBad bytes at kind × ((flaw : ℕ) (other : LexKind) → IsFlaw form bytes flaw other → at ≤ flaw)) ⊎ (IsFlaw form bytes at kind × IsGoodUpTo bytes at)

-- why nothing begins there
abbrev pub IsStopOrBad : List ℕ → LexKind → Type 0
IsStopOrBad rest fault.BadUtf8 = StartsWithNoChar rest
IsStopOrBad rest kind = IsStop rest kind

-- a good piece of this form and length stands at the front
pub record IsGoodPiece (text : List ℕ) (form : PieceForm) (len : ℕ) : Type 0 where
  pub longest : IsLongest form (take len text) (drop len text)
  pub characters : AreCharacters (take len text)
  pub meant : IsMeant form (take len text)
  pub some : 1 ≤ len
  pub within : len ≤ length text

-- one fault comes before another, or is it
abbrev pub IsBefore : ℕ → LexKind → ℕ → LexKind → Type 0
IsBefore at kind other other_kind = (at < other) ⊎ ((at ≡ other) × (row kind ≤ row other_kind))

-- the text doesn't go on there, for this first reason
pub record IsFirstBreak (rest : List ℕ) (at : ℕ) (kind : LexKind) : Type 0 where
  pub some : rest ≢ []
  pub has : HasBadCharacter rest at kind ⊎ IsBreak rest at kind
  pub before_bad : (other : ℕ) (other_kind : LexKind) → HasBadCharacter rest other other_kind → IsBefore at kind other other_kind
  pub before_break : (other : ℕ) (other_kind : LexKind) → IsBreak rest other other_kind → IsBefore at kind other other_kind
  pub stops : (form : PieceForm) (bytes more : List ℕ) → rest ≡ bytes ++ more → IsLongest form bytes more → AreCharacters bytes → IsMeant form bytes → ⊥

-- the tokens so far are those of the pieces so far
abbrev pub IsReadTo : List ℕ → List Token → List ℕ → ℕ → Option ℕ → Type 0
IsReadTo text tokens rest start needed =
    (pieces : List Piece) × Divides text pieces rest × ((more : List Piece) → tokens_from 0 None (pieces ++ more) ≡ tokens ++ tokens_from start needed more)

-- why there are no tokens
abbrev pub Fails : List ℕ → LexFault → Type 0
Fails text lex.NoMemory = Unit {0}
Fails text (lex.At offset kind) = IsFault text offset kind
