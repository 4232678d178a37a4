-- Lists with separators. A relation Item h x w says that the tokens w spell x, whose height is h.
use Rattle.std.specs.Prelude.{◌≡◌, ℕ, max, List, [], ◌∷◌, ◌++◌}
use Rattle.go_ast.specs.declared.token.TokenKind.{TokenKind}
use Rattle.go_grammar.specs.Words.{Word}
use Rattle.go_grammar.specs.Terminals as t

-- one or more items with a separator between
pub data IsRow {A : Type 0} (separator : TokenKind) (Item : ℕ → A → List Word → Type 0) : ℕ → List A → List Word → Type 0 where
  one_item : (h : ℕ) (x : A) (w : List Word) → Item h x w → IsRow separator Item h (x ∷ []) w
  more_items : (s : Word) (h h' : ℕ) (x : A) (xs : List A) (w v : List Word) → Item h x w → s.kind ≡ separator → IsRow separator Item h' xs v
      → IsRow separator Item (max h h') (x ∷ xs) (w ++ s ∷ v)

-- a token of the kind, or none
abbrev pub MayBe : TokenKind → List Word → Type 0
MayBe kind [] = Unit {0}
MayBe kind (s ∷ w) = (s.kind ≡ kind) × (w ≡ [])

-- an item alone, or items in parentheses, each with a `;` behind it that may be left out before the `)`; and where that ends
pub data IsGroup {A : Type 0} (Item : ℕ → A → List Word → Type 0) (end_of : A → ℕ) : ℕ → List A → ℕ → List Word → Type 0 where
  single : (h : ℕ) (x : A) (w : List Word) → Item h x w → IsGroup Item end_of h (x ∷ []) (end_of x) w
  no_group : (l r : Word) → l.kind ≡ t.left_parenthesis → r.kind ≡ t.right_parenthesis → IsGroup Item end_of 0 [] r.span.end (l ∷ r ∷ [])
  group : (l r : Word) (h : ℕ) (xs : List A) (w s : List Word) → l.kind ≡ t.left_parenthesis → IsRow t.semicolon Item h xs w → MayBe t.semicolon s → r.kind ≡ t.right_parenthesis
      → IsGroup Item end_of h xs r.span.end (l ∷ (w ++ (s ++ r ∷ [])))
