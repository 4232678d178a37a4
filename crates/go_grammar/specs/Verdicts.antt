-- The first token that can't follow, or that passes a limit. Tokens are counted from 0, and the end of a text is a token at its
-- length. Where a token passes both limits, the number of clauses counts.
use Rattle.std.specs.Prelude.{◌≡◌, ℕ, ◌+◌, ◌≤◌, ◌<◌, List, ◌++◌, length, take}
use Rattle.go_ast.specs.declared.file.File.{File}
use Rattle.go_grammar.specs.Words.{Word}
use Rattle.go_grammar.specs.declared.form.Form.{Form}
use Rattle.go_grammar.specs.Files.{SpellsWithin, Spells}

-- some text of the form begins with these tokens
abbrev pub Begins : Form → List Word → Type 0
Begins form ts = (more : List Word) × (file : File) × Spells form file (ts ++ more)

-- some text of the form within both limits does
abbrev pub BeginsWithin : Form → ℕ → ℕ → List Word → Type 0
BeginsWithin form most depth ts = (more : List Word) × (file : File) × SpellsWithin form most depth file (ts ++ more)

-- some text of the form begins with the tokens before i, and within the limits; none begins with them and i
pub record IsUnexpected (form : Form) (most depth : ℕ) (ts : List Word) (i : ℕ) : Type 0 where
  pub within : i ≤ length ts
  pub before : BeginsWithin form most depth (take i ts)
  pub token : i < length ts → Begins form (take (i + 1) ts) → ⊥
  pub end : i ≡ length ts → (file : File) → Spells form file ts → ⊥

-- within the limits some text of the form begins with the tokens before i; with them and i one begins whose selects keep
-- their limit, but none whose trees keep theirs
pub record IsTooDeep (form : Form) (most depth : ℕ) (ts : List Word) (i : ℕ) : Type 0 where
  pub within : i < length ts
  pub before : BeginsWithin form most depth (take i ts)
  pub token : (high : ℕ) × BeginsWithin form most high (take (i + 1) ts)
  pub none : (many : ℕ) → BeginsWithin form many depth (take (i + 1) ts) → ⊥

-- the same; with them and i some text begins, but none whose selects keep their limit
pub record IsTooMany (form : Form) (most depth : ℕ) (ts : List Word) (i : ℕ) : Type 0 where
  pub within : i < length ts
  pub before : BeginsWithin form most depth (take i ts)
  pub token : Begins form (take (i + 1) ts)
  pub none : (high : ℕ) → BeginsWithin form most high (take (i + 1) ts) → ⊥
