-- Keywords and operators (Go specification: Lexical elements, "Keywords" and "Operators and punctuation").
use Rattle.std.specs.Prelude.{ℕ, ◌+◌, List, [], ◌∷◌, codes, if◌then◌else◌, Option, Some, None}
use Rattle.std.specs.Str.{bytes_eq}

abbrev pub keywords : List (List ℕ)
keywords =
    codes "break" ∷ codes "case" ∷ codes "chan" ∷ codes "const" ∷ codes "continue" ∷ codes "default" ∷ codes "defer"
    ∷ codes "else" ∷ codes "fallthrough" ∷ codes "for" ∷ codes "func" ∷ codes "go" ∷ codes "goto" ∷ codes "if"
    ∷ codes "import" ∷ codes "interface" ∷ codes "map" ∷ codes "package" ∷ codes "range" ∷ codes "return"
    ∷ codes "select" ∷ codes "struct" ∷ codes "switch" ∷ codes "type" ∷ codes "var" ∷ []

abbrev pub operators : List (List ℕ)
operators =
    codes "+" ∷ codes "-" ∷ codes "*" ∷ codes "/" ∷ codes "%" ∷ codes "&" ∷ codes "|" ∷ codes "^" ∷ codes "<<"
    ∷ codes ">>" ∷ codes "&^" ∷ codes "+=" ∷ codes "-=" ∷ codes "*=" ∷ codes "/=" ∷ codes "%=" ∷ codes "&=" ∷ codes "|="
    ∷ codes "^=" ∷ codes "<<=" ∷ codes ">>=" ∷ codes "&^=" ∷ codes "&&" ∷ codes "||" ∷ codes "<-" ∷ codes "++"
    ∷ codes "--" ∷ codes "==" ∷ codes "<" ∷ codes ">" ∷ codes "=" ∷ codes "!" ∷ codes "~" ∷ codes "!=" ∷ codes "<="
    ∷ codes ">=" ∷ codes ":=" ∷ codes "..." ∷ codes "(" ∷ codes ")" ∷ codes "[" ∷ codes "]" ∷ codes "{" ∷ codes "}"
    ∷ codes "," ∷ codes ";" ∷ codes "." ∷ codes ":" ∷ []

-- the place of a word among others, counted from a number, if it is there
abbrev pub place_from : ℕ → List (List ℕ) → List ℕ → Option ℕ
place_from place [] word = None
place_from place (w ∷ words) word = if bytes_eq w word then Some place else place_from (place + 1) words word

abbrev pub place_in : List (List ℕ) → List ℕ → Option ℕ
place_in = place_from 0
