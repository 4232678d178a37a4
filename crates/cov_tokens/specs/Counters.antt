-- The tokens of what is put into a source.
--
--     counter of unit i, mode set      V . Count [ i ] = 1 ;
--     mode count                       V . Count [ i ] ++ ;
--     mode atomic                      _cover_atomic_ . AddUint32 ( & V . Count [ i ] , 1 ) ;
--     import                           ; import _cover_atomic_ "sync/atomic"
use Rattle.std.specs.Prelude.{ℕ, List, [], ◌∷◌, ◌++◌, codes, decimal}
use Rattle.go_ast.specs.declared.token.TokenKind.TheVariants as kind
use Rattle.go_grammar.specs.Terminals as t
use Rattle.cov_outside.specs.declared.mode.Mode.{Mode}
use Rattle.cov_outside.specs.declared.mode.Mode.TheVariants as mode
use Rattle.cov_rewrite.specs.declared.piece.Addition.{Addition}
use Rattle.cov_rewrite.specs.declared.piece.Addition.TheVariants as addition
use Rattle.cov_tokens.specs.Spellings.{Spelling, spelled, name, number}

abbrev pub counter_front : Mode → List Spelling
counter_front mode.Atomic =
    name (codes "_cover_atomic_") ∷ spelled t.point (codes ".") ∷ name (codes "AddUint32") ∷ spelled t.left_parenthesis (codes "(") ∷ spelled t.ampersand (codes "&") ∷ []
counter_front _ = []

-- V . Count [ i
abbrev pub slot : List ℕ → ℕ → List Spelling
slot var i = name var ∷ spelled t.point (codes ".") ∷ name (codes "Count") ∷ spelled t.left_bracket (codes "[") ∷ number (decimal i) ∷ []

abbrev pub counter_back : Mode → List Spelling
counter_back mode.Set = spelled t.right_bracket (codes "]") ∷ spelled t.assign (codes "=") ∷ number (codes "1") ∷ spelled t.semicolon (codes ";") ∷ []
counter_back mode.Count = spelled t.right_bracket (codes "]") ∷ spelled t.increment (codes "++") ∷ spelled t.semicolon (codes ";") ∷ []
counter_back mode.Atomic =
    spelled t.right_bracket (codes "]") ∷ spelled t.comma (codes ",") ∷ number (codes "1") ∷ spelled t.right_parenthesis (codes ")") ∷ spelled t.semicolon (codes ";") ∷ []

abbrev pub atomic_import : List Spelling
atomic_import =
    spelled t.semicolon (codes ";") ∷ spelled t.import_word (codes "import") ∷ name (codes "_cover_atomic_") ∷ spelled kind.Text (codes "\"sync/atomic\"") ∷ []

abbrev pub addition_spellings : List ℕ → Mode → Addition → List Spelling
addition_spellings var m addition.Import = atomic_import
addition_spellings var m addition.LeftBrace = spelled t.left_brace (codes "{") ∷ []
addition_spellings var m addition.RightBrace = spelled t.right_brace (codes "}") ∷ []
addition_spellings var m (addition.Counter i) = counter_front m ++ (slot var i ++ counter_back m)
