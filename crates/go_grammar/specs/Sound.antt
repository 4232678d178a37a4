-- Sound files.
use Rattle.std.specs.Prelude.{ℕ, ◌^◌, ◌≤◌, List, length}
use Rattle.go_ast.specs.declared.token.Token.{Token}
use Rattle.go_ast.specs.declared.file.File.{File}
use Rattle.go_ast.specs.Tokens.{HasTokens}
use Rattle.go_grammar.specs.Words.{words_of}
use Rattle.go_grammar.specs.declared.form.Form.{Form}
use Rattle.go_grammar.specs.Files.{SpellsWithin}

-- the greatest number of clauses of a `select`, and the greatest height of a tree
abbrev pub clause_limit : ℕ
clause_limit = 1000

abbrev pub depth_limit : ℕ
depth_limit = 1000

-- the tokens of a text of at most 2^31 bytes spell the file in a form, within the limits
abbrev pub IsSound : File → Type 0
IsSound file =
    (form : Form) × (text : List ℕ) × (tokens : List Token) × (length text ≤ 2 ^ 31) × HasTokens text tokens × SpellsWithin form clause_limit depth_limit file (words_of text tokens)
