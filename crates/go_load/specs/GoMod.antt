-- The form of a `go.mod`: which lines it may have, and the module path that they give.
use Rattle.std.specs.Prelude.{ℕ, ◌-◌, Bool, ◌==◌, ◌&&◌, ◌||◌, not, List, [], ◌∷◌, length, take, drop, map, Option, Some, None, is_some, nat_eq, nat_le, nat_lt, unwrap_or, position, if◌then◌else◌, codes}
use Rattle.std.specs.List.{list_all, filter_map, slice_split, starts_with, suffix_len}
use Rattle.std.specs.Cmp.Lexicographic.{pointwise}
use Rattle.std.specs.Str.{is_utf8}

-- ---- a line

-- a space or a tab
abbrev pub is_gap : ℕ → Bool
is_gap c = c == 32 || c == 9

-- one of these or a carriage return, which may stand at both ends of a line
abbrev pub is_blank : ℕ → Bool
is_blank c = is_gap c || c == 13

-- '"', "'" or '`'
abbrev pub is_quote : ℕ → Bool
is_quote c = c == 34 || (c == 39 || c == 96)

-- without `//` and what follows it
abbrev pub before_comment : List ℕ → List ℕ
before_comment [] = []
before_comment (c ∷ cs) = if starts_with nat_eq (c ∷ cs) (codes "//") then [] else c ∷ before_comment cs

abbrev pub is_solid : ℕ → Bool
is_solid c = not (is_blank c)

-- from the first byte on that is no blank
abbrev pub trimmed_start : List ℕ → List ℕ
trimmed_start bytes = drop (unwrap_or (position is_solid bytes) (length bytes)) bytes

-- without the blanks at the end
abbrev pub trimmed_end : List ℕ → List ℕ
trimmed_end bytes = take (length bytes - suffix_len is_blank bytes) bytes

-- what a line says: without its comment and the blanks at both ends
abbrev pub content : List ℕ → List ℕ
content line = trimmed_end (trimmed_start (before_comment line))

-- no space, tab or quote
abbrev pub is_plain : ℕ → Bool
is_plain c = not (is_gap c || is_quote c)

abbrev pub is_word : List ℕ → Bool
is_word bytes = not (length bytes == 0) && list_all is_plain bytes

abbrev pub is_no_gap : ℕ → Bool
is_no_gap c = not (is_gap c)

-- the word from a place on, which isn't the first
abbrev pub word_at : List ℕ → Option ℕ → Option (List ℕ)
word_at bytes None = None
word_at bytes (Some i) = if nat_lt 0 i && is_word (drop i bytes) then Some (drop i bytes) else None

-- the word behind spaces or tabs, of which there is at least one
abbrev pub word_behind_gap : List ℕ → Option (List ℕ)
word_behind_gap bytes = word_at bytes (position is_no_gap bytes)

-- the word that a line gives behind a keyword
abbrev pub word_of : List ℕ → List ℕ → Option (List ℕ)
word_of keyword line =
    if pointwise nat_eq (take (length keyword) line) keyword then word_behind_gap (drop (length keyword) line) else None

abbrev pub module_word : List ℕ → Option (List ℕ)
module_word line = word_of (codes "module") line

abbrev pub go_word : List ℕ → Option (List ℕ)
go_word line = word_of (codes "go") line

-- an empty line, one of the module or one of the language's version
abbrev pub is_good : List ℕ → Bool
is_good line = length line == 0 || (is_some (module_word line) || is_some (go_word line))

-- ---- the file

-- the one element of a list
abbrev pub the_only : {A : Type 0} → List A → Option A
the_only [] = None
the_only (x ∷ []) = Some x
the_only (x ∷ y ∷ more) = None

-- the module path that the contents of lines give: all are good, one is of the module, at most one of the version
abbrev pub path_in_lines : List (List ℕ) → Option (List ℕ)
path_in_lines lines =
    if list_all is_good lines && nat_le (length (filter_map go_word lines)) 1 then the_only (filter_map module_word lines) else None

abbrev pub is_newline : ℕ → Bool
is_newline c = c == 10

-- the module path of a `go.mod`, which is UTF-8 text
abbrev pub path_in : List ℕ → Option (List ℕ)
path_in text = if is_utf8 text then path_in_lines (map content (slice_split is_newline text)) else None
