-- The tokens of the trailer, with the semicolons that are inserted where its lines end.
--
--     var V = struct { Count [ N ] uint32 ; Pos [ 3 * N ] uint32 ; NumStmt [ N ] uint16 ; }
--     { Pos : [ 3 * N ] uint32 { SL , EL , 0xCOLS , .. } , NumStmt : [ N ] uint16 { STMTS , .. } , } ;
--     var _ = _cover_atomic_ . LoadUint32 ;         in mode atomic
use Rattle.std.specs.Prelude.{ℕ, min, List, [], ◌∷◌, ◌++◌, length, codes, decimal}
use Rattle.std.specs.List.{flat_map, enumerate_from}
use Rattle.go_ast.specs.Places.{place_at}
use Rattle.go_grammar.specs.Terminals as t
use Rattle.cov_outside.specs.declared.mode.Mode.{Mode}
use Rattle.cov_outside.specs.declared.mode.Mode.TheVariants as mode
use Rattle.cov_cut.specs.declared.unit.Unit.{Unit as CutUnit}
use Rattle.cov_rewrite.specs.Trailer.{hexadecimal, columns}
use Rattle.cov_tokens.specs.Spellings.{Spelling, spelled, name, number, line_end}

-- [N]
abbrev pub size : ℕ → List Spelling
size n = spelled t.left_bracket (codes "[") ∷ number (decimal n) ∷ spelled t.right_bracket (codes "]") ∷ []

-- [3 * N]
abbrev pub triple_size : ℕ → List Spelling
triple_size n = spelled t.left_bracket (codes "[") ∷ number (codes "3") ∷ spelled t.star (codes "*") ∷ number (decimal n) ∷ spelled t.right_bracket (codes "]") ∷ []

abbrev pub entry : List ℕ → List Spelling
entry bytes = number bytes ∷ spelled t.comma (codes ",") ∷ []

abbrev pub type_spellings : List ℕ → ℕ → List Spelling
type_spellings var n =
    spelled t.var_word (codes "var") ∷ name var ∷ spelled t.assign (codes "=") ∷ spelled t.struct_word (codes "struct") ∷ spelled t.left_brace (codes "{")
    ∷ name (codes "Count")
    ∷ (size n ++ name (codes "uint32") ∷ line_end
    ∷ name (codes "Pos")
    ∷ (triple_size n ++ name (codes "uint32") ∷ line_end
    ∷ name (codes "NumStmt")
    ∷ (size n ++ name (codes "uint16") ∷ line_end ∷ spelled t.right_brace (codes "}") ∷ spelled t.left_brace (codes "{") ∷ [])))

abbrev pub unit_place_spellings : List ℕ → ℕ × CutUnit → List Spelling
unit_place_spellings text (i, u) =
    entry (decimal (place_at text u.start).line) ++ (entry (decimal (place_at text u.end).line) ++ entry (codes "0x" ++ hexadecimal (columns (place_at text u.start) (place_at text u.end))))

abbrev pub places_spellings : List ℕ → List CutUnit → List Spelling
places_spellings text units =
    name (codes "Pos") ∷ spelled t.colon (codes ":")
    ∷ (triple_size (length units) ++ name (codes "uint32") ∷ spelled t.left_brace (codes "{")
    ∷ (flat_map (unit_place_spellings text) (enumerate_from 0 units) ++ spelled t.right_brace (codes "}") ∷ spelled t.comma (codes ",") ∷ []))

-- a number of statements above 65535 is written as 65535
abbrev pub unit_statements_spellings : ℕ × CutUnit → List Spelling
unit_statements_spellings (i, u) = entry (decimal (min u.statements 65535))

abbrev pub statements_spellings : List CutUnit → List Spelling
statements_spellings units =
    name (codes "NumStmt") ∷ spelled t.colon (codes ":")
    ∷ (size (length units) ++ name (codes "uint16") ∷ spelled t.left_brace (codes "{")
    ∷ (flat_map unit_statements_spellings (enumerate_from 0 units) ++ spelled t.right_brace (codes "}") ∷ spelled t.comma (codes ",") ∷ spelled t.right_brace (codes "}") ∷ line_end ∷ []))

abbrev pub use_spellings : Mode → List Spelling
use_spellings mode.Atomic =
    spelled t.var_word (codes "var") ∷ name (codes "_") ∷ spelled t.assign (codes "=") ∷ name (codes "_cover_atomic_") ∷ spelled t.point (codes ".") ∷ name (codes "LoadUint32") ∷ line_end ∷ []
use_spellings _ = []

abbrev pub trailer_spellings : List ℕ → List ℕ → Mode → List CutUnit → List Spelling
trailer_spellings text var m units = type_spellings var (length units) ++ (places_spellings text units ++ (statements_spellings units ++ use_spellings m))
