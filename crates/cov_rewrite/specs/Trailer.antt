-- The trailer of a covered text: the variable with the counters, and where each unit stands.
--
--     var V = struct {
--         Count [N]uint32
--         Pos [3 * N]uint32
--         NumStmt [N]uint16
--     }{
--         Pos: [3 * N]uint32{
--             SL, EL, 0xCOLS, // [i]
--         },
--         NumStmt: [N]uint16{
--             STMTS, // i
--         },
--     }
--
-- N is the number of units, and the two inner lines are written for each unit. It begins on line SL and ends on line EL.
use Rattle.std.specs.Prelude.{ℕ, ◌+◌, ◌*◌, ◌%◌, min, false, List, [], ◌++◌, length, codes, decimal}
use Rattle.std.specs.Fmt.{digits}
use Rattle.std.specs.List.{flat_map, enumerate_from}
use Rattle.go_ast.specs.Places.{place_at}
use Rattle.go_ast.specs.declared.place.Place.{Place}
use Rattle.cov_outside.specs.declared.mode.Mode.{Mode}
use Rattle.cov_outside.specs.declared.mode.Mode.TheVariants as mode
use Rattle.cov_cut.specs.declared.unit.Unit.{Unit as CutUnit}

-- lower-case hexadecimal without leading zeros
abbrev pub hexadecimal : ℕ → List ℕ
hexadecimal n = digits 16 false n

-- the columns where a unit ends and starts, 16 bits of each
abbrev pub columns : Place → Place → ℕ
columns start end = (end.column % 65536) * 65536 + start.column % 65536

abbrev pub place_line : ℕ → Place → Place → List ℕ
place_line i start end =
    codes "\t\t" ++ decimal start.line ++ codes ", " ++ decimal end.line ++ codes ", 0x" ++ hexadecimal (columns start end) ++ codes ", // [" ++ decimal i ++ codes "]\n"

abbrev pub unit_place_line : List ℕ → ℕ × CutUnit → List ℕ
unit_place_line text (i, u) = place_line i (place_at text u.start) (place_at text u.end)

-- a number of statements above 65535 is written as 65535
abbrev pub statements_line : ℕ → ℕ → List ℕ
statements_line i statements = codes "\t\t" ++ decimal (min statements 65535) ++ codes ", // " ++ decimal i ++ codes "\n"

abbrev pub unit_statements_line : ℕ × CutUnit → List ℕ
unit_statements_line (i, u) = statements_line i u.statements

-- the variable's type
abbrev pub type_text : List ℕ → ℕ → List ℕ
type_text var n =
    codes "\nvar " ++ var ++ codes " = struct {\n\tCount [" ++ decimal n ++ codes "]uint32\n\tPos [3 * " ++ decimal n ++ codes "]uint32\n\tNumStmt [" ++ decimal n ++ codes "]uint16\n}{\n"

abbrev pub places_text : List ℕ → List CutUnit → List ℕ
places_text text units = codes "\tPos: [3 * " ++ decimal (length units) ++ codes "]uint32{\n" ++ flat_map (unit_place_line text) (enumerate_from 0 units) ++ codes "\t},\n"

abbrev pub statements_text : List CutUnit → List ℕ
statements_text units = codes "\tNumStmt: [" ++ decimal (length units) ++ codes "]uint16{\n" ++ flat_map unit_statements_line (enumerate_from 0 units) ++ codes "\t},\n}\n"

-- in mode atomic a use of the import, which a file without units lacks
abbrev pub use_text : Mode → List ℕ
use_text mode.Atomic = codes "var _ = _cover_atomic_.LoadUint32\n"
use_text _ = []

abbrev pub trailer : List ℕ → List ℕ → Mode → List CutUnit → List ℕ
trailer text var m units = type_text var (length units) ++ places_text text units ++ statements_text units ++ use_text m
