-- What is put into a source so that its units are counted.
--
--     mode      the counter of unit i
--     set       V.Count[i] = 1;
--     count     V.Count[i]++;
--     atomic    _cover_atomic_.AddUint32(&V.Count[i], 1);
use Rattle.std.specs.Prelude.{ℕ, ◌+◌, List, [], ◌∷◌, ◌++◌, length, map, codes, decimal}
use Rattle.std.specs.List.{enumerate_from}
use Rattle.go_ast.specs.declared.name.Name.{Name}
use Rattle.go_ast.specs.declared.span.Span.{Span}
use Rattle.go_ast.specs.declared.file.File.{File}
use Rattle.cov_outside.specs.declared.mode.Mode.{Mode}
use Rattle.cov_outside.specs.declared.mode.Mode.TheVariants as mode
use Rattle.cov_cut.specs.declared.unit.Unit.{Unit as CutUnit}
use Rattle.cov_cut.specs.Counted.{all_units, else_ifs_of}
use Rattle.cov_rewrite.specs.declared.piece.Addition.{Addition}
use Rattle.cov_rewrite.specs.declared.piece.Addition.TheVariants as addition
use Rattle.cov_rewrite.specs.declared.piece.Piece.{Piece}

-- ---- texts

abbrev pub counter_end : Mode → List ℕ
counter_end mode.Set = codes "] = 1;"
counter_end mode.Count = codes "]++;"
counter_end mode.Atomic = codes "], 1);"

abbrev pub counter_begin : Mode → List ℕ
counter_begin mode.Atomic = codes "_cover_atomic_.AddUint32(&"
counter_begin _ = []

abbrev pub counter_text : List ℕ → Mode → ℕ → List ℕ
counter_text var m i = counter_begin m ++ var ++ codes ".Count[" ++ decimal i ++ counter_end m

abbrev pub addition_text : List ℕ → Mode → Addition → List ℕ
addition_text var m addition.Import = codes "; import _cover_atomic_ \"sync/atomic\""
addition_text var m addition.LeftBrace = codes "{ "
addition_text var m addition.RightBrace = codes "}"
addition_text var m (addition.Counter i) = counter_text var m i

-- ---- places

-- directly behind the package's name
abbrev pub name_end : Name → ℕ
name_end name = name.at + length name.text

-- the import in mode atomic alone
abbrev pub imports : Mode → Name → List Piece
imports mode.Atomic name = record { at = name_end name; addition = addition.Import } ∷ []
imports _ name = []

-- an `if` behind `else` gets braces
abbrev pub left_braces : List Span → List Piece
left_braces else_ifs = map (λ s. record { at = s.start; addition = addition.LeftBrace }) else_ifs

abbrev pub right_braces : List Span → List Piece
right_braces else_ifs = map (λ s. record { at = s.end; addition = addition.RightBrace }) else_ifs

abbrev pub numbered_counter : ℕ × CutUnit → Piece
numbered_counter (i, u) = record { at = u.insert; addition = addition.Counter i }

abbrev pub counters : List CutUnit → List Piece
counters units = map numbered_counter (enumerate_from 0 units)

-- all that is put in; at one offset in this order
abbrev pub pieces : Mode → File → List Piece
pieces m file = imports m file.«package» ++ right_braces (else_ifs_of file) ++ left_braces (else_ifs_of file) ++ counters (all_units file)
