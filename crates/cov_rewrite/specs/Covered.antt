-- The covered text of a source.
use Rattle.std.specs.Prelude.{ℕ, ◌≤◌, List, ◌++◌, length, All, codes}
use Rattle.go_ast.specs.declared.file.File.{File}
use Rattle.cov_outside.specs.declared.mode.Mode.{Mode}
use Rattle.cov_cut.specs.Counted.{all_units, else_ifs_of}
use Rattle.cov_cut.specs.Units.{IsWithin}
use Rattle.cov_rewrite.specs.Additions.{name_end, pieces}
use Rattle.cov_rewrite.specs.Weaving.{woven}
use Rattle.cov_rewrite.specs.Trailer.{trailer}

-- places are counted from line 1 of the file with this name
abbrev pub line_directive : List ℕ → List ℕ
line_directive name = codes "//line " ++ name ++ codes ":1:1\n"

-- the covered text of a source with its tree, by the file's name, the variable of the counters and the mode
abbrev pub covered : List ℕ → File → List ℕ → List ℕ → Mode → List ℕ
covered text file name var m = line_directive name ++ woven var m (pieces m file) text ++ trailer text var m (all_units file)

-- the tree stands in the text: its offsets fit in 32 bits and aren't past the text's end
pub record StandsIn (text : List ℕ) (file : File) : Type 0 where
  pub within : IsWithin file
  pub name : name_end file.«package» ≤ length text
  pub units : All (λ u. (u.start ≤ length text) × (u.end ≤ length text) × (u.insert ≤ length text)) (all_units file)
  pub else_ifs : All (λ s. (s.start ≤ length text) × (s.end ≤ length text)) (else_ifs_of file)
