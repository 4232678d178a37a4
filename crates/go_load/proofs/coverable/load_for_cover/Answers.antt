use Rattle.std.proofs.Common.{List, ℕ, Ok}
use Rattle.go_ast.specs.declared.file.File.{File}
use Rattle.go_load.specs.Coverable.{ReadsCoverable}
use Rattle.go_load.specs.Sources.{ReadsSources}
use Rattle.go_load.proofs.Making.{outcome_read_also}
use Rattle.go_load.proofs.coverable.load_for_cover.Goals as goal

-- a source of a covered module is a source
is_source : (text : List ℕ) (tree : File) → ReadsCoverable text (Ok tree) → ReadsSources text (Ok tree)
is_source text tree is = (is.0, is.1, is.3)

pub returns-clause-read : goal.returns-clause-read
returns-clause-read g c = outcome_read_also ReadsCoverable ReadsSources is_source c.load_by.result c.load_by.ensures.read
