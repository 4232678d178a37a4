-- The counted tree of a file: `Count(i)` stands where the counter of unit i is put into the text.
use Rattle.std.specs.Prelude.{ℕ, ◌+◌, ◌==◌, Bool, true, false, List, [], ◌∷◌, ◌++◌, length, map}
use Rattle.std.specs.List.{flat_map, filter, enumerate_from}
use Rattle.go_ast.specs.declared.span.Span.{Span}
use Rattle.go_ast.specs.declared.file.File.{File}
use Rattle.go_ast.specs.declared.decl.Decl.{Decl}
use Rattle.go_ast.specs.declared.decl.Decl.TheVariants as decl
use Rattle.go_ast.specs.declared.block.Block.{Block, fold-Block, roll-Block}
use Rattle.go_ast.specs.declared.block.Stmt.{Stmt, roll-Stmt}
use Rattle.go_ast.specs.declared.block.StmtForm.{StmtForm, roll-StmtForm}
use Rattle.go_ast.specs.declared.block.StmtForm.TheVariants as stmt
use Rattle.go_ast.specs.declared.block.StmtForm.TheOpen.{Block-F, CaseClause-F, CommClause-F}
use Rattle.go_ast.specs.declared.block.Other.{Other, roll-Other}
use Rattle.go_ast.specs.declared.block.CaseClause.{CaseClause, roll-CaseClause}
use Rattle.go_ast.specs.declared.block.CommClause.{CommClause, roll-CommClause}
use Rattle.cov_cut.specs.declared.unit.Unit.{Unit as CutUnit}
use Rattle.cov_cut.specs.Outline.{Kind, else_if, Listing}
use Rattle.cov_cut.specs.Units.{units_of}
use Rattle.cov_cut.specs.Laws.{lists_of}

-- all units of a file in the order of their numbers
abbrev pub all_units : File → List CutUnit
all_units file = flat_map (λ f. f.units) (units_of file)

-- ---- the `if`s directly behind `else`

-- from the offset after `else` to the end of the `if`
abbrev pub else_if_span : Kind → List Span
else_if_span (else_if after right) = record { start = after; end = right } ∷ []
else_if_span _ = []

abbrev pub else_ifs_in : List Listing → List Span
else_ifs_in = flat_map (λ l. else_if_span l.kind)

abbrev pub else_ifs_of : File → List Span
else_ifs_of file = else_ifs_in (lists_of file)

-- ---- the counted tree

-- the numbers of the units whose counters are put in at an offset; by a law there is at most one
abbrev pub numbers_at : List CutUnit → ℕ → List ℕ
numbers_at units at = map (λ e. e.0) (filter (λ e. e.1.insert == at) (enumerate_from 0 units))

-- the counter with a number, at an offset
abbrev pub count_at : ℕ → ℕ → Stmt
count_at at i = roll-Stmt (record { span = record { start = at; end = at }; form = stmt.Count i })

abbrev pub counts_at : List CutUnit → ℕ → List Stmt
counts_at units at = map (count_at at) (numbers_at units at)

-- before each statement that isn't the first of its list the counter that is put in where the statement starts
abbrev pub counted_later : List CutUnit → List Stmt → List Stmt
counted_later units [] = []
counted_later units (s ∷ ss) = counts_at units s.span.start ++ s ∷ counted_later units ss

-- before the first statement, or alone in an empty list, the counter that is put in where the list's own counter is
abbrev pub counted_list : List CutUnit → ℕ → List Stmt → List Stmt
counted_list units at [] = counts_at units at
counted_list units at (s ∷ ss) = counts_at units at ++ s ∷ counted_later units ss

-- behind the left brace; a hidden block begins with its counter
abbrev pub insert_in : Bool → ℕ → ℕ
insert_in true left = left
insert_in false left = left + 1

abbrev pub block_step : List CutUnit → Block-F StmtForm Block CaseClause CommClause Other Stmt → Block
block_step units b = roll-Block (record b { list = counted_list units (insert_in b.hidden b.left) b.list })

abbrev pub case_step : List CutUnit → CaseClause-F StmtForm Block CaseClause CommClause Other Stmt → CaseClause
case_step units c = roll-CaseClause (record c { list = counted_list units (c.colon + 1) c.list })

abbrev pub comm_step : List CutUnit → CommClause-F StmtForm Block CaseClause CommClause Other Stmt → CommClause
comm_step units c = roll-CommClause (record c { list = counted_list units (c.colon + 1) c.list })

-- the block with the counters of these units
unfoldable pub counted_block : List CutUnit → Block → Block
counted_block units = fold-Block StmtForm Block CaseClause CommClause Other Stmt roll-StmtForm (block_step units) (case_step units) (comm_step units) roll-Other roll-Stmt

abbrev pub counted_decl : List CutUnit → Decl → Decl
counted_decl units (decl.Func f) = decl.Func (record f { body = counted_block units f.body })
counted_decl units d = d

abbrev pub counted : File → File
counted file = record file { decls = map (counted_decl (all_units file)) file.decls; counts = length (all_units file) }
