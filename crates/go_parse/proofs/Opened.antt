-- A `for`, `switch` or `select`, cut behind what opens it.
use Rattle.std.proofs.Common.{◌≡◌, refl, ℕ, List, [], ◌+◌}
use Rattle.std.specs.Prelude.{max, nat_lt}
use Rattle.go_ast.specs.declared.block.Stmt.{Stmt}
use Rattle.go_ast.specs.declared.block.StmtForm.TheVariants as statement
use Rattle.go_grammar.specs.Terminals as k
use Rattle.go_grammar.specs.Words.{Word}
use Rattle.go_grammar.specs.Trees.{stmt_node}
use Rattle.go_reading.specs.Input.{Reader, Tall, ◌>>=◌, peek, pure, refuse, too_deep, if_kind, kind_of, take_span, expect}
use Rattle.go_reading.specs.Kinds.{is}
use Rattle.go_reading.specs.declared.header.Header.{Header}
use Rattle.go_ast.specs.declared.span.Span.{Span}
use Rattle.go_reading.specs.Stmts.{stmt, block, breakable_in, for_in, switch_in, select_in, for_head, maybe_header, for_form, cases_from, comms_from}
use Rattle.go_parse.specs.Parts.{breakable_at}
use Rattle.go_parse.specs.Openings.{opening, opened_by, for_opening, switch_opening, select_opening, switch_end, select_end}
use Rattle.go_parse.specs.declared.opening.Opening.TheVariants as o
use Rattle.go_parse.proofs.Firsts.{in_two, choose}
use Rattle.go_grammar.specs.Blocks.{source}

for_opened : (n m d : ℕ) (ts : List Word) → for_in source n m d (stmt source n m d) (block source n m d) ts ≡ (for_opening n d >>= opened_by n m d) ts
unfolding for_in for_opening
for_opened n m d ts = choose (nat_lt d 1) too_deep
    (take_span >>= λ start. for_head n d >>= λ x. block source n m d >>= λ b. pure (stmt_node start.start b.0.end (for_form x.0 b.0.block), max x.1 b.1 + 1)) too_deep
    (take_span >>= λ start. for_head n d >>= λ x. pure (o.For start.start x.0, x.1)) (opened_by n m d) ts refl
    (in_two (take_span ts) (λ start. for_head n d >>= λ x. pure (o.For start.start x.0, x.1)) (opened_by n m d)
    (λ start. for_head n d >>= λ x. block source n m d >>= λ b. pure (stmt_node start.start b.0.end (for_form x.0 b.0.block), max x.1 b.1 + 1))
    (λ start rest. in_two (for_head n d rest) (λ x. pure (o.For start.start x.0, x.1)) (opened_by n m d)
    (λ x. block source n m d >>= λ b. pure (stmt_node start.start b.0.end (for_form x.0 b.0.block), max x.1 b.1 + 1)) (λ x rest. refl)))

-- a `switch` from its `{` on
abbrev cases_on : ℕ → ℕ → ℕ → Span → Tall Header → Span → Reader (Tall Stmt)
cases_on n m d start x left = do
  cs ← (cases_from source) n d (stmt source n m d) n [] 0
  right ← expect k.right_brace
  pure (stmt_node start.start right.end (statement.Switch x.0.first x.0.test left.start cs.0), max x.1 cs.1 + 1)

switch_opened : (n m d : ℕ) (ts : List Word) → switch_in source n m d (stmt source n m d) ts ≡ (switch_opening n d >>= opened_by n m d) ts
unfolding switch_in switch_opening switch_end
switch_opened n m d ts =
    in_two (take_span ts) (λ start. maybe_header n d >>= λ x. expect k.left_brace >>= λ left. pure (o.Switch start.start x.0 left.start, x.1)) (opened_by n m d)
    (λ start. maybe_header n d >>= λ x. expect k.left_brace >>= λ left. cases_on n m d start x left)
    (λ start rest. in_two (maybe_header n d rest) (λ x. expect k.left_brace >>= λ left. pure (o.Switch start.start x.0 left.start, x.1)) (opened_by n m d)
    (λ x. expect k.left_brace >>= λ left. cases_on n m d start x left)
    (λ x rest. in_two (expect k.left_brace rest) (λ left. pure (o.Switch start.start x.0 left.start, x.1)) (opened_by n m d) (λ left. cases_on n m d start x left) (λ left rest. refl)))

-- a `select` from its `{` on
abbrev comms_on : ℕ → ℕ → ℕ → Span → Span → Reader (Tall Stmt)
comms_on n m d start left = do
  cs ← (comms_from source) n d (stmt source n m d) m n [] 0
  right ← expect k.right_brace
  pure (stmt_node start.start right.end (statement.Select left.start cs.0), cs.1 + 1)

select_opened : (n m d : ℕ) (ts : List Word) → select_in source n m d (stmt source n m d) ts ≡ (select_opening >>= opened_by n m d) ts
unfolding select_in select_opening select_end
select_opened n m d ts =
    in_two (take_span ts) (λ start. expect k.left_brace >>= λ left. pure (o.Select start.start left.start, 0)) (opened_by n m d)
    (λ start. expect k.left_brace >>= λ left. comms_on n m d start left)
    (λ start rest. in_two (expect k.left_brace rest) (λ left. pure (o.Select start.start left.start, 0)) (opened_by n m d) (λ left. comms_on n m d start left) (λ left rest. refl))

pub opened : (n m d : ℕ) (ts : List Word) → breakable_at n m d ts ≡ (opening n d >>= opened_by n m d) ts
unfolding breakable_at breakable_in opening
opened n m d ts =
    choose (is (kind_of ts) k.for_word) (for_in source n m d (stmt source n m d) (block source n m d))
    (peek >>= if_kind k.switch_word (switch_in source n m d (stmt source n m d)) (peek >>= if_kind k.select_word (select_in source n m d (stmt source n m d)) refuse))
    (for_opening n d) (peek >>= if_kind k.switch_word (switch_opening n d) (peek >>= if_kind k.select_word select_opening refuse)) (opened_by n m d) ts
    (for_opened n m d ts)
    (choose (is (kind_of ts) k.switch_word) (switch_in source n m d (stmt source n m d)) (peek >>= if_kind k.select_word (select_in source n m d (stmt source n m d)) refuse)
    (switch_opening n d) (peek >>= if_kind k.select_word select_opening refuse) (opened_by n m d) ts
    (switch_opened n m d ts)
    (choose (is (kind_of ts) k.select_word) (select_in source n m d (stmt source n m d)) refuse select_opening refuse (opened_by n m d) ts (select_opened n m d ts) refl))
