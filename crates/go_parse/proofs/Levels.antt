-- Readers of statements, a level further down.
use Rattle.std.proofs.Common.{◌≡◌, ◌≢◌, ◌≤◌, ℕ, zero, suc, ◌-◌, refl, arith}
use Rattle.std.proofs.Math.Numerals.{sub-one}
use Rattle.go_reading.specs.Stmts.{stmt, or_counter, block, block_in, breakable, if_, hidden}
use Rattle.go_parse.specs.Parts.{stmt_at, if_at, breakable_at}
use Rattle.go_grammar.specs.Blocks.{source}

pub stmt_inner : (n m d : ℕ) → d ≢ 0 → stmt source n m d ≡ stmt_at n m (d - 1)
unfolding stmt or_counter stmt_at if_at breakable_at
stmt_inner n m zero some = absurd (some refl)
stmt_inner n m (suc d) some = rw sub-one refl

pub block_inner : (n m d : ℕ) → d ≢ 0 → block source n m d ≡ block_in source n (d - 1) (stmt source n m (d - 1))
unfolding block
block_inner n m zero some = absurd (some refl)
block_inner n m (suc d) some = rw sub-one refl

pub breakable_inner : (n m d : ℕ) → d ≢ 0 → breakable source n m d ≡ breakable_at n m (d - 1)
unfolding breakable breakable_at
breakable_inner n m zero some = absurd (some refl)
breakable_inner n m (suc d) some = rw sub-one refl

pub hidden_inner : (n m d : ℕ) → 2 ≤ d → hidden source n m d ≡ if_at n m (d - 2)
unfolding hidden if_ if_at
hidden_inner n m zero some = absurd (omega arith)
hidden_inner n m (suc zero) some = absurd (omega arith)
hidden_inner n m (suc (suc d)) some = let e : suc (suc d) - 2 ≡ d = omega arith in rw e refl
