use Rattle.std.proofs.Common.{◌≡◌, ℕ, List, Result, Ok, Err}
use Rattle.std.specs.Prelude.{IfOk, OnOk}
use Rattle.cov_bytes.specs.Intern.{index_of, with_text}
use Rattle.cov_table.specs.Rows.{Names}
use Rattle.cov_table.proofs.Pool.{names_with}
use Rattle.cov_table.proofs.gather.intern.Goals as goal

named : {E : Type 0} (r : Result ℕ E) (old new : List (List ℕ)) (t : List ℕ) → IfOk r (λ i. i ≡ index_of old t) → OnOk r (new ≡ with_text old t) → IfOk r (λ i. Names new i t)
named (Ok i) old new t p q = rw (p, q) (names_with old t)
named (Err e) old new t p q = tt

pub returns-clause-found : goal.returns-clause-found
returns-clause-found c = named c.intern.result c.args.texts.now c.intern.new.self c.args.text.now c.intern.ensures.index c.intern.ensures.texts
