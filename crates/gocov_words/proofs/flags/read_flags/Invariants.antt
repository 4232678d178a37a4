use Rattle.std.proofs.Common.{◌-◌, length, drop, map, List, ℕ, Bor, false}
use Rattle.gocov_words.specs.Line.{cut}
use Rattle.gocov_words.proofs.Reading.{IsReadTo}
use Rattle.gocov_words.proofs.flags.read_flags.Given as goal

abbrev pub invariant-loop-n : goal.invariant-loop-n
invariant-loop-n l =
    let words = map (λ (w : Bor (List ℕ)). w.now) l.words in
    IsReadTo l.command (cut l.command false l.from (drop l.from words)) (cut l.command false l.at (drop l.at words)) (length l.words) l.at l.values

abbrev pub decreases-loop-n : goal.decreases-loop-n
decreases-loop-n l = length l.words - l.at
