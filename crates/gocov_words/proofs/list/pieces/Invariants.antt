use Rattle.std.proofs.Common.{◌≡◌, List, ℕ, Bor, map, All}
use Rattle.std.specs.Str.{IsUtf8}
use Rattle.gocov_words.proofs.list.pieces.Given as goal

abbrev pub invariant-loop-piece : goal.invariant-loop-piece
invariant-loop-piece l = (l.texts ≡ map (λ (p : Bor (List ℕ)). p.now) l.yielded) × All IsUtf8 l.texts
