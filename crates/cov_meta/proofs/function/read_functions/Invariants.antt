use Rattle.std.proofs.Common.{◌≡◌, drop}
use Rattle.cov_meta.specs.Function.{placed_function}
use Rattle.cov_bytes.specs.Many.{with_front}
use Rattle.cov_meta.specs.Each.{each}
use Rattle.cov_meta.proofs.function.read_functions.Given as goal

abbrev pub invariant-loop-place : goal.invariant-loop-place
invariant-loop-place l = with_front l.functions (each (placed_function l.texts l.bytes l.start) (drop l.place-index l.places) l.left) ≡ each (placed_function l.texts l.bytes l.start) l.places l.units
