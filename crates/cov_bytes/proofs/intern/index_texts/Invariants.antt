use Rattle.std.proofs.Common.{◌≤◌, ◌-◌, length, take}
use Rattle.cov_bytes.specs.Intern.{FindsFirst}
use Rattle.cov_bytes.proofs.intern.index_texts.Given as goal

abbrev pub invariant-loop-known : goal.invariant-loop-known
invariant-loop-known l = record {
  within : l.known ≤ length l.texts;
  found : FindsFirst (λ k. k.items) l.firsts.entries (take l.known l.texts);
}

abbrev pub decreases-loop-known : goal.decreases-loop-known
decreases-loop-known l = length l.texts - l.known
