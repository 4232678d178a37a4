use Rattle.std.proofs.Common.{◌≡◌, ◌++◌, take}
use Rattle.cov_bytes.specs.Writing.{texts_text}
use Rattle.cov_bytes.proofs.table.push_texts.Given as goal

abbrev pub invariant-loop-text : goal.invariant-loop-text
invariant-loop-text l = l.bytes ≡ l.fn.bytes ++ texts_text (take l.text-index l.texts)
