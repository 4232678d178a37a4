use Rattle.std.proofs.Common.{sym, ◌∙◌}
use Rattle.cov_bytes.proofs.Firsts.{seen, noted}
use Rattle.cov_bytes.proofs.intern.note_first.Goals as goal

pub returns-then-contains_key-clause-noted : goal.returns-then-contains_key-clause-noted
returns-then-contains_key-clause-noted c = λ texts len h. seen (λ k. k.items) c.args.firsts.now.entries texts c.args.text.now (sym c.contains_key.ensures ∙ c.if-contains_key.true) h

pub returns-clause-noted : goal.returns-clause-noted
returns-clause-noted c = λ texts len h. noted (λ k. k.items) c.args.firsts.now.entries c.insert.new.self.entries texts c.args.text.now c.in_ok-from_slice.field-0.items c.args.index c.in_ok-from_slice.ensures.items (sym c.contains_key.ensures ∙ c.if-contains_key.false) c.in_ok-insert.ensures.updates.3 c.in_ok-insert.ensures.updates.1 len h
