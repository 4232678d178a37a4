use Rattle.std.proofs.Common.{◌≡◌, ◌+◌, ◌≤◌, [], ◌∷◌, ◌++◌, vec_len, vec_capacity, ap, sym, ◌∙◌, append_assoc, arith}
use Rattle.go_meaning.proofs.stack.Stack.take_off.Goals as goal

pub loop-k-preserved : goal.loop-k-preserved
loop-k-preserved g c = record {
  parts = ap (λ l. l ++ c.pop.new.self) c.in-Ok.ensures.items ∙ append_assoc c.loop-k.taken.items (c.in-Some.top ∷ []) c.pop.new.self ∙ ap (λ l. c.loop-k.taken.items ++ l) (sym c.in-Some.ensures) ∙ c.loop-k.invariant.parts;
  len = omega (arith, c.in-Ok.ensures.len);
  room = omega (arith, c.in-Ok.ensures.capacity);
}
