use Rattle.std.proofs.Common.{arith, ℕ, suc, ◌≡◌, ◌∙◌, ◌%◌, ◌^◌, ap, sym, subst, get_or, length}
use Rattle.std.specs.Mem.Slots.{slots_items}
use Rattle.cov_cells.proofs.Ending.{get_of, one_more}
use Rattle.cov_cells.proofs.closing.narrowed.Goals as goal

pub loop-i-preserved : goal.loop-i-preserved
loop-i-preserved c = let long = c.loop-i.invariant.length (omega arith) in let old = c.loop-i.words in let size = old.ok.0 in
    let f = λ (u : ℕ). get_or (slots_items c.args.closed.now.words) (suc u) 0 % 2 ^ 32 in
    let at : suc (length old.items) ≡ c.loop-i.i = omega arith in
    record {
      length = λ _. (let more = c.push_reserved.ensures.len in omega arith);
      room = c.push_reserved.ensures.capacity ∙ c.loop-i.invariant.room;
      same = λ u low. subst (λ l. get_or l u 0 ≡ f u) (sym c.push_reserved.ensures.items) (one_more old.items _ f (λ k l. c.loop-i.invariant.same k (omega arith))
          (ap (λ n. n % 2 ^ 32) (sym (get_of (slots_items c.args.closed.now.words) c.loop-i.i _ c.word.ensures) ∙ ap (λ i. get_or (slots_items c.args.closed.now.words) i 0) (sym at))) u (omega arith));
    }
