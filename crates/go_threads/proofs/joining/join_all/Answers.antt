use Rattle.std.proofs.Common.{rules, arith, ◌≡◌, ℕ, suc, ◌+◌, get_or, sym, ap, ◌∙◌}
use Rattle.std.specs.Vec.Iter.{into_iter_items, into_iter_len}
use Rattle.cov_cells.specs.declared.view.View.{View}
use Rattle.cov_cells.specs.Seats.{view, origin}
use Rattle.go_threads.specs.Starts.{number_of}
use Rattle.go_threads.proofs.Gathering.{begins_on, counts_joined, leads_joined, rest_joined}
use Rattle.go_threads.proofs.joining.join_all.Goals as goal

pub loop-one-preserved : goal.loop-one-preserved
loop-one-preserved g c = let cells = c.args.cells.now in let was = c.loop-one.seat in let now = c.join.new.seat in let other = c.in_ok-other.other in let e = c.join.ensures.view in let inv = c.loop-one.invariant in
    let n = c.in_ok-other.ensures.number in
    let step = c.in-Some.ensures.steps in
    let len : into_iter_len c.loop-one.one-iterator ≡ suc (into_iter_len c.next.new.self) = grind rules in
    let left : (view was).made ≡ (view was).gathered + suc (into_iter_len c.next.new.self) = (let h = inv.left in omega arith) in
    let first : number_of c.in-Some.one ≡ (view was).gathered + 1 = (let h = inv.each 0 c.in-Some.one in grind rules) in
    let grows : (view now).gathered ≡ suc (view was).gathered = (let z = n.1 in let b = ap (λ (v : View). v.gathered) e in omega arith) in
    record {
      leads = leads_joined cells was now other inv.leads e c.join.ensures.seat;
      left = counts_joined was now other _ n.1 e left;
      each = λ k d below. (let h = inv.each (k + 1) d in grind rules);
      rest = rest_joined cells was now other c.in_ok-other.ensures.done n.1 e c.join.ensures.given.0 c.join.ensures.given.1 (n.0 ∙ first) inv.rest;
      given = begins_on _ _ _ inv.given c.join.ensures.given.0;
      made = ap (λ (v : View). v.made) e ∙ inv.made;
    }
