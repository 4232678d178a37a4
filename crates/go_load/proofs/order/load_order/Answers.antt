use Rattle.std.proofs.Common.{◌≡◌, ℕ, ◌<◌, Bool, true, false, List, [], ◌∷◌, ◌++◌, length, take, drop, sym, subst, ◌∙◌, rules, arith, set}
use Rattle.std.specs.List.{list_all}
use Rattle.std.proofs.lemmas.List.{length-set, append-nil}
use Rattle.go_load.specs.Graph.{ComeAfter}
use Rattle.go_load.specs.Marks.{AreMarked, Await, IsFree, IsNotFree}
use Rattle.go_load.proofs.Coming.{one_more, none_more, are_marked_more, await_marked, all_marked, one_left, lent}
use Rattle.go_load.proofs.order.load_order.Goals as goal

pub loop-u-preserved : goal.loop-u-preserved
loop-u-preserved c =
    let graph = c.args.graph.now in
    let marks = c.loop-u.marks.items in
    let order = c.loop-u.order.items in
    let awaited = c.next_free.new.awaited in
    let u = c.in-Some.u in
    let i = c.loop-u.invariant in
    let held : c.deref.result.now ≡ marks = c.deref.ensures.value in
    let free : IsFree graph marks u = subst (λ (m : List Bool). IsFree graph m u) held c.in-Some.ensures.found in
    let least : (v : ℕ) → v < u → IsNotFree graph marks v = subst (λ (m : List Bool). (v : ℕ) → v < u → IsNotFree graph m v) held c.in-Some.ensures.least in
    let await : Await graph marks awaited = subst (λ (m : List Bool). Await graph m awaited) held c.in-Some.ensures.awaits in
    let many : length marks ≡ length graph = i.many in
    let lt : u < length marks = subst (λ (n : ℕ). u < n) (sym many) free.is_package in
    let push : c.push.new.self.items ≡ order ++ u ∷ [] = c.in_ok-push.ensures.items in
    let back : take c.loop-u.awaited.len (awaited ++ drop (length awaited) c.loop-u.awaited.items) ≡ awaited = lent c.loop-u.awaited.len awaited (drop (length awaited) c.loop-u.awaited.items) (omega (arith, await.many, i.awaits.many)) in
    record {
      many = length-set marks u true ∙ many;
      are = subst (AreMarked (set marks u true)) (sym push) (are_marked_more marks order u lt i.are);
      awaits = subst (Await graph (set marks u true)) (sym back) (await_marked graph marks awaited u lt await);
      so_far = subst (λ (o : List ℕ). (us : List ℕ) → ComeAfter graph o us → ComeAfter graph [] (o ++ us)) (sym push) (one_more graph marks order u i.are free least i.so_far);
    }

pub returns-then-are_all : goal.returns-then-are_all
returns-then-are_all c =
    let graph = c.args.graph.now in
    let marks = c.loop-u.marks.items in
    let order = c.loop-u.order.items in
    let i = c.loop-u.invariant in
    let none : (v : ℕ) → v < length graph → IsNotFree graph marks v = subst (λ (m : List Bool). (v : ℕ) → v < length graph → IsNotFree graph m v) c.deref.ensures.value c.in_default.ensures.none in
    let all : list_all (λ m. m) marks ≡ true = search rules in
    record {
      comes = subst (ComeAfter graph []) (append-nil order) (i.so_far [] (none_more graph marks order i.are none));
      complete = λ u lt. i.are.only u (all_marked marks all u (subst (λ (n : ℕ). u < n) (sym i.many) lt));
    }

pub returns : goal.returns
returns c =
    let graph = c.args.graph.now in
    let marks = c.loop-u.marks.items in
    let i = c.loop-u.invariant in
    let none : (v : ℕ) → v < length graph → IsNotFree graph marks v = subst (λ (m : List Bool). (v : ℕ) → v < length graph → IsNotFree graph m v) c.deref.ensures.value c.in_default.ensures.none in
    let all : list_all (λ m. m) marks ≡ false = search rules in
    let left = one_left marks all in
    (marks, record { none = none; left = (left.0, subst (λ (n : ℕ). left.0 < n) i.many left.1, left.2) })
