use Rattle.std.proofs.Common.{◌≡◌, length, sym, subst, rules}
use Rattle.go_load.specs.Loading as spec
use Rattle.go_load.specs.Graph.{IsLoadOrder}
use Rattle.go_load.proofs.Making.{made_in_order}
use Rattle.go_load.proofs.Whole.{order_once}
use Rattle.go_load.proofs.by_reader.from_packages.Goals as goal

pub in_order-requires : goal.in_order-requires
in_order-requires c =
    let is : IsLoadOrder c.in_ok-graph.graph c.in-InOrder.order.items = search rules in
    subst spec.ComeOnce (sym c.deref-in-InOrder.ensures.value) (order_once c.in_ok-graph.graph c.in-InOrder.order.items is)

pub returns-in_ok-in_order-in-InOrder-clause-of : goal.returns-in_ok-in_order-in-InOrder-clause-of
returns-in_ok-in_order-in-InOrder-clause-of c =
    let sorted = c.in_ok-founds.founds.items in
    let order = c.in-InOrder.order.items in
    let loaded = c.in_ok-in_order-in-InOrder.field-0 in
    let is : IsLoadOrder c.in_ok-graph.graph order = search rules in
    let many : length c.in_ok-graph.graph ≡ length sorted = search rules in
    let this : loaded ≡ spec.loaded_of c.args.home.path (spec.with_numbers sorted order) = search rules in
    made_in_order c.args.founds.items sorted c.in_ok-graph.graph order c.args.home.path loaded c.in_ok-founds.ensures.same many is this
