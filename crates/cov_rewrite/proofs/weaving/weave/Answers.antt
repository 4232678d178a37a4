use Rattle.std.proofs.Common.{◌≡◌, ◌≤◌, length, sym, subst, ap, ◌∙◌, arith, rules}
use Rattle.std.specs.Prelude.{All}
use Rattle.std.proofs.lemmas.List.Sorted.{IsNonDecreasingBy-from_sort_by_key, All-permutation}
use Rattle.std.proofs.lemmas.Fn.{always_returns_same}
use Rattle.cov_rewrite.specs.declared.piece.Piece.{Piece}
use Rattle.cov_rewrite.specs.Weaving.{woven}
use Rattle.cov_rewrite.specs.Ascending.{Ascends}
use Rattle.cov_rewrite.proofs.Parts.{renamed}
use Rattle.cov_rewrite.proofs.Woven.{at_of, rising, same_woven}
use Rattle.cov_rewrite.proofs.weaving.weave.Goals as goal

pub weave_in_order-requires-clause-order : goal.weave_in_order-requires-clause-order
weave_in_order-requires-clause-order c =
    subst (Ascends 0) (sym c.deref.ensures.value)
    (rising c.sort_by_key.new.self.items 0 (IsNonDecreasingBy-from_sort_by_key at_of c.sort_by_key.new.self.items c.in_ok-sort_by_key.ensures.sorted (λ a r q k. search rules)) (λ d lt. omega arith))

pub weave_in_order-requires-clause-within : goal.weave_in_order-requires-clause-within
weave_in_order-requires-clause-within c =
    let P : Piece → Type 0 = λ p. p.at ≤ length c.args.text.now in
    subst (All P) (sym c.deref.ensures.value) (All-permutation P c.args.pieces.now.items c.sort_by_key.new.self.items c.in_ok-sort_by_key.ensures.permutation c.requires)

pub returns : goal.returns
returns c =
    renamed c.weave_in_order.result _ _ _ _
    (ap (λ ps. woven c.args.var.now c.args.mode ps c.args.text.now) c.deref.ensures.value
    ∙ same_woven c.args.var.now c.args.mode c.args.pieces.now.items c.sort_by_key.new.self.items c.args.text.now
    (c.in_ok-sort_by_key.ensures.stable at_of (always_returns_same _ (λ a r. r ≡ at_of a.0.now) _ (λ a r q k. search rules))))
    c.weave_in_order.ensures
