use Rattle.std.proofs.Common.{◌∙◌, List, ℕ, Bor, ◌∷◌, [], ◌++◌, ap, sym, subst, lit<, All}
use Rattle.std.proofs.lemmas.Iterator.Consumers.{YieldsList-end}
use Rattle.std.proofs.lemmas.Iterator.Splits.{YieldsList-from_str_split}
use Rattle.std.proofs.lemmas.List.{map-append}
use Rattle.std.proofs.lemmas.List.Elements.{All-push}
use Rattle.std.specs.Str.{IsUtf8}
use Rattle.std.specs.Str.Iter.{split_text, split_has_more, split_pattern}
use Rattle.gocov_words.proofs.list.pieces.Goals as goal

pub returns-clause-pieces : goal.returns-clause-pieces
returns-clause-pieces c =
    let begun = c.into_iter-piece-iterator.ensures.into_iter_gives in
    let split = c.split-piece-items in
    c.loop-piece.invariant.0 ∙ (YieldsList-end (YieldsList-from_str_split {s = c.into_iter-piece-iterator.result} 44 c.args.value.now (lit< tt) (ap split_text begun ∙ split.ensures.text) (ap split_has_more begun ∙ split.ensures.has_more) (ap split_pattern begun ∙ split.ensures.pattern)) c.loop-piece.yielded _ c.loop-piece.yielded_by _ _ c.in-None.is c.next.ensures.steps).0

pub returns-clause-utf8 : goal.returns-clause-utf8
returns-clause-utf8 c = c.loop-piece.invariant.1

pub loop-piece-preserved : goal.loop-piece-preserved
loop-piece-preserved c =
    let pushed = c.in_ok-push.ensures.ok in
    let piece = c.in-Some.piece in
    let IsText : List (List ℕ) → Type 0 = λ ts. All IsUtf8 ts in
    let IsBytes : List ℕ → Type 0 = λ t. IsUtf8 t in (
      pushed ∙ (ap (λ (t : List ℕ). c.loop-piece.texts ++ t ∷ []) (c.in_ok-of.ensures ∙ c.as_bytes.ensures.value) ∙ (ap (λ (ts : List (List ℕ)). ts ++ piece.now ∷ []) c.loop-piece.invariant.0 ∙ sym (map-append (λ (p : Bor (List ℕ)). p.now) c.loop-piece.yielded (piece ∷ [])))),
      subst IsText (sym pushed) (All-push IsUtf8 c.loop-piece.texts c.in_ok-of.field-0 c.loop-piece.invariant.1 (subst IsBytes (sym c.in_ok-of.ensures) c.as_bytes.ensures.utf8)),
    )
