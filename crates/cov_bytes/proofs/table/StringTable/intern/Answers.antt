use Rattle.std.proofs.Common.{ℕ, List, [], ◌∷◌, ◌++◌, length, Some, None, sym, ap, ◌∙◌}
use Rattle.cov_bytes.proofs.Firsts.{old_text, new_text, looked_up}
use Rattle.cov_bytes.proofs.table.StringTable.intern.Goals as goal

pub returns-in-Some-clause-index : goal.returns-in-Some-clause-index
returns-in-Some-clause-index c =
    (old_text c.args.self.now c.args.text.now c.in-Some.first.now (looked_up (λ k. k.items) c.index_texts.new.firsts.entries c.args.self.now c.deref.result.now c.index_texts.new.known c.args.text.now (Some c.in-Some.first.now) c.in-Some.ensures.value c.in_ok-index_texts.ensures.still_found c.in_ok-index_texts.ensures.all (c.deref.ensures.value ∙ c.self.view_is))).0

pub returns-in-Some-clause-texts : goal.returns-in-Some-clause-texts
returns-in-Some-clause-texts c =
    c.self.view_is ∙ sym (old_text c.args.self.now c.args.text.now c.in-Some.first.now (looked_up (λ k. k.items) c.index_texts.new.firsts.entries c.args.self.now c.deref.result.now c.index_texts.new.known c.args.text.now (Some c.in-Some.first.now) c.in-Some.ensures.value c.in_ok-index_texts.ensures.still_found c.in_ok-index_texts.ensures.all (c.deref.ensures.value ∙ c.self.view_is))).1

pub returns-in_ok-push-in-None-clause-index : goal.returns-in_ok-push-in-None-clause-index
returns-in_ok-push-in-None-clause-index c =
    let new = (new_text c.args.self.now c.args.text.now (looked_up (λ k. k.items) c.index_texts.new.firsts.entries c.args.self.now c.deref.result.now c.index_texts.new.known c.args.text.now None c.in-None.ensures.value c.in_ok-index_texts.ensures.still_found c.in_ok-index_texts.ensures.all (c.deref.ensures.value ∙ c.self.view_is))).0 in
    c.len-next.ensures ∙ sym c.deref.ensures.len ∙ ap length (c.deref.ensures.value ∙ c.self.view_is) ∙ new

pub returns-in_ok-push-in-None-clause-texts : goal.returns-in_ok-push-in-None-clause-texts
returns-in_ok-push-in-None-clause-texts c =
    let new = (new_text c.args.self.now c.args.text.now (looked_up (λ k. k.items) c.index_texts.new.firsts.entries c.args.self.now c.deref.result.now c.index_texts.new.known c.args.text.now None c.in-None.ensures.value c.in_ok-index_texts.ensures.still_found c.in_ok-index_texts.ensures.all (c.deref.ensures.value ∙ c.self.view_is))).1 in
    c.in_ok-push-in-None.ensures.items ∙ ap (λ (t : List ℕ). c.self.inside.texts.items ++ t ∷ []) c.in_ok-of-in-None.ensures ∙ ap (λ (ts : List (List ℕ)). ts ++ c.args.text.now ∷ []) c.self.view_is ∙ sym new
