use Rattle.std.proofs.Common.{◌≡◌, ◌++◌, ◌<◌, ◌∙◌, [], ◌∷◌, List, get_or, length, sym, ap, rules}
use Rattle.go_meaning.specs.declared.event.Event.{Event}
use Rattle.go_meaning.specs.declared.event.Event.TheVariants.{Step, Count}
use Rattle.cov_erase.proofs.Dropping.{events_step, events_count}
use Rattle.cov_erase.proofs.erasing.erase_events.Goals.{in-Step+in_ok-push-in-Step, in-Count}
use Rattle.cov_erase.proofs.erasing.erase_events.Goals as goal

pub loop-event-preserved : goal.loop-event-preserved
loop-event-preserved c =
    let events = c.args.events.now in
    let i = c.loop-event.event-index in
    let lt : i < length events = search rules in
    elim c.match-event.branch [
      | in-Step+in_ok-push-in-Step w ↦
          let g = w.in-Step.goroutine in
          let k = w.in-Step.case in
          let p = w.in-Step.partner in
          let q = w.in-Step.partner_case in
          let at : Step g k p q ≡ get_or events i (Step g k p q) = search rules in
          let pushed : w.push.new.self.items ≡ c.loop-event.rest.items ++ Step g k p q ∷ [] = search rules in
          rw (w.rest-is) (pushed ∙ ap (λ (rest : List Event). rest ++ Step g k p q ∷ []) c.loop-event.invariant ∙ sym (events_step events i g k p q lt at))
      | in-Count w ↦
          let g = w.in-Count.goroutine in
          let u = w.in-Count.unit in
          let at : Count g u ≡ get_or events i (Count g u) = search rules in
          rw (w.rest-is) (c.loop-event.invariant ∙ sym (events_count events i g u lt at))
    ]
