use Rattle.std.proofs.Common.{◌≡◌, ◌∷◌, [], drop, Option, Some, ap, sym, ◌∙◌}
use Rattle.go_meaning.specs.declared.config.Call.{Call}
use Rattle.go_step.proofs.Beginnings.{begun_is}
use Rattle.go_step.proofs.beginning.begin.Goals as goal

pub returns-clause-ok : goal.returns-clause-ok
returns-clause-ok c =
    let frame = c.in_ok-frame.frame in
    let new = record frame { slots = c.fill.new.slots } in
    let top : c.swap_top-hole.new.self ≡ new ∷ [] = c.swap_top-hole.ensures.new ∙ ap (λ l. new ∷ drop 1 l) (c.in_ok-push.ensures.ok ∙ ap (λ l. c.empty_frame.result ∷ l) c.new-frames.ensures) in
    begun_is c.args.program.now c.args.goroutine.now.begin c.in-Some.call c.in-Some-take.call c.len.result frame c.fill.new.slots c.swap_top-hole.new.self c.in-Some.is c.in-Some-take.ensures.value c.in_ok-frame.ensures c.len.ensures c.fill.ensures top
    ∙ ap (λ (o : Option Call). Some (record { begin = o; frames = c.swap_top-hole.new.self })) (sym c.take.ensures.after)
