use Rattle.std.proofs.Common.{◌≡◌, slice_get, slice_set, true, sym, ap, ◌∙◌}
use Rattle.std.proofs.lemmas.List.{set-set}
use Rattle.go_meaning.specs.declared.value.Channel.{Channel}
use Rattle.go_meaning.specs.declared.config.Config.{Config}
use Rattle.go_meaning.specs.Moves.{set_closed}
use Rattle.go_step.proofs.worlds.closes.Goals as goal

pub returns-then-at-len : goal.returns-then-at-len
returns-then-at-len c =
    let config = c.args.config.now in
    let k = c.args.channel in
    let ch = c.replace-closed.result in
    let closed = record ch { closed = true } in
    let channels : c.replace-hole.new.self ≡ slice_set config.channels k closed =
    c.replace-hole.ensures.new ∙ ap (λ l. slice_set l k closed) c.replace-closed.ensures.new ∙ set-set config.channels k c.new_channel-hole.result closed in
    ap (λ l. record config { channels = l }) channels ∙ sym (ap (set_closed k config) c.replace-closed.ensures.old)
