use Rattle.std.proofs.Common.{◌∙◌, ap, sym, map, List, ℕ, Bor}
use Rattle.std.specs.Option.{option_copied}
use Rattle.gocov_words.specs.Table.{row_named}
use Rattle.gocov_words.proofs.Fronting.{front_own, front_next_in}
use Rattle.gocov_words.proofs.front.flag_front.Goals as goal

pub returns-in-Some-value : goal.returns-in-Some-value
returns-in-Some-value c =
    let named = c.name_and_value.ensures in
    front_own c.args.command c.args.text.now (map (λ (w : Bor (List ℕ)). w.now) c.args.after.now) c.in-Some.flag c.in-Some-value.value
    (c.in-Some.ensures.row ∙ ap (row_named c.args.command) named.name) (sym named.name ∙ c.in-Some.ensures.name) (sym (ap option_copied c.in-Some-value.is) ∙ named.value)

pub returns-in-len1-up : goal.returns-in-len1-up
returns-in-len1-up c =
    let named = c.name_and_value.ensures in
    front_next_in c.args.command c.args.text.now c.args.after.now _ c.in-Some.flag c.in-len1-up.len_at_least
    (c.in-Some.ensures.row ∙ ap (row_named c.args.command) named.name) (sym named.name ∙ c.in-Some.ensures.name) (sym (ap option_copied c.in-None.is) ∙ named.value) (sym c.if-is_boolean.ensures)
