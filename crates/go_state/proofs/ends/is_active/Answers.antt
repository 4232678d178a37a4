use Rattle.std.proofs.Common.{◌≡◌, ◌∙◌, ℕ, inl, inr, sym, subst}
use Rattle.std.proofs.lemmas.Option.{none-some}
use Rattle.go_meaning.specs.declared.event.Event.TheVariants.{Step, Count}
use Rattle.go_meaning.specs.declared.event.Ready.{Ready}
use Rattle.go_meaning.specs.declared.event.Ready.TheVariants as ready
use Rattle.go_meaning.specs.Readiness.{IsReady}
use Rattle.go_state.proofs.Activity.{count_steps, over_idle}
use Rattle.go_state.specs.Runs.{IsActive}
use Rattle.go_state.proofs.ends.is_active.Goals as goal

pub returns-in-Step-clause-yes : goal.returns-in-Step-clause-yes
returns-in-Step-clause-yes c y =
    let P = c.args.program.now in
    let d = c.args.config.now in
    let F : Ready → Type 0 = IsReady P d c.args.g in
    let stepping : c.ready.result ≡ ready.Step → IsActive P d c.args.g = λ e. let h = subst F e c.ready.ensures in record { event = (Step c.args.g h.0 h.1 h.2, (h.3, h.4)); stirs = λ i. none-some h.3 (sym (i.steps h.0 h.1 h.2) ∙ h.4); there = c.requires.there } in
    let counting : ((u : ℕ) × (c.ready.result ≡ ready.Count u)) → IsActive P d c.args.g = λ e. record { event = (Count c.args.g e.0, count_steps P d c.args.g e.0 (subst F e.1 c.ready.ensures)); stirs = λ i. none-some e.0 (sym i.due ∙ subst F e.1 c.ready.ensures); there = c.requires.there } in
    elim c.in-Step.is [ inl e ↦ stepping e | inr e ↦ counting e ]

pub returns-in-Not-clause-no : goal.returns-in-Not-clause-no
returns-in-Not-clause-no c y =
    let F : Ready → Type 0 = IsReady c.args.program.now c.args.config.now c.args.g in
    elim c.in-Not.is [ inl e ↦ (subst F e c.ready.ensures).1 | inr e ↦ over_idle c.args.program.now c.args.config.now c.args.g (subst F e c.ready.ensures) ]
