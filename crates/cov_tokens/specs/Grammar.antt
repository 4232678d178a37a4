-- What is put in, as the grammar of covered texts has it.
use Rattle.std.specs.Prelude.{List, map}
use Rattle.go_grammar.specs.declared.form.CounterForm.{CounterForm}
use Rattle.go_grammar.specs.declared.form.CounterForm.TheVariants as counter_form
use Rattle.go_grammar.specs.Words.{Word}
use Rattle.cov_outside.specs.declared.mode.Mode.{Mode}
use Rattle.cov_outside.specs.declared.mode.Mode.TheVariants as mode
use Rattle.cov_tokens.specs.Spellings.{Spelling, spelled}

-- the counters of a mode
abbrev pub form_of : Mode → CounterForm
form_of mode.Set = counter_form.SetForm
form_of mode.Count = counter_form.CountForm
form_of mode.Atomic = counter_form.AtomicForm

-- words without their places
abbrev pub spellings_in : List Word → List Spelling
spellings_in words = map (λ w. spelled w.kind w.bytes) words
