-- A fault of a reader is one of what goes on with it.
use Rattle.std.proofs.Common.{◌≡◌, refl, sym, subst, List, Result, Ok, Err}
use Rattle.std.specs.Result.{IsErrAnd}
use Rattle.go_grammar.specs.Words.{Word}
use Rattle.go_reading.specs.declared.fault.ParseError.{ParseError}
use Rattle.go_reading.specs.declared.fault.ParseError.TheVariants as errors
use Rattle.go_reading.specs.Input.{Outcome, Reader, Fails, Reads, go_on}

pub err_after : {A B : Type 0} (o : Outcome A) (e : ParseError) (new : List Word) (f : A → Reader B) (r : Result B ParseError)
    → Fails o e new → IsErrAnd r (λ x. x ≡ e) → Reads (go_on o.0 o.1 f) r new
err_after o e new f (Ok b) h p = absurd p
err_after o errors.Memory new f (Err x) h p = subst (λ (y : ParseError). Fails (go_on o.0 o.1 f) y new) (sym p) tt
err_after o (errors.Fault k) new f (Err x) h p = subst (λ (y : ParseError). Fails (go_on o.0 o.1 f) y new) (sym p) (rw h refl)
