use Rattle.std.proofs.Common.{sym, subst, ◌∷◌, ◌++◌, [], length}
use Rattle.go_grammar.specs.Patterns.{any}
use Rattle.go_grammar.specs.Terminals as t
use Rattle.go_grammar.specs.Covering as covering
use Rattle.cov_outside.specs.declared.mode.Mode.TheVariants as mode
use Rattle.cov_tokens.specs.Grammar.{form_of}
use Rattle.cov_tokens.proofs.Fitting.{FitAll, fit_words, counter_fits, import_fits, trailer_fits}
use Rattle.cov_tokens.proofs.laws.additions_fit_the_grammar.Goals as goal

pub returns : goal.returns
returns c = record {
  counter = λ var m i words e. fit_words (covering.counter var (form_of m) i ++ any t.semicolon ∷ []) words (subst (FitAll (covering.counter var (form_of m) i ++ any t.semicolon ∷ [])) (sym e) (counter_fits var m i));
  import_words = λ end words k e. fit_words (any t.semicolon ∷ covering.atomic_import (form_of mode.Atomic)) words (subst (FitAll (any t.semicolon ∷ covering.atomic_import (form_of mode.Atomic))) (sym e) (import_fits end k));
  trailer = λ var text m units words e. fit_words (covering.trailer var (form_of m) (length units)) words (subst (FitAll (covering.trailer var (form_of m) (length units))) (sym e) (trailer_fits var text m units));
}
