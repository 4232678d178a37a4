-- The programs have no counters and few units; with their counters threads can run them.
use Rattle.std.proofs.Common.{◌<◌, ◌^◌, ◌≡◌, refl, sym, ap, subst, lit<, inr}
use Rattle.go_meaning.specs.Programs.{Parts, is_cut}
use Rattle.go_meaning.specs.Units.{counted, units_of}
use Rattle.go_meaning.specs.Shapes.{shape}
use Rattle.go_meaning.specs.Erasing.{IsUncounted}
use Rattle.go_samples.specs.Samples.{program_with_group, working_functions, working}
use Rattle.go_threads.specs.Runnable.{IsRunnable}
use Rattle.threads_rows.specs.Rows.{IsCountable, crowd, stuck, finishing, failing, leaving}

abbrev works : Parts
works = program_with_group 2 working_functions working

countable : (P Q : Parts) → P ≡ Q → IsCountable Q → IsCountable P
countable P Q e c = subst IsCountable (sym e) c

pub working_countable : (P : Parts) → P ≡ works → IsCountable P
working_countable P e = countable P works e (record { uncounted = record { lists = ((refl, (refl, tt)), ((refl, tt), (tt, ((refl, (refl, (refl, (refl, tt)))), tt)))); units = refl }; few = lit< tt })

pub crowd_countable : (P : Parts) → P ≡ crowd → IsCountable P
crowd_countable P e = countable P crowd e (record { uncounted = record { lists = ((refl, (refl, tt)), ((refl, tt), (tt, ((refl, (refl, (refl, (refl, (refl, (refl, (refl, (refl, (refl, (refl, tt)))))))))), tt)))); units = refl }; few = lit< tt })

pub stuck_countable : (P : Parts) → P ≡ stuck → IsCountable P
stuck_countable P e = countable P stuck e (record { uncounted = record { lists = (tt, ((refl, (refl, (refl, tt))), tt)); units = refl }; few = lit< tt })

pub finishing_countable : (P : Parts) → P ≡ finishing → IsCountable P
finishing_countable P e = countable P finishing e (record { uncounted = record { lists = ((refl, tt), ((refl, (refl, (refl, tt))), tt)); units = refl }; few = lit< tt })

pub failing_countable : (P : Parts) → P ≡ failing → IsCountable P
failing_countable P e = countable P failing e (record { uncounted = record { lists = ((refl, tt), ((refl, (refl, (refl, tt))), tt)); units = refl }; few = lit< tt })

pub leaving_countable : (P : Parts) → P ≡ leaving → IsCountable P
leaving_countable P e = countable P leaving e (record { uncounted = record { lists = ((refl, tt), (tt, ((refl, (refl, (refl, tt))), tt))); units = refl }; few = lit< tt })

-- what it gives
pub runnable : (P Q : Parts) → IsCountable P → Q ≡ counted P → IsRunnable Q
runnable P Q c e = inr (P, record { plain = c.uncounted; shape = ap shape e })
