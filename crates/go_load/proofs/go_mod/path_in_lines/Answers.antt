use Rattle.std.proofs.Common.{◌≡◌, ℕ, ◌+◌, ◌-◌, ◌≤◌, List, [], length, take, drop, map, None, sym, ap, ◌∙◌, rules, arith}
use Rattle.std.specs.Prelude.{position}
use Rattle.std.specs.List.{slice_split}
use Rattle.std.specs.Option.{option_copied}
use Rattle.go_load.specs.GoMod as spec
use Rattle.go_load.specs.GoModLines.{path_behind, IsBad, IsNext}
use Rattle.go_load.proofs.Lines.{next_is, last_is, at_end, rest_is, rest_shorter}
use Rattle.go_load.proofs.go_mod.path_in_lines.Goals as goal

pub returns-in_err-seen : goal.returns-in_err-seen
returns-in_err-seen c =
    let given = option_copied c.loop-end.seen.path in
    let version = c.loop-end.seen.version in
    let rest = c.loop-end.rest.now in
    let line = c.content.result.now in
    let bad : IsBad given version line = c.in_err-seen.ensures in
    let none : option_copied c.from_residual.result ≡ None = search rules in
    none ∙ sym (next_is _ given version rest line c.in-Some.end c.loop-end.invariant.same c.in-Some.ensures.place c.content.ensures ∙ bad (map spec.content (slice_split spec.is_newline (drop (c.in-Some.end + 1) rest))))

pub loop-end-preserved : goal.loop-end-preserved
loop-end-preserved c =
    let given = option_copied c.loop-end.seen.path in
    let version = c.loop-end.seen.version in
    let rest = c.loop-end.rest.now in
    let line = c.content.result.now in
    let n = c.in-Some.end + 1 in
    let next : IsNext given version line (option_copied c.in_ok-seen.seen.path) c.in_ok-seen.seen.version = c.in_ok-seen.ensures in
    let shorter : length (take (length rest - n) (drop n rest)) ≤ length rest = rest_shorter rest n in
    record {
      within = omega arith;
      same =
          next_is _ given version rest line c.in-Some.end c.loop-end.invariant.same c.in-Some.ensures.place c.content.ensures
          ∙ next (map spec.content (slice_split spec.is_newline (drop n rest)))
          ∙ ap (λ (t : List ℕ). path_behind (option_copied c.in_ok-seen.seen.path) c.in_ok-seen.seen.version (map spec.content (slice_split spec.is_newline t))) (sym (rest_is rest n));
    }

pub returns-in_err-with_line : goal.returns-in_err-with_line
returns-in_err-with_line c =
    let given = option_copied c.loop-end.seen.path in
    let version = c.loop-end.seen.version in
    let rest = c.loop-end.rest.now in
    let line = c.content-2.result.now in
    let bad : IsBad given version line = c.in_err-with_line.ensures in
    let place : None ≡ position spec.is_newline rest = search rules in
    let none : option_copied c.from_residual-in_err-with_line.result ≡ None = search rules in
    none ∙ sym (last_is _ given version rest line c.loop-end.invariant.same place c.content-2.ensures ∙ bad [])

pub returns : goal.returns
returns c =
    let given = option_copied c.loop-end.seen.path in
    let version = c.loop-end.seen.version in
    let rest = c.loop-end.rest.now in
    let line = c.content-2.result.now in
    let path = option_copied c.in_ok-with_line.field-0.path in
    let next : IsNext given version line path c.in_ok-with_line.field-0.version = c.in_ok-with_line.ensures in
    let place : None ≡ position spec.is_newline rest = search rules in
    sym (last_is _ given version rest line c.loop-end.invariant.same place c.content-2.ensures ∙ next [] ∙ at_end path c.in_ok-with_line.field-0.version)
