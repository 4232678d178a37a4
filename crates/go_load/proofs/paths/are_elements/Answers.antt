use Rattle.std.proofs.Common.{◌≡◌, ℕ, ◌+◌, ◌-◌, ◌≤◌, Bool, true, false, ◌&&◌, List, length, take, drop, None, sym, ap, ◌∙◌, rules, arith}
use Rattle.std.specs.Prelude.{position}
use Rattle.std.specs.List.{list_all}
use Rattle.go_load.specs.Paths as spec
use Rattle.go_load.proofs.Lines.{rest_is, rest_shorter, and_nothing}
use Rattle.go_load.proofs.Parts.{part_first, part_last}
use Rattle.go_load.proofs.paths.are_elements.Goals as goal

pub returns-then-not-is_element : goal.returns-then-not-is_element
returns-then-not-is_element c =
    let rest = c.loop-end.rest.now in
    let end = c.in-Some.end in
    let bad : spec.is_element (take end rest) ≡ false = search rules in
    sym (c.loop-end.invariant.same
    ∙ ap (λ (parts : List (List ℕ)). list_all spec.is_element parts) (part_first spec.is_slash rest 0 end c.in-Some.ensures.place)
    ∙ ap (λ (b : Bool). b && spec.are_elements (drop (end + 1) rest)) bad)

pub loop-end-preserved : goal.loop-end-preserved
loop-end-preserved c =
    let rest = c.loop-end.rest.now in
    let end = c.in-Some.end in
    let good : spec.is_element (take end rest) ≡ true = search rules in
    let shorter : length (take (length rest - (end + 1)) (drop (end + 1) rest)) ≤ length rest = rest_shorter rest (end + 1) in
    record {
      within = omega arith;
      same =
          c.loop-end.invariant.same
          ∙ ap (λ (parts : List (List ℕ)). list_all spec.is_element parts) (part_first spec.is_slash rest 0 end c.in-Some.ensures.place)
          ∙ ap (λ (b : Bool). b && spec.are_elements (drop (end + 1) rest)) good
          ∙ ap (λ (t : List ℕ). spec.are_elements t) (sym (rest_is rest (end + 1)));
    }

pub returns : goal.returns
returns c =
    let rest = c.loop-end.rest.now in
    let place : None ≡ position spec.is_slash rest = search rules in
    c.is_element-2.ensures
    ∙ sym (c.loop-end.invariant.same ∙ ap (λ (parts : List (List ℕ)). list_all spec.is_element parts) (part_last spec.is_slash rest place) ∙ and_nothing (spec.is_element rest))
