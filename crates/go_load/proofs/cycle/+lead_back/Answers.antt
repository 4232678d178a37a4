use Rattle.std.proofs.Common.{◌≡◌, ◌<◌, ◌++◌, ◌∷◌, [], ℕ, ◌+◌, ◌-◌, ◌⊎◌, List, true, false, length, take, sym, ap, subst, ◌∙◌, inr, arith, rules, set}
use Rattle.std.specs.List.{Contains}
use Rattle.std.proofs.lemmas.List.{length-set}
use Rattle.std.proofs.lemmas.Bool.{both_ways}
use Rattle.go_load.specs.Graph.{imports}
use Rattle.go_load.specs.Marks.{is_marked, count_unmarked, IsDead, IsSearched}
use Rattle.go_load.proofs.Ways.{pushed, popped, one_fewer}
use Rattle.go_load.proofs.Finding.{AreTried, found_through, not_found, tried_more, exhausted, taken_off}
use Rattle.go_load.proofs.cycle.+lead_back.Goals as goal
use Rattle.go_load.proofs.cycle.+lead_back.Goals.{then-imports-2+then-not-marks-v+in_ok-push+in_ok-lead_back+else-branch, else-imports-2, else-imports-2-via-then-imports-2+else-not-marks-v, else-imports-2-via-else-imports-2}

pub lead_back-requires : goal.lead_back-requires
lead_back-requires t c =
    let i = c.loop-v.invariant in
    let within : c.loop-v.v < length c.loop-v.marks = omega (arith, i.many) in
    let unmarked : is_marked c.loop-v.marks c.loop-v.v ≡ false = search rules in
    let fewer : count_unmarked (set c.loop-v.marks c.loop-v.v true) + 1 ≡ count_unmarked c.loop-v.marks = one_fewer c.loop-v.marks c.loop-v.v within unmarked in
    let searched : IsSearched c.args.graph.now c.args.start c.push.new.self.items (set c.loop-v.marks c.loop-v.v true) =
    subst (λ (p : List ℕ). IsSearched c.args.graph.now c.args.start p (set c.loop-v.marks c.loop-v.v true)) (sym c.in_ok-push.ensures.items)
    (pushed c.args.graph.now c.args.start c.loop-v.path.items c.loop-v.v c.loop-v.marks within i.searched) in
    (omega (arith, i.fewer), (c.requires.start, (omega arith, (length-set c.loop-v.marks c.loop-v.v true ∙ i.many, searched))))

pub returns-then-branch-clause-found : goal.returns-then-branch-clause-found
returns-then-branch-clause-found t c =
    let i = c.loop-v.invariant in
    let no_start : imports c.args.graph.now c.args.last c.args.start ≡ false = search rules in
    let imported : imports c.args.graph.now c.args.last c.loop-v.v ≡ true = search rules in
    let unmarked : is_marked c.loop-v.marks c.loop-v.v ≡ false = search rules in
    found_through c.args.graph.now c.args.start c.args.last c.loop-v.v c.args.path.now.items c.loop-v.path.items c.push.new.self.items c.lead_back.new.path.items c.loop-v.marks c.lead_back.new.marks c.in_ok-lead_back.field-0
    c.if-branch.true c.in_ok-lead_back.ensures.found c.in_ok-push.ensures.items i.path no_start i.tried imported (omega arith) unmarked i.searched

pub loop-v-preserved : goal.loop-v-preserved
loop-v-preserved t c =
    let i = c.loop-v.invariant in
    let graph = c.args.graph.now in
    let start = c.args.start in
    let v = c.loop-v.v in
    let held = c.loop-v.path.items in
    let marks = c.loop-v.marks in
    elim c.if-imports-2.branch [
      | then-imports-2+then-not-marks-v+in_ok-push+in_ok-lead_back+else-branch w ↦
          let within : v < length marks = omega (arith, i.many) in
          let unmarked : is_marked marks v ≡ false = search rules in
          let fewer : count_unmarked (set marks v true) + 1 ≡ count_unmarked marks = one_fewer marks v within unmarked in
          let push : w.push.new.self.items ≡ held ++ v ∷ [] = w.in_ok-push.ensures.items in
          let none = not_found graph start v held w.push.new.self.items w.lead_back.new.path.items w.lead_back.new.marks w.in_ok-lead_back.field-0 w.if-branch.false w.in_ok-lead_back.ensures.found push in
          let len : w.lead_back.new.path.len ≡ length w.lead_back.new.path.items = omega arith in
          let back : w.pop.new.self.items ≡ held = taken_off held w.lead_back.new.path.items w.pop.new.self.items v none.0 (w.pop.ensures.rest ∙ ap (λ (n : ℕ). take (n - 1) w.lead_back.new.path.items) len) in
          rw (w.marks-is, w.path-is)
          record {
            many = w.in_ok-lead_back.ensures.marks;
            fewer = omega (arith, i.fewer, w.in_ok-lead_back.ensures.fewer);
            path = back ∙ i.path;
            searched = subst (λ (p : List ℕ). IsSearched graph start p w.lead_back.new.marks) (sym back) (popped graph start held v w.lead_back.new.marks none.1 none.2);
            tried = subst (λ (p : List ℕ). AreTried graph start p c.args.last (v + 1)) (sym back) (tried_more graph start held c.args.last v i.tried (λ _. inr none.1));
          }
      | else-imports-2 w ↦
          let this : imports graph c.args.last v ≡ true → Contains held v ⊎ IsDead graph start (held ++ v ∷ []) v =
          elim w.else-imports-2.branch [
            | else-imports-2-via-then-imports-2+else-not-marks-v w' ↦ λ _. i.searched.others v (search rules)
            | else-imports-2-via-else-imports-2 w' ↦ λ imported. let no_import : imports graph c.args.last v ≡ false = search rules in absurd (both_ways (imports graph c.args.last v) no_import imported)
          ] in
          rw (w.marks-is, w.path-is)
          record { many = i.many; fewer = i.fewer; path = i.path; searched = i.searched; tried = tried_more graph start held c.args.last v i.tried this }
    ]

pub returns-clause-found : goal.returns-clause-found
returns-clause-found t c =
    let i = c.loop-v.invariant in
    let no_start : imports c.args.graph.now c.args.last c.args.start ≡ false = search rules in
    let dead : IsDead c.args.graph.now c.args.start c.loop-v.path.items c.args.last = exhausted c.args.graph.now c.args.start c.loop-v.path.items c.args.last c.loop-v.v no_start (omega arith) i.tried in (
      i.path,
      subst (λ (p : List ℕ). IsDead c.args.graph.now c.args.start p c.args.last) i.path dead,
      subst (λ (p : List ℕ). IsSearched c.args.graph.now c.args.start p c.loop-v.marks) i.path i.searched,
    )
