use Rattle.std.proofs.Common.{◌≡◌, ◌++◌, ◌<◌, ◌∙◌, ℕ, [], ◌∷◌, length, map, take, get_or, refl, sym, ap, rules}
use Rattle.std.specs.Prelude.{slice_get, Some, None}
use Rattle.std.proofs.lemmas.List.{map-append}
use Rattle.std.proofs.lemmas.Option.{slice_get_past, slice_get_read}
use Rattle.go_load.specs.Loading as spec
use Rattle.go_load.proofs.Taking.{numbers_more, numbers_same}
use Rattle.go_load.proofs.by_reader.paths_of.Goals.{in-Some+in_ok-clone+in_ok-push, in_default}
use Rattle.go_load.proofs.by_reader.paths_of.Goals as goal

pub loop-number-preserved : goal.loop-number-preserved
loop-number-preserved c =
    let founds = c.args.founds.now in
    let numbers = c.args.numbers.now in
    let i = c.loop-number.number-index in
    let n : ℕ = get_or numbers i 0 in
    let lt : i < length numbers = search rules in
    let before = spec.with_numbers founds (take i numbers) in
    elim c.match-get.branch [
      | in-Some+in_ok-clone+in_ok-push w ↦
          let found = w.in-Some.found.now in
          let there : slice_get founds n ≡ Some found = slice_get_read founds (length founds) n found refl w.in-Some.ensures.lookup.3.0 (w.in-Some.ensures.lookup.3.1 found) in
          let pushed : w.push.new.self ≡ c.loop-number.paths ++ found.path ∷ [] = search rules in
          rw (w.paths-is) (pushed ∙ ap (λ ps. ps ++ found.path ∷ []) c.loop-number.invariant ∙ sym (map-append (λ f. f.path) before (found ∷ []))
          ∙ ap (map (λ f. f.path)) (sym (numbers_more founds numbers i n 0 found lt refl there)))
      | in_default w ↦
          let there : slice_get founds n ≡ None = slice_get_past founds n w.in_default.ensures.lookup.3 in
          rw (w.paths-is) (c.loop-number.invariant ∙ ap (map (λ f. f.path)) (sym (numbers_same founds numbers i n 0 lt refl there)))
    ]
