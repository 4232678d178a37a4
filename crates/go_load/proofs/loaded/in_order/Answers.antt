use Rattle.std.proofs.Common.{◌≡◌, ◌++◌, ◌+◌, ◌<◌, ℕ, [], ◌∷◌, None, length, map, take, get_or, refl, sym, ap, ◌∙◌, rules}
use Rattle.std.specs.Prelude.{slice_get}
use Rattle.std.specs.List.{flat_map}
use Rattle.go_load.specs.Loading as spec
use Rattle.go_load.proofs.Taking.{slots_get, left_more, numbers_more, numbers_same, packages_more, texts_more}
use Rattle.go_load.proofs.loaded.in_order.Goals.{in-Some+in_ok-package_of+in_ok-push, in_default}
use Rattle.go_load.proofs.loaded.in_order.Goals as goal

pub loop-number-init : goal.loop-number-init
loop-number-init c = record {
  left = λ k apart. ap (λ slots. get_or slots k None) c.in_ok-slots.ensures ∙ slots_get c.args.founds.items k;
  packages = search rules;
  texts = search rules;
}

pub loop-number-preserved : goal.loop-number-preserved
loop-number-preserved c =
    let founds = c.args.founds.items in
    let order = c.args.order.now in
    let i = c.loop-number.number-index in
    let n : ℕ = get_or order i 0 in
    let lt : i < length order = search rules in
    let inv = c.loop-number.invariant in
    let held : get_or c.loop-number.slots.items n None ≡ slice_get founds n = inv.left n (c.requires i 0 lt) in
    let left : (k : ℕ) → _ → get_or c.take_package.new.slots.items k None ≡ slice_get founds k =
    λ k apart. ap (λ slots. get_or slots k None) c.take_package.ensures.left ∙ left_more c.loop-number.slots.items founds order i n 0 lt refl inv.left k apart in
    let there : slice_get founds n ≡ c.take_package.result = sym held ∙ sym c.take_package.ensures.taken in
    elim c.match-take_package.branch [
      | in-Some+in_ok-package_of+in_ok-push w ↦
          let found = w.in-Some.found in
          let before = spec.with_numbers founds (take i order) in
          let after = spec.with_numbers founds (take (i + 1) order) in
          let more : after ≡ before ++ found ∷ [] = numbers_more founds order i n 0 found lt refl (there ∙ w.in-Some.is) in
          let pushed : w.push.new.self.items ≡ c.loop-number.packages.items ++ spec.module_package found ∷ [] = search rules in
          let put : w.package_of.new.texts ≡ c.loop-number.texts ++ spec.texts_of found = search rules in
          rw (w.packages-is, w.texts-is) (record {
            left = left;
            packages = pushed ∙ packages_more before after found c.loop-number.packages.items more inv.packages;
            texts = put ∙ texts_more before after found c.loop-number.texts more inv.texts;
          })
      | in_default w ↦
          let same = numbers_same founds order i n 0 lt refl (there ∙ w.in_default.is) in
          rw (w.packages-is, w.texts-is) (record {
            left = left;
            packages = inv.packages ∙ ap (map spec.module_package) (sym same);
            texts = inv.texts ∙ ap (flat_map spec.texts_of) (sym same);
          })
    ]
