use Rattle.std.proofs.Common.{◌≡◌, ℕ, None, map, take, get_or}
use Rattle.std.specs.Prelude.{slice_get}
use Rattle.std.specs.List.{Contains, flat_map}
use Rattle.go_load.specs.Loading as spec
use Rattle.go_load.proofs.loaded.in_order.Given as goal

abbrev pub invariant-loop-number : goal.invariant-loop-number
invariant-loop-number l = record {
  left : (k : ℕ) → (Contains (take l.number-index l.order) k → ⊥) → get_or l.slots.items k None ≡ slice_get l.fn.founds.items k;
  packages : l.packages.items ≡ map spec.module_package (spec.with_numbers l.fn.founds.items (take l.number-index l.order));
  texts : l.texts ≡ flat_map spec.texts_of (spec.with_numbers l.fn.founds.items (take l.number-index l.order));
}
