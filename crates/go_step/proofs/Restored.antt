-- An element that is put back where it was taken.
use Rattle.std.proofs.Common.{◌≡◌, ℕ, List, Some, slice_get, sym, ap, ◌∙◌}
use Rattle.std.specs.Prelude.{slice_set}
use Rattle.std.proofs.lemmas.Option.{get_or_from_slice_get}
use Rattle.std.proofs.lemmas.List.{set-set, set-get_or}

pub restored : {A : Type 0} (xs : List A) (k : ℕ) (hole x : A) → slice_get xs k ≡ Some x → slice_set (slice_set xs k hole) k x ≡ xs
restored xs k hole x e = set-set xs k hole x ∙ ap (slice_set xs k) (sym (get_or_from_slice_get xs k x x e)) ∙ set-get_or xs k x
