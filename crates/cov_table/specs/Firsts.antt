-- Values by key, where the first stays.
use Rattle.std.specs.Prelude.{List, [], ◌∷◌, if◌then◌else◌}
use Rattle.std.specs.declared.cmp.Ordering.{Ordering}
use Rattle.std.specs.FinMap as finmap

module _ {K X : Type 0} {R : K → K → Ordering} where
  -- with a value at a key that had none
  abbrev pub with_first : finmap.FinMap R X → K → X → finmap.FinMap R X
  with_first m k x = if finmap.contains_key m k then m else finmap.insert m k x

  -- with those values, one after the other
  abbrev pub with_firsts : finmap.FinMap R X → List (K × X) → finmap.FinMap R X
  with_firsts m [] = m
  with_firsts m (e ∷ es) = with_firsts (with_first m e.0 e.1) es
