-- Tables of pods that were read one after the other agree in their modes.
use Rattle.std.proofs.Common.{◌≡◌, Option, Some, sym, ◌∙◌}
use Rattle.cov_outside.specs.declared.mode.Mode.{Mode}
use Rattle.cov_table.specs.Refusal.{Agree}
use Rattle.gocov_tools.specs.Modes.{HasModeOf, KeepsMode}
use Rattle.gocov_tools.specs.declared.reading.FirstMeta.{FirstMeta}

one_value : (a b : Mode) → Some a ≡ Some b → a ≡ b
one_value a b e = cc

pub agree : (first later : Option FirstMeta) (table other : Option Mode) → HasModeOf first table → KeepsMode first later → HasModeOf later other → Agree table other
agree first later table other h k o a b is also = one_value a b (sym (k a (h a is)) ∙ o b also)
