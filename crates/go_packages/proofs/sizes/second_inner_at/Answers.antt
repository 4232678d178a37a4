use Rattle.std.proofs.Common.{◌≡◌, ℕ, sym, ◌∙◌}
use Rattle.go_packages.proofs.Layers.{second_some, second_none}
use Rattle.go_packages.proofs.sizes.second_inner_at.Goals as goal

pub returns-in-Some : goal.returns-in-Some
returns-in-Some c = c.inner_at.ensures ∙ second_some _ _ _ c.in-Some.ensures

pub returns-in-None : goal.returns-in-None
returns-in-None c = second_none _ _ c.in-None.ensures
