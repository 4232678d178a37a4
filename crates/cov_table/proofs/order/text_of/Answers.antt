use Rattle.std.proofs.Common.{◌≡◌, ℕ, zero, suc, List, [], ◌∷◌, None, slice_index_or, refl, sym}
use Rattle.std.specs.Prelude.{slice_get}
use Rattle.cov_table.proofs.order.text_of.Goals as goal

missing : (texts : List (List ℕ)) (i : ℕ) → None ≡ slice_get texts i → slice_index_or texts i [] ≡ []
missing [] i h = refl
missing (t ∷ texts) zero h = cc
missing (t ∷ texts) (suc i) h = missing texts i h

pub returns-in-None : goal.returns-in-None
returns-in-None c = sym (missing c.args.texts.now c.args.number c.in-None.ensures)
