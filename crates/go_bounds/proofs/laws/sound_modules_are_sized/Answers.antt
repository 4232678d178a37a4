use Rattle.go_bounds.proofs.Spelled as spelled
use Rattle.go_bounds.proofs.laws.sound_modules_are_sized.Goals as goal

pub returns : goal.returns
returns c = spelled.sound_modules_are_sized
