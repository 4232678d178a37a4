use Rattle.go_state.proofs.Growing as growing
use Rattle.go_state.proofs.laws.histories_grow.Goals as goal

pub returns : goal.returns
returns c = record { grow = growing.histories_grow; replay = growing.replays_grow; begin = growing.histories_begin; end = growing.one_end }
