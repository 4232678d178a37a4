use Rattle.gocov_run.proofs.Sources.{loaded_is_sized}
use Rattle.gocov_run.proofs.checking.check_loaded.Goals as goal

pub check-requires-clause-sized : goal.check-requires-clause-sized
check-requires-clause-sized c = loaded_is_sized c.args.loaded.now c.sound_modules_are_sized.ensures c.requires
