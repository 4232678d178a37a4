use Rattle.gocov_tools.proofs.Puts.{none_failed, none_stopped}
use Rattle.gocov_tools.proofs.perform.put_in.Goals as goal

pub returns-in_err-make_dir_of-clause-failed : goal.returns-in_err-make_dir_of-clause-failed
returns-in_err-make_dir_of-clause-failed g c failed = none_failed (g.F.Files.tree c.args.files.now) _ c.args.puts.now c.in_err-make_dir_of.ensures.some c.in_err-make_dir_of.ensures.same

pub returns-in_err-make_dir_of-clause-no_memory : goal.returns-in_err-make_dir_of-clause-no_memory
returns-in_err-make_dir_of-clause-no_memory g c stopped = none_stopped (g.F.Files.tree c.args.files.now) _ c.args.puts.now c.in_err-make_dir_of.ensures.same
