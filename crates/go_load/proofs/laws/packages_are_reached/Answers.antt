use Rattle.go_load.proofs.Reaching.{packages_reached}
use Rattle.go_load.proofs.laws.packages_are_reached.Goals as goal

pub returns : goal.returns
returns g c = λ reads_one t home founds packages. packages_reached (g.S.ReadsSource.gives c.args._reader.now) t home founds reads_one packages
