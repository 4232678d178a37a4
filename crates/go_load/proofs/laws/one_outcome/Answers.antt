use Rattle.go_load.specs.Homes.{HomeAt}
use Rattle.go_load.specs.Loading.{FromPackages}
use Rattle.go_load.specs.Packages.{Packages}
use Rattle.go_load.specs.Refusals.{Then}
use Rattle.go_load.proofs.Single.{home_one, then_one}
use Rattle.go_load.proofs.SingleOrder.{from_one}
use Rattle.go_load.proofs.SinglePackages.{packages_one}
use Rattle.go_load.proofs.laws.one_outcome.Goals as goal

pub returns : goal.returns
returns g c = λ reads_one t dir.
    let gives = g.S.ReadsSource.gives c.args._reader.now in
    then_one (HomeAt t dir) (λ home. Then (Packages gives t home) (FromPackages home)) (home_one t dir)
    (λ home at. then_one (Packages gives t home) (FromPackages home) (packages_one gives reads_one t home) (λ founds found. from_one home founds))
