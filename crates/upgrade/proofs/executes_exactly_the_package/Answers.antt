use Rattle.upgrade.proofs.Demand3.{demand_3}
use Rattle.upgrade.proofs.executes_exactly_the_package.Goals as goal

pub returns : goal.returns
returns c = demand_3
