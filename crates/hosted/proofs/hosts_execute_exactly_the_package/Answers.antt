use Rattle.hosted.proofs.Demand3.{hosted_demand_3}
use Rattle.hosted.proofs.hosts_execute_exactly_the_package.Goals as goal

pub returns : goal.returns
returns c = hosted_demand_3
