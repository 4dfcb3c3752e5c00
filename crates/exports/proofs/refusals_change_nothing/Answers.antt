use Rattle.exports.proofs.Refusals.{demand_1}
use Rattle.exports.proofs.refusals_change_nothing.Goals as goal

pub returns : goal.returns
returns c = demand_1
