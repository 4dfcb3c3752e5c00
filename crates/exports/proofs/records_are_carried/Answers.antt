use Rattle.exports.proofs.Carrying.{records_carried}
use Rattle.exports.proofs.records_are_carried.Goals as goal

pub returns : goal.returns
returns c = records_carried
