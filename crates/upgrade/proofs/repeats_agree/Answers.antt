use Rattle.upgrade.proofs.Demand3.{repeats_agree}
use Rattle.upgrade.proofs.repeats_agree.Goals as goal

pub returns : goal.returns
returns c = repeats_agree
