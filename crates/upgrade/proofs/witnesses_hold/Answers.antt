use Rattle.upgrade.proofs.Witnessed.{witnesses}
use Rattle.upgrade.proofs.witnesses_hold.Goals as goal

pub returns : goal.returns
returns c = witnesses
