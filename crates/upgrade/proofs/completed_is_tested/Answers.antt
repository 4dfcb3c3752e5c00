use Rattle.upgrade.proofs.TestedBytes.{completed_is_tested}
use Rattle.upgrade.proofs.completed_is_tested.Goals as goal

pub returns : goal.returns
returns c = completed_is_tested
