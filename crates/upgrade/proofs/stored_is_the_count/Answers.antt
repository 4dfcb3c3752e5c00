use Rattle.upgrade.proofs.Count.{count}
use Rattle.upgrade.proofs.stored_is_the_count.Goals as goal

pub returns : goal.returns
returns c = count
