use Rattle.upgrade.proofs.Count.{room}
use Rattle.upgrade.proofs.memory_stays_enough.Goals as goal

pub returns : goal.returns
returns c = room
