use Rattle.hosted.proofs.Count.{hosted_room}
use Rattle.hosted.proofs.hosted_memory_stays_enough.Goals as goal

pub returns : goal.returns
returns c = hosted_room
