use Rattle.hosted.proofs.Count.{hosted_count}
use Rattle.hosted.proofs.hosted_stored_is_the_count.Goals as goal

pub returns : goal.returns
returns c = hosted_count
