use Rattle.hosted.proofs.Count.{hosted_completed_is_tested}
use Rattle.hosted.proofs.hosted_completed_is_tested.Goals as goal

pub returns : goal.returns
returns c = hosted_completed_is_tested
