use Rattle.hosted.proofs.Witnessed.{hosted_witnesses}
use Rattle.hosted.proofs.hosted_witnesses_hold.Goals as goal

pub returns : goal.returns
returns c = hosted_witnesses
