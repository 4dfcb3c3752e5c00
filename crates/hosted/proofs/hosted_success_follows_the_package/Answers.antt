use Rattle.hosted.proofs.Demand3.{hosted_upgrade}
use Rattle.hosted.proofs.hosted_success_follows_the_package.Goals as goal

pub returns : goal.returns
returns c = hosted_upgrade
