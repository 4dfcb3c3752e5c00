use Rattle.hosted.proofs.Demand3.{hosted_repeats_agree}
use Rattle.hosted.proofs.hosted_repeats_agree.Goals as goal

pub returns : goal.returns
returns c = hosted_repeats_agree
