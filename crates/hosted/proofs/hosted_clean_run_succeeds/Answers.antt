use Rattle.hosted.proofs.Clean.{hosted_clean_run}
use Rattle.hosted.proofs.hosted_clean_run_succeeds.Goals as goal

pub returns : goal.returns
returns c = hosted_clean_run
