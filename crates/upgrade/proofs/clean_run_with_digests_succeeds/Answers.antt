use Rattle.upgrade.proofs.CleanRun.{clean_run_with_digests}
use Rattle.upgrade.proofs.clean_run_with_digests_succeeds.Goals as goal

pub returns : goal.returns
returns c = clean_run_with_digests
