use Rattle.upgrade.proofs.CleanRun.{clean_run}
use Rattle.upgrade.proofs.clean_run_succeeds.Goals as goal

pub returns : goal.returns
returns c = clean_run
