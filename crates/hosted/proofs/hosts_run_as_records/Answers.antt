use Rattle.hosted.proofs.Runs.{hosted_runs}
use Rattle.hosted.proofs.hosts_run_as_records.Goals as goal

pub returns : goal.returns
returns c = hosted_runs
