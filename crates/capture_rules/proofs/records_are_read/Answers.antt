use Rattle.capture_rules.proofs.Records.{recorded}
use Rattle.capture_rules.proofs.records_are_read.Goals as goal

pub returns : goal.returns
returns c = recorded
