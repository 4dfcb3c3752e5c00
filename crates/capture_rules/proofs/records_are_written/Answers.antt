use Rattle.capture_rules.proofs.Written.{writing}
use Rattle.capture_rules.proofs.records_are_written.Goals as goal

pub returns : goal.returns
returns c = writing
