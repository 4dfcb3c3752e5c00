use Rattle.capture_rules.proofs.Records.{no_record}
use Rattle.capture_rules.proofs.no_record_is_told.Goals as goal

pub returns : goal.returns
returns c = no_record
