use Rattle.device_record.proofs.Cases.{record_cases}
use Rattle.device_record.proofs.laws.record_cases_hold.Goals as goal

pub returns : goal.returns
returns c = record_cases
