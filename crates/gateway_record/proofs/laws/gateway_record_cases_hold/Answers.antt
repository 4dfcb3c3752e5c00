use Rattle.gateway_record.proofs.Cases.{gateway_record_cases}
use Rattle.gateway_record.proofs.laws.gateway_record_cases_hold.Goals as goal

pub returns : goal.returns
returns c = gateway_record_cases
