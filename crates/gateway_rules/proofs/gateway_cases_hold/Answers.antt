use Rattle.gateway_rules.proofs.Cases.{gateway_cases}
use Rattle.gateway_rules.proofs.gateway_cases_hold.Goals as goal

pub returns : goal.returns
returns c = gateway_cases
