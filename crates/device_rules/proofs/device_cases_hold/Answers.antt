use Rattle.device_rules.proofs.Cases.{device_cases}
use Rattle.device_rules.proofs.device_cases_hold.Goals as goal

pub returns : goal.returns
returns c = device_cases
