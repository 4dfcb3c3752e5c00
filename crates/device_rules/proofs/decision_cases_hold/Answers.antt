use Rattle.device_rules.proofs.DecisionCases.{decision_cases}
use Rattle.device_rules.proofs.decision_cases_hold.Goals as goal

pub returns : goal.returns
returns c = decision_cases
