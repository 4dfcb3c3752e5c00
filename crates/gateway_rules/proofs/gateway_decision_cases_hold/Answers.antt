use Rattle.gateway_rules.proofs.DecisionCases.{gateway_decision_cases}
use Rattle.gateway_rules.proofs.gateway_decision_cases_hold.Goals as goal

pub returns : goal.returns
returns c = gateway_decision_cases
