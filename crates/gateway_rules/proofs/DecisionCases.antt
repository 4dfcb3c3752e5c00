-- The cases of the gateway's decisions, computed. Assumes nothing.
use mathlib.Core.Path.{refl}
use Rattle.basis.specs.Choice.{pick}
use Rattle.basis.specs.Bytes.{same}
use Rattle.gateway_rules.specs.Decisions.{after_query, serving, fragment_result, install_ending}
use Rattle.gateway_rules.specs.DecisionCases.{GatewayDecisionCases}

pub gateway_decision_cases : GatewayDecisionCases
unfolding pick same after_query serving fragment_result install_ending
gateway_decision_cases = record { query = refl; serves = refl; request = refl; install = refl }
