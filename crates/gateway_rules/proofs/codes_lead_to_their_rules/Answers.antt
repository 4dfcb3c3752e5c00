use Rattle.gateway_rules.proofs.Leading.{codes_lead}
use Rattle.gateway_rules.proofs.codes_lead_to_their_rules.Goals as goal

pub returns : goal.returns
returns c = codes_lead
