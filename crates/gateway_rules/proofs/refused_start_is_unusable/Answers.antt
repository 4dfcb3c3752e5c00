use Rattle.gateway_rules.proofs.RefusedStart.{refused_start}
use Rattle.gateway_rules.proofs.refused_start_is_unusable.Goals as goal

pub returns : goal.returns
returns c = refused_start
