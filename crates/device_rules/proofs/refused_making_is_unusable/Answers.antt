use Rattle.device_rules.proofs.RefusedMaking.{refused_making}
use Rattle.device_rules.proofs.refused_making_is_unusable.Goals as goal

pub returns : goal.returns
returns c = refused_making
