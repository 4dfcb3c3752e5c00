use Rattle.upgrade.proofs.Repeats.{repeats_compared}
use Rattle.upgrade.proofs.repeats_are_compared.Goals as goal

pub returns : goal.returns
returns c = repeats_compared
