use Rattle.layout_rules.proofs.Identity.{identity}
use Rattle.layout_rules.proofs.layouts_lose_nothing.Goals as goal

pub returns : goal.returns
returns c = identity
