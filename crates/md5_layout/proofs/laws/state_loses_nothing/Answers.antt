use Rattle.md5_layout.proofs.Identity.{state_identity}
use Rattle.md5_layout.proofs.laws.state_loses_nothing.Goals as goal

pub returns : goal.returns
returns c = state_identity
