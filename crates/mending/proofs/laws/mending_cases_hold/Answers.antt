use Rattle.mending.proofs.Cases.{mending_cases}
use Rattle.mending.proofs.laws.mending_cases_hold.Goals as goal

pub returns : goal.returns
returns c = mending_cases
