use Rattle.md5_layout.proofs.Cases.{layout_cases}
use Rattle.md5_layout.proofs.laws.layout_cases_hold.Goals as goal

pub returns : goal.returns
returns c = layout_cases
