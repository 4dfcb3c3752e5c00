use Rattle.layout_rules.proofs.Cases.{layout_cases}
use Rattle.layout_rules.proofs.layout_cases_hold.Goals as goal

pub returns : goal.returns
returns c = layout_cases
