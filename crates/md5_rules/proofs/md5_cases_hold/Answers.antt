use Rattle.md5_rules.proofs.Cases.{md5_cases}
use Rattle.md5_rules.proofs.md5_cases_hold.Goals as goal

pub returns : goal.returns
returns c = md5_cases
