use Rattle.capture_rules.proofs.Cases.{capture_cases}
use Rattle.capture_rules.proofs.capture_cases_hold.Goals as goal

pub returns : goal.returns
returns c = capture_cases
