use Rattle.text.proofs.Cases.{text_cases}
use Rattle.text.proofs.laws.text_cases_hold.Goals as goal

pub returns : goal.returns
returns c = text_cases
