use Rattle.message.proofs.Cases.{message_cases}
use Rattle.message.proofs.laws.message_cases_hold.Goals as goal

pub returns : goal.returns
returns c = message_cases
