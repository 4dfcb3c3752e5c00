use Rattle.decoding_rules.proofs.Cases.{decoding_cases}
use Rattle.decoding_rules.proofs.decoding_cases_hold.Goals as goal

pub returns : goal.returns
returns c = decoding_cases
