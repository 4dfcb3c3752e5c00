use Rattle.hosted.proofs.Runs.{hosted_answers}
use Rattle.hosted.proofs.hosts_answer_as_records.Goals as goal

pub returns : goal.returns
returns c = hosted_answers
