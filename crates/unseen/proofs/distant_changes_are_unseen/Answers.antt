use Rattle.unseen.proofs.Unseen.{unseen}
use Rattle.unseen.proofs.distant_changes_are_unseen.Goals as goal

pub returns : goal.returns
returns c = unseen
