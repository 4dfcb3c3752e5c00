use Rattle.unseen.proofs.Neighbours.{message_neighbours}
use Rattle.unseen.proofs.message_neighbours_are_unseen.Goals as goal

pub returns : goal.returns
returns c = message_neighbours
