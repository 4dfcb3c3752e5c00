use Rattle.unseen.proofs.Neighbours.{any_neighbours}
use Rattle.unseen.proofs.any_neighbours_are_unseen.Goals as goal

pub returns : goal.returns
returns c = any_neighbours
