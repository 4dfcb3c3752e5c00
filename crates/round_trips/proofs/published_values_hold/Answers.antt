use Rattle.round_trips.proofs.Published.{published}
use Rattle.round_trips.proofs.published_values_hold.Goals as goal

pub returns : goal.returns
returns c = published
