-- Demand 2: its parts, each proved where its laws stand. Assumes nothing.
use Rattle.unseen.proofs.Neighbours.{message_neighbours}
use Rattle.round_trips.specs.Demand2.{Demand2}
use Rattle.round_trips.proofs.RoundTrip.{device_round_trip, gateway_round_trip}
use Rattle.round_trips.proofs.Published.{published}

pub demand_2 : Demand2
demand_2 = (device_round_trip, gateway_round_trip, message_neighbours, published)
