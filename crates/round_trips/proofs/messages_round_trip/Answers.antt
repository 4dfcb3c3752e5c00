use Rattle.round_trips.proofs.Demand2.{demand_2}
use Rattle.round_trips.proofs.messages_round_trip.Goals as goal

pub returns : goal.returns
returns c = demand_2
