use Rattle.std.specs.Prelude.{replicate}
use Rattle.std.proofs.Common.{ap}
use Rattle.device_record.specs.declared.Made.{Made}
use Rattle.transcript.specs.Transcript.{start}
use Rattle.transcript.specs.Items.{at_rest}
use Rattle.transcript.proofs.player.Player.new.Goals as goal

pub returns : goal.returns
unfolding start
returns c = ap (λ (m : Made). at_rest m.device (replicate 16384 0) (replicate 64 0) (replicate 26 0)) c.new-made.ensures
