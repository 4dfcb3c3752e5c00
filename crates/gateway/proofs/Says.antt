-- What the table allows is said: there is room for it. Assumes nothing.
use Rattle.std.proofs.Common.{◌≡◌, true, ℕ, List, ◌≤◌, length, arith}
use Rattle.std.proofs.lemmas.Grind.{common_steps}
use Rattle.basis.specs.Choice.{pick}
use Rattle.basis.specs.declared.refusal.Refusal.{Refusal}
use Rattle.basis.specs.Refusals.{number_of}
use Rattle.message.specs.Limits.{gateway_room}
use Rattle.message.specs.Messages.{DeviceMessage, found, to_device}
use Rattle.codec.specs.Codec.{said, write_of}

pub written_said : (m : DeviceMessage) (buffer : List ℕ) → gateway_room ≤ length buffer → to_device.valid m ≡ true
    → write_of to_device (found m) buffer ≡ said to_device (found m) buffer
unfolding write_of said pick
written_said m buffer room ok = grind (arith, common_steps)

-- no refusal has the number 0
pub number_some : (e : Refusal) → number_of e ≡ 0 → ⊥
number_some e = grind (arith, common_steps)
