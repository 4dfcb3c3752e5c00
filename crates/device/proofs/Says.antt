-- What the table allows is said: there is room for it. What is answered to an announcement and to an order to install. Assumes nothing.
use Rattle.std.proofs.Common.{◌≡◌, true, ℕ, List, ◌≤◌, length, arith, refl, Result, Ok, Err}
use Rattle.std.proofs.lemmas.Grind.{common_steps}
use Rattle.std.specs.Prelude.{min}
use Rattle.basis.specs.Choice.{pick, one_of}
use Rattle.message.specs.Limits.{device_room}
use Rattle.message.specs.Messages.{GatewayMessage, found, to_gateway, gateway_row, announce_reply, execute_reply}
use Rattle.message.specs.declared.Fields.{Fields}
use Rattle.codec.specs.Codec.{said, write_of}
use Rattle.device_record.specs.declared.Device.{Device}
use Rattle.device_record.specs.declared.condition.Condition.{Condition}
use Rattle.device_record.specs.declared.condition.Condition.TheVariants.{Ready, Busy, WeakSignal, LowPower, Internal}
use Rattle.device_record.specs.declared.phase.Phase.TheVariants.{Installing}
use Rattle.device_record.specs.Conditions.{condition_code}
use Rattle.device_record.specs.Record.{map_bytes}
use Rattle.device_rules.specs.Decisions.{announce_result, execute_result}
use Rattle.codec.specs.Answers.{sent}
use Rattle.basis.specs.declared.refusal.Refusal.{Refusal}
use Rattle.device.specs.Left.{enters, left}

pub written_said : (m : GatewayMessage) (buffer : List ℕ) → device_room ≤ length buffer → to_gateway.valid m ≡ true →
    write_of to_gateway (found m) buffer ≡ said to_gateway (found m) buffer
unfolding write_of said pick
written_said m buffer room ok = grind (arith, common_steps)

-- what a handler that says a message leaves, by what was sent
pub left_as_sent : (r : Result ℕ Refusal) (d : Device) (image map reply : List ℕ) →
    left r d image map reply
    ≡ record { number = (sent r reply).number; length = (sent r reply).length; device = d; image = image; map = map; reply = (sent r reply).buffer }
left_as_sent (Ok n) d image map reply = refl
left_as_sent (Err e) d image map reply = refl

-- an announcement is answered by what the table allows, and by 00 only where the map has room
pub announce_said : (d : Device) (condition : Condition) (f : Fields) (image map : List ℕ) →
    to_gateway.valid (announce_reply (announce_result d (condition_code condition) f image map)) ≡ true
unfolding gateway_row one_of announce_result pick
announce_said d Ready f image map = grind (arith, common_steps)
announce_said d Busy f image map = grind (arith, common_steps)
announce_said d WeakSignal f image map = grind (arith, common_steps)
announce_said d LowPower f image map = grind (arith, common_steps)
announce_said d Internal f image map = grind (arith, common_steps)

pub announce_room : (d : Device) (condition : ℕ) (f : Fields) (image map : List ℕ) → announce_result d condition f image map ≡ 0 →
    min (map_bytes f.total) (length map) ≡ map_bytes f.total
unfolding announce_result pick
announce_room d condition f image map e = grind (arith, common_steps)

-- an order to install is answered by what the table allows, and by 00 only where a download is held or installed
pub execute_said : (phase condition : ℕ) → to_gateway.valid (execute_reply (execute_result phase condition)) ≡ true
unfolding gateway_row one_of execute_result pick
execute_said phase condition = grind (arith, common_steps)

pub execute_enters : (phase condition : ℕ) → execute_result phase condition ≡ 0 → enters phase Installing ≡ true
unfolding execute_result pick one_of
execute_enters phase condition e = grind (arith, common_steps)
