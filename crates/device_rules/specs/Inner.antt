-- What serves the code's own functions, and no promise of the crate: what is known behind the guard of a message. Assumes nothing.
use Rattle.std.specs.Prelude.{ℕ, ◌≤◌, ◌≡◌, true, List, length}
use Rattle.message.specs.Limits.{device_room}
use Rattle.device_record.specs.declared.Device.{Device}
use Rattle.device_record.specs.Record.{condition_ok, record_ok, memory_ok}

-- the tests for 15, 13, 29 and 14 have passed
pub record Guarded (d : Device) (stated : ℕ) (image map reply : List ℕ) : Type 0 where
  pub room : device_room ≤ length reply
  pub condition : condition_ok stated ≡ true
  pub sound : record_ok d ≡ true
  pub held : memory_ok d image map ≡ true
