-- The bytes that a map needs. Assumes nothing.
use Prim.Native.Nat.{ℕ, ◌*◌, ◌/◌, ◌≤◌, ◌<◌}
use native.Mathlib.Omega.{arith}
use mathlib.Core.List.{List}
use lib.ListN.{length}
use Rattle.device_record.specs.Record.{map_bytes}

pub map_bytes_cover : (total : ℕ) → total ≤ 8 * map_bytes total
unfolding map_bytes
map_bytes_cover total = omega arith

pub byte_within : (index total : ℕ) (map : List ℕ) → index < total → map_bytes total ≤ length map → index / 8 < length map
unfolding map_bytes
byte_within index total map l room = omega arith
