-- What the range tests tell. Assumes nothing.
use Prim.Native.Nat.{ℕ, ◌≤◌}
use mathlib.Core.Path.{◌≡◌}
use mathlib.Core.Bool.{true, ◌&&◌}
use lib.Dec.{leb}
use borrow.Author.Tests.{leb-true}
use Rattle.basis.proofs.Choosing.{and_left, and_right}
use Rattle.message.specs.Limits.{size_min, size_max, total_max, size_ok, total_ok}
use Rattle.device_record.specs.Record.{loading, acked, holding}

pub between : (low high n : ℕ) → (leb low n && leb n high) ≡ true → (low ≤ n) × (n ≤ high)
between low high n e = (leb-true low n (and_left (leb low n) (leb n high) e), leb-true n high (and_right (leb low n) (leb n high) e))

pub size_range : (size : ℕ) → size_ok size ≡ true → (size_min ≤ size) × (size ≤ size_max)
unfolding size_ok
size_range size = between size_min size_max size

pub total_range : (total : ℕ) → total_ok total ≡ true → (1 ≤ total) × (total ≤ total_max)
unfolding total_ok
total_range total = between 1 total_max total

pub phase_holds : (phase : ℕ) → holding phase ≡ true → (loading ≤ phase) × (phase ≤ acked)
unfolding holding
phase_holds phase = between loading acked phase
