-- 01's limits of sizes, totals, WORDs and buffers, each named once. Assumes nothing.
use Rattle.std.specs.Prelude.{ℕ, ◌+◌, Bool, ◌&&◌, leb, ltb}

-- fragment size: 32 to 1,024 (02, 2026-08)
abbrev pub size_min : ℕ
size_min = 32

abbrev pub size_max : ℕ
size_max = 1024

unfoldable pub size_ok : ℕ → Bool
size_ok size = leb size_min size && leb size size_max

-- total: 1 to 65,535 fragments
abbrev pub total_max : ℕ
total_max = 65535

unfoldable pub total_ok : ℕ → Bool
total_ok total = leb 1 total && leb total total_max

-- a WORD field holds two bytes
unfoldable pub is_word : ℕ → Bool
is_word n = ltb n 65536

-- the least reply buffer of the device, and of the gateway: its longest message is a full fragment
abbrev pub device_room : ℕ
device_room = 26

abbrev pub gateway_room : ℕ
gateway_room = 11 + size_max
