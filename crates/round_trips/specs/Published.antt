-- The published values, as one table under one claim (01, "Promises with one reading"; sizes by 02, 2026-08). Assumes nothing.
use Rattle.std.specs.Prelude.{ℕ, zero, suc, ◌/◌, ◌%◌, ◌^◌, ◌≡◌, List, [], ◌∷◌, map, get_or}
use Rattle.basis.specs.Choice.{pick}
use Rattle.checksum.specs.Check.{entries, step, message_check}
use Rattle.message.specs.Limits.{size_ok}

-- so many bytes, as a number shows them
abbrev pub bytes : ℕ → ℕ → List ℕ
bytes zero number = []
bytes (suc n) number = number / 256 ^ n % 256 ∷ bytes n number

-- what a row is about
pub data Row : Type 0 where
  check_of_row : (length number : ℕ) → Row
  step_of : (register byte : ℕ) → Row
  entry : (place : ℕ) → Row
  size_ok_row : (size : ℕ) → Row

abbrev pub given : Row → ℕ
given (check_of_row n message) = message_check (bytes n message)
given (step_of r b) = step r b
given (entry i) = get_or entries i 0
given (size_ok_row n) = pick (size_ok n) 1 0

-- each message is shown as it is printed (that with 3AE6 as 01 has it), its check in its field, which is taken as 0000; a size that is allowed
-- gives 1, another 0
abbrev pub rows : List (Row × ℕ)
rows =
    (check_of_row 8 0xFFFE0113_4C9A_0000, 0x4C9A) ∷  -- 19 query
    (check_of_row 25 0xFFFE0113_8DE3_0011_00_56302E39_000000000000000000000000, 0x8DE3) ∷  -- 19 answer: V0.9
    (check_of_row 9 0xFFFE0114_D768_0001_00, 0xD768) ∷  -- 20 answer: 00
    (check_of_row 27 0xFFFE0115_E107_0013_00_0000_48454C4C4F2C20496F5420534F544121, 0xE107) ∷  -- 21 fragment 0
    (check_of_row 26 0xFFFE0115_5618_0012_56312E30_000000000000000000000000_0000, 0x5618) ∷  -- 21 request for fragment 0 of V1.0
    (check_of_row 30 0xFFFE0114_1019_0016_56312E30_000000000000000000000000_0100_013D_6534, 0x1019) ∷  -- 20 announcement of V1.0 in source 001
    (check_of_row 30 0xFFFE0114_3AE6_0016_56312E30_000000000000000000000000_01F4_0001_0000, 0x3AE6) ∷  -- 20 announcement of V1.0 with code 0000
    (step_of 0xA189 0x00, 0x0000) ∷  -- a register that a step loses
    (entry 0, 0x0000) ∷
    (entry 1, 0x1021) ∷
    (entry 137, 0x00A1) ∷
    (entry 255, 0x1EF0) ∷
    (size_ok_row 31, 0) ∷
    (size_ok_row 32, 1) ∷
    (size_ok_row 1024, 1) ∷
    (size_ok_row 1025, 0) ∷
    []

-- every row gives what is printed
abbrev pub Published : Type 0
Published = map (λ (r : Row × ℕ). given r.0) rows ≡ map (λ (r : Row × ℕ). r.1) rows
