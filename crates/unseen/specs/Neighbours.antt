-- What the check cannot see: 01, "The message and its check". Assumes nothing.
use Rattle.std.specs.Prelude.{ℕ, ◌+◌, ◌<◌, ◌≢◌, ◌≡◌, List, length, get_or, set}
use Rattle.std.specs.Int.Bits.{bit_xor}
use Rattle.checksum.specs.Check.{check_of, message_check}

-- the byte at i and the one behind it, xored with two numbers
abbrev pub neighbours_xored : List ℕ → (i first second : ℕ) → List ℕ
neighbours_xored m i first second = set (set m i (bit_xor (get_or m i 0) first)) (i + 1) (bit_xor (get_or m (i + 1) 0) second)

-- this leaves the check of any bytes the same
abbrev pub AnyNeighbours : (first second : ℕ) → Type 0
AnyNeighbours first second = (m : List ℕ) (i : ℕ) → i + 1 < length m → check_of (neighbours_xored m i first second) ≡ check_of m

-- and that of any message, if both are outside the check field (4 and 5)
abbrev pub Neighbours : (first second : ℕ) → Type 0
Neighbours first second =
    (m : List ℕ) (i : ℕ) → i + 1 < length m → i ≢ 3 → i ≢ 4 → i ≢ 5 → message_check (neighbours_xored m i first second) ≡ message_check m
