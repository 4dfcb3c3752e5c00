-- Captures written: 02, 2026-02. Assumes nothing.
use Rattle.std.specs.Prelude.{ℕ, ◌+◌, Bool, ◌&&◌, List, leb, length}
use Rattle.basis.specs.Choice.{pick}
use Rattle.basis.specs.Numbers.{handled, does_not_fit}
use Rattle.basis.specs.Bytes.{patched}
use Rattle.capture_rules.specs.Capture.{record_bytes, header_length}

-- the most bytes of a record's message: their number is a WORD
abbrev pub message_most : ℕ
message_most = 65535

-- a message of so many bytes has a length WORD, at most 65,535, and its record has room in a buffer of this size, from a place on
unfoldable pub fits : (size at count : ℕ) → Bool
fits size at count = leb count message_most && leb (at + header_length + count) size

-- what writing gives: the number, the next place, and the buffer
pub record Wrote : Type 0 where
  pub number : ℕ
  pub at : ℕ
  pub buffer : List ℕ

-- the record at the place, and the place behind it
abbrev pub laid : (to_device : Bool) (message buffer : List ℕ) (at : ℕ) → Wrote
laid to_device message buffer at =
    record { number = handled; at = at + header_length + length message; buffer = patched at (record_bytes to_device message) buffer }

-- a record that has no room is refused whole, with 22: nothing is written, and the place stands
unfoldable pub write_at : (to_device : Bool) (message buffer : List ℕ) (at : ℕ) → Wrote
write_at to_device message buffer at =
    pick (fits (length buffer) at (length message)) (laid to_device message buffer at) (record { number = does_not_fit; at = at; buffer = buffer })
