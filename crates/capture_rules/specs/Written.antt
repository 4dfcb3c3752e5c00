-- What is claimed of the writer (02, 2026-02): a record that was written is read as that record, with its message, and every other byte of the
-- buffer is as it was; a record is refused whole, with 22, exactly where its message has more than 65,535 bytes or there is no room for it;
-- records written one after the other are read as those records, to the end; and the records of a capture that the walker reads to its end,
-- written so, give that capture. Assumes nothing.
use Rattle.std.specs.Prelude.{ℕ, ◌+◌, ◌≤◌, ◌<◌, ◌≡◌, Bool, true, List, [], ◌∷◌, ◌⊎◌, eqb, length, take, drop}
use Rattle.basis.specs.Choice.{pick}
use Rattle.basis.specs.Numbers.{handled, does_not_fit}
use Rattle.basis.specs.Bytes.{Bytes, over}
use Rattle.capture_rules.specs.Capture.{Item, record_bytes, header_length, item_at, part_of}
use Rattle.capture_rules.specs.Reading.{reads_to_end, records_of}
use Rattle.capture_rules.specs.Writing.{message_most, Wrote, write_at}

-- ---- records one after the other: of each, whether it goes toward the device, and its message

-- written, each from the place behind the last; what comes behind a refusal is not written
unfoldable pub write_all : List (Bool × List ℕ) → Wrote → Wrote
write_all [] w = w
write_all (r ∷ rs) w = pick (eqb w.number handled) (write_all rs (write_at r.0 r.1 w.buffer w.at)) w

-- a buffer before the first of them
abbrev pub begun : (buffer : List ℕ) → Wrote
begun buffer = record { number = handled; at = 0; buffer = buffer }

-- the bytes before the place: what was written, from the start on
abbrev pub written_in : Wrote → List ℕ
written_in w = take w.at w.buffer

-- ---- the claims

-- what a writer leaves, of a record that it wrote
pub record WrittenRecord (to_device : Bool) (message buffer : List ℕ) (at : ℕ) (w : Wrote) : Type 0 where
  -- the walker reads that record there, and its message; the place is the one behind it
  pub read : item_at w.buffer at ≡ Item.found to_device (at + header_length) (length message)
  pub message_read : part_of w.buffer (at + header_length) (length message) ≡ message
  pub behind : w.at ≡ at + header_length + length message
  -- the bytes before and behind it are as they were, and none is added
  pub before_kept : take at w.buffer ≡ take at buffer
  pub behind_kept : drop w.at w.buffer ≡ drop w.at buffer
  pub length_kept : length w.buffer ≡ length buffer

-- a message is too long for its length WORD, or its record for the buffer
abbrev pub NoRoom : (to_device : Bool) (message buffer : List ℕ) (at : ℕ) → Type 0
NoRoom to_device message buffer at = (message_most < length message) ⊎ (length buffer < at + length (record_bytes to_device message))

-- the walker reads these records, and then the end
pub record ReadBack (records : List (Bool × List ℕ)) (capture : List ℕ) : Type 0 where
  pub to_end : reads_to_end capture ≡ true
  pub same : records_of capture ≡ records

pub record Writing : Type 0 where
  pub written : (to_device : Bool) (message buffer : List ℕ) (at : ℕ) → (write_at to_device message buffer at).number ≡ handled
      → WrittenRecord to_device message buffer at (write_at to_device message buffer at)
  -- any other number is 22, and the place and the buffer are as they were
  pub refused : (to_device : Bool) (message buffer : List ℕ) (at : ℕ) → ((write_at to_device message buffer at).number ≡ handled → ⊥)
      → write_at to_device message buffer at ≡ record { number = does_not_fit; at = at; buffer = buffer }
  -- 22 where there is no room, and only there
  pub no_room : (to_device : Bool) (message buffer : List ℕ) (at : ℕ) → NoRoom to_device message buffer at
      → (write_at to_device message buffer at).number ≡ does_not_fit
  pub only_there : (to_device : Bool) (message buffer : List ℕ) (at : ℕ) → (write_at to_device message buffer at).number ≡ does_not_fit
      → NoRoom to_device message buffer at
  -- records one after the other are read as they were written
  pub read_back : (records : List (Bool × List ℕ)) (buffer : List ℕ) → (write_all records (begun buffer)).number ≡ handled
      → ReadBack records (written_in (write_all records (begun buffer)))
  -- and are written as they were read: into a buffer of the capture's length, and into a longer one, whose rest is kept
  pub given_back : (capture buffer : List ℕ) → Bytes capture → reads_to_end capture ≡ true → length buffer ≡ length capture
      → write_all (records_of capture) (begun buffer) ≡ record { number = handled; at = length capture; buffer = capture }
  pub given_back_longer : (capture buffer : List ℕ) → Bytes capture → reads_to_end capture ≡ true → length capture ≤ length buffer
      → write_all (records_of capture) (begun buffer) ≡ record { number = handled; at = length capture; buffer = over capture buffer }
