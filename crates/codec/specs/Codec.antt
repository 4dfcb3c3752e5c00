-- Messages as bytes, read and written: one rule for both receivers. Assumes nothing.
use Rattle.std.specs.Prelude.{ℕ, ◌/◌, ◌%◌, Bool, ◌&&◌, List, ◌∷◌, ◌++◌, eqb, ltb, length, drop, get_or, set}
use Rattle.basis.specs.Choice.{pick}
use Rattle.basis.specs.Numbers.{bad_data, short_reply}
use Rattle.basis.specs.Bytes.{word_bytes, same, over}
use Rattle.checksum.specs.Check.{message_check}
use Rattle.message.specs.Recognition.{protocol_version, recognition}
use Rattle.message.specs.Messages.{Table, Reading, found, refused}

-- the message with its check put in: high byte first, as every WORD
unfoldable pub sealed : List ℕ → List ℕ
sealed m = set (set m 4 (message_check m / 256)) 5 (message_check m % 256)

-- FF FE, protocol version, message code, check (2), data length (2), data
unfoldable pub frame : (code : ℕ) → List ℕ → List ℕ
frame code d = sealed (0xFF ∷ 0xFE ∷ protocol_version ∷ code ∷ 0 ∷ 0 ∷ (word_bytes (length d) ++ d))

-- what writing gives: the number, the length of what was written, and the buffer after it
pub record Sent : Type 0 where
  pub number : ℕ
  pub length : ℕ
  pub buffer : List ℕ

-- nothing is written
abbrev pub unsent : ℕ → List ℕ → Sent
unsent n buffer = record { number = n; length = 0; buffer = buffer }

module _ (t : Table) where
  -- a message as bytes
  unfoldable pub bytes_of : t.Message → List ℕ
  bytes_of m = frame (t.code m) (t.content m)

  -- recognised, its fields in the table's ranges, and its data exactly those fields; else 1 to 7, or 8 for bad data
  unfoldable pub read_of : (supported pcp : Bool) → List ℕ → Reading t.Message
  read_of supported pcp bytes =
      let n : ℕ = recognition supported pcp bytes in
      let m : t.Message = t.fields (get_or bytes 3 0) (drop 8 bytes) in
      pick (eqb n 0) (pick (t.valid m && same (t.content m) (drop 8 bytes)) (found m) (refused bad_data)) (refused n)

  -- the fields (8); on 0 the message fills the front of the buffer and the rest stays
  abbrev pub filled : Reading t.Message → List ℕ → Sent
  filled (found m) buffer = pick (t.valid m) (record { number = 0; length = length (bytes_of m); buffer = over (bytes_of m) buffer }) (unsent bad_data buffer)
  filled (refused n) buffer = unsent bad_data buffer

  -- the buffer (15), then the fields
  unfoldable pub write_of : Reading t.Message → List ℕ → Sent
  write_of r buffer = pick (ltb (length buffer) t.room) (unsent short_reply buffer) (filled r buffer)

  -- a message that is sent into a buffer with room for it, or the number why there is none
  unfoldable pub said : Reading t.Message → List ℕ → Sent
  said (found m) buffer = record { number = 0; length = length (bytes_of m); buffer = over (bytes_of m) buffer }
  said (refused n) buffer = unsent n buffer

  -- a message into a buffer as a writer puts it there, or the number why there is none
  unfoldable pub spoken : Reading t.Message → List ℕ → Sent
  spoken (found m) buffer = write_of (found m) buffer
  spoken (refused n) buffer = unsent n buffer
