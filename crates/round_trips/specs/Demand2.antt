-- The project's demand 2, beside the rules of each step, which the calls are proved equal to: both round trips for all twelve messages, as 02
-- (2026-01) amends the second, the change that the check cannot see, and the published values. Assumes nothing.
use Rattle.std.specs.Prelude.{ℕ, ◌+◌, ◌*◌, ◌/◌, ◌≤◌, ◌≡◌, Bool, true, List, length, take, get_or, set}
use Rattle.basis.specs.Bytes.{Bytes, over}
use Rattle.unseen.specs.Neighbours.{Neighbours}
use Rattle.message.specs.Recognition.{protocol_version, recognition}
use Rattle.message.specs.Messages.{Table, to_device, to_gateway, Reading, found, refused}
use Rattle.codec.specs.Codec.{sealed, Sent, bytes_of, read_of, write_of, said}
use Rattle.round_trips.specs.Published.{Published}

-- the upper four bits of the version byte, as a number
unfoldable pub reserved_bits : List ℕ → ℕ
reserved_bits m = get_or m 2 0 / 16

-- writing and reading undo each other but for the reserved bits, for one column of 01's table of messages
pub record RoundTrips (t : Table) : Type 0 where
  -- a valid message, written, is read as itself, and no other message is found in it; it is recognised with 0 and fits its sender's buffer
  pub written_read : (m : t.Message) → t.valid m ≡ true → read_of t true true (bytes_of t m) ≡ found m
  pub written_only : (m n : t.Message) → t.valid m ≡ true → (supported pcp : Bool) → read_of t supported pcp (bytes_of t m) ≡ found n → n ≡ m
  pub written_recognised : (m : t.Message) → t.valid m ≡ true → recognition true true (bytes_of t m) ≡ 0
  pub written_fits : (m : t.Message) → t.valid m ≡ true → length (bytes_of t m) ≤ t.room
  -- any message is written with the version byte 01
  pub written_version : (m : t.Message) → get_or (bytes_of t m) 2 0 ≡ protocol_version
  -- a valid message, written, but with any reserved bits set and the check made for them: it is read as itself too, and recognised with 0
  pub reserved_read : (m : t.Message) → t.valid m ≡ true → (bits : ℕ)
      → read_of t true true (sealed (set (bytes_of t m) 2 (bits * 16 + protocol_version))) ≡ found m
  pub reserved_recognised : (m : t.Message) → t.valid m ≡ true → (bits : ℕ)
      → recognition true true (sealed (set (bytes_of t m) 2 (bits * 16 + protocol_version))) ≡ 0
  -- and bytes that are read as a message are no others: that message, written, but with the bytes' reserved bits and the check made for them
  pub read_reserved : (supported pcp : Bool) (bytes : List ℕ) (m : t.Message) → read_of t supported pcp bytes ≡ found m
      → Bytes bytes → bytes ≡ sealed (set (bytes_of t m) 2 (reserved_bits bytes * 16 + protocol_version))
  -- so what is read from bytes is written as those bytes with the version byte 01 and the check made anew
  pub read_rewritten : (supported pcp : Bool) (bytes : List ℕ) (m : t.Message) → read_of t supported pcp bytes ≡ found m
      → Bytes bytes → bytes_of t m ≡ sealed (set bytes 2 protocol_version)
  -- and as the bytes themselves where the reserved bits are 0
  pub read_written : (supported pcp : Bool) (bytes : List ℕ) (m : t.Message) → read_of t supported pcp bytes ≡ found m
      → Bytes bytes → reserved_bits bytes ≡ 0 → bytes_of t m ≡ bytes
  -- what is read is valid, and has the code that stands in the bytes
  pub read_valid : (supported pcp : Bool) (bytes : List ℕ) (m : t.Message) → read_of t supported pcp bytes ≡ found m → t.valid m ≡ true
  pub read_code : (supported pcp : Bool) (bytes : List ℕ) (m : t.Message) → read_of t supported pcp bytes ≡ found m → t.code m ≡ get_or bytes 3 0
  -- any other reading has one of the numbers 1 to 8
  pub refused_number : (supported pcp : Bool) (bytes : List ℕ) (n : ℕ) → read_of t supported pcp bytes ≡ refused n → (1 ≤ n) × (n ≤ 8)
  -- through a buffer: a valid message is sent where there is room, and what was sent is read as what was to be sent
  pub sent_valid : (m : t.Message) → t.valid m ≡ true → (buffer : List ℕ) → t.room ≤ length buffer
      → write_of t (found m) buffer ≡ record { number = 0; length = length (bytes_of t m); buffer = over (bytes_of t m) buffer }
  pub sent_read : (r : Reading t.Message) (buffer : List ℕ) → let w : Sent = write_of t r buffer in
      w.number ≡ 0 → read_of t true true (take w.length w.buffer) ≡ r
  pub said_read : (m : t.Message) → t.valid m ≡ true → (buffer : List ℕ) → let w : Sent = said t (found m) buffer in
      read_of t true true (take w.length w.buffer) ≡ found m

abbrev pub Demand2 : Type 0
Demand2 = RoundTrips to_device × RoundTrips to_gateway × Neighbours 0x0A 0xC3 × Published
