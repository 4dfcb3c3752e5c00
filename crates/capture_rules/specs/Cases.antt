-- Captures in computed cases: the walker's step, the writer, and mending. What a row says is written from 01, "Capture and replay", and from 02,
-- 2026-02; the messages are 01's published ones, and such as fail one of its tests. Assumes nothing.
use Rattle.std.specs.Prelude.{ℕ, Bool, true, false, List, [], ◌∷◌, ◌++◌}
use Rattle.basis.specs.Cases.{Agree}
use Rattle.capture_rules.specs.Capture.{Item, walk_at}
use Rattle.capture_rules.specs.Reading.{reads_to_end, records_of}
use Rattle.capture_rules.specs.Writing.{fits, write_at}
use Rattle.capture_rules.specs.Mending.{Part, mend_at}
use Rattle.capture_rules.specs.Mended.{parts_of, mended_bytes}

-- ---- the walker: capture and place; what stands there, and the next place
abbrev pub walks : List (List ℕ × ℕ × Item × ℕ)
walks =
    -- nothing left; past the end
    ([], 0, Item.end, 0) ∷
    ([], 1, Item.end, 1) ∷
    -- 1 byte left, the first of a mark or another
    (0x4C ∷ [], 0, Item.fault 21, 0) ∷
    (0x00 ∷ [], 0, Item.fault 21, 0) ∷
    -- 2 bytes left: the two marks, wrong ones, and one low byte first
    (0x4C ∷ 0x3E ∷ [], 0, Item.fault 21, 0) ∷
    (0x4C ∷ 0x3C ∷ [], 0, Item.fault 21, 0) ∷
    (0x4C ∷ 0x3D ∷ [], 0, Item.fault 20, 0) ∷
    (0x4B ∷ 0x3E ∷ [], 0, Item.fault 20, 0) ∷
    (0x3E ∷ 0x4C ∷ [], 0, Item.fault 20, 0) ∷
    -- 3 bytes left
    (0x4C ∷ 0x3E ∷ 0x00 ∷ [], 0, Item.fault 21, 0) ∷
    (0x4C ∷ 0x3C ∷ 0x00 ∷ [], 0, Item.fault 21, 0) ∷
    (0x4C ∷ 0x3D ∷ 0x00 ∷ [], 0, Item.fault 20, 0) ∷
    -- a wrong mark before a record cut short
    (0x4C ∷ 0x3D ∷ 0x00 ∷ 0x01 ∷ [], 0, Item.fault 20, 0) ∷
    -- an empty message, either way
    (0x4C ∷ 0x3E ∷ 0x00 ∷ 0x00 ∷ [], 0, Item.found true 4 0, 4) ∷
    (0x4C ∷ 0x3C ∷ 0x00 ∷ 0x00 ∷ [], 0, Item.found false 4 0, 4) ∷
    -- a record that ends with the capture, one that is a byte short, and a length high byte first
    (0x4C ∷ 0x3C ∷ 0x00 ∷ 0x02 ∷ 0x41 ∷ 0x42 ∷ [], 0, Item.found false 4 2, 6) ∷
    (0x4C ∷ 0x3C ∷ 0x00 ∷ 0x02 ∷ 0x41 ∷ [], 0, Item.fault 21, 0) ∷
    (0x4C ∷ 0x3E ∷ 0x01 ∷ 0x00 ∷ 0x41 ∷ [], 0, Item.fault 21, 0) ∷
    -- a record behind another, the end behind both, past it, and a place within
    (0x4C ∷ 0x3E ∷ 0x00 ∷ 0x01 ∷ 0x41 ∷ 0x4C ∷ 0x3C ∷ 0x00 ∷ 0x00 ∷ [], 0, Item.found true 4 1, 5) ∷
    (0x4C ∷ 0x3E ∷ 0x00 ∷ 0x01 ∷ 0x41 ∷ 0x4C ∷ 0x3C ∷ 0x00 ∷ 0x00 ∷ [], 5, Item.found false 9 0, 9) ∷
    (0x4C ∷ 0x3E ∷ 0x00 ∷ 0x01 ∷ 0x41 ∷ 0x4C ∷ 0x3C ∷ 0x00 ∷ 0x00 ∷ [], 9, Item.end, 9) ∷
    (0x4C ∷ 0x3E ∷ 0x00 ∷ 0x01 ∷ 0x41 ∷ 0x4C ∷ 0x3C ∷ 0x00 ∷ 0x00 ∷ [], 10, Item.end, 10) ∷
    (0x4C ∷ 0x3E ∷ 0x00 ∷ 0x01 ∷ 0x41 ∷ 0x4C ∷ 0x3C ∷ 0x00 ∷ 0x00 ∷ [], 1, Item.fault 20, 1) ∷
    []

-- whole captures: read to the end or not, and the records
abbrev pub reads : List (List ℕ × Bool × List (Bool × List ℕ))
reads =
    ([], true, []) ∷ (
      0x4C ∷ 0x3E ∷ 0x00 ∷ 0x01 ∷ 0x41 ∷ 0x4C ∷ 0x3C ∷ 0x00 ∷ 0x00 ∷ [],
      true,
      (true, 0x41 ∷ []) ∷ (false, []) ∷ [],
    ) ∷
    (0x4C ∷ 0x3E ∷ 0x00 ∷ 0x01 ∷ 0x41 ∷ 0x4C ∷ [], false, (true, 0x41 ∷ []) ∷ []) ∷
    (0x4C ∷ 0x3D ∷ 0x00 ∷ 0x00 ∷ 0x4C ∷ 0x3E ∷ 0x00 ∷ 0x00 ∷ [], false, []) ∷
    []

-- ---- the writer: direction, message, buffer and place; number, next place and buffer
abbrev pub writes : List (Bool × List ℕ × List ℕ × ℕ × ℕ × ℕ × List ℕ)
writes =
    -- between other bytes
    (true, 0x41 ∷ 0x42 ∷ [], 1 ∷ 2 ∷ 3 ∷ 4 ∷ 5 ∷ 6 ∷ 7 ∷ 8 ∷ [], 1, 0, 7, 1 ∷ 0x4C ∷ 0x3E ∷ 0x00 ∷ 0x02 ∷ 0x41 ∷ 0x42 ∷ 8 ∷ []) ∷
    -- exact room, and a byte less
    (false, 0x41 ∷ [], 1 ∷ 2 ∷ 3 ∷ 4 ∷ 5 ∷ [], 0, 0, 5, 0x4C ∷ 0x3C ∷ 0x00 ∷ 0x01 ∷ 0x41 ∷ []) ∷
    (false, 0x41 ∷ [], 1 ∷ 2 ∷ 3 ∷ 4 ∷ [], 0, 22, 0, 1 ∷ 2 ∷ 3 ∷ 4 ∷ []) ∷
    -- an empty message: exact room from a place on, a byte less; at the end, and past it
    (true, [], 1 ∷ 2 ∷ 3 ∷ 4 ∷ 5 ∷ [], 1, 0, 5, 1 ∷ 0x4C ∷ 0x3E ∷ 0x00 ∷ 0x00 ∷ []) ∷
    (true, [], 1 ∷ 2 ∷ 3 ∷ 4 ∷ 5 ∷ [], 2, 22, 2, 1 ∷ 2 ∷ 3 ∷ 4 ∷ 5 ∷ []) ∷
    (true, [], 1 ∷ 2 ∷ 3 ∷ 4 ∷ 5 ∷ [], 5, 22, 5, 1 ∷ 2 ∷ 3 ∷ 4 ∷ 5 ∷ []) ∷
    (true, [], 1 ∷ 2 ∷ 3 ∷ 4 ∷ 5 ∷ [], 6, 22, 6, 1 ∷ 2 ∷ 3 ∷ 4 ∷ 5 ∷ []) ∷
    []

-- the room: size of the buffer, place, bytes of the message. 65,535 fit, 65,536 never
abbrev pub rooms : List (ℕ × ℕ × ℕ × Bool)
rooms =
    (4, 0, 0, true) ∷ (3, 0, 0, false) ∷ (4, 1, 0, false) ∷ (0, 1, 0, false) ∷
    (65539, 0, 65535, true) ∷ (65538, 0, 65535, false) ∷ (65540, 1, 65535, true) ∷ (65539, 1, 65535, false) ∷
    (65540, 0, 65536, false) ∷ (131072, 0, 65536, false) ∷
    []

-- ---- mending: capture and place; what is found there, and the next place

-- 19 query toward the device, and 20 answer from it, as published
abbrev pub asked : List ℕ
asked = 0x4C ∷ 0x3E ∷ 0x00 ∷ 0x08 ∷ 0xFF ∷ 0xFE ∷ 0x01 ∷ 0x13 ∷ 0x4C ∷ 0x9A ∷ 0x00 ∷ 0x00 ∷ []

abbrev pub answered : List ℕ
answered = 0x4C ∷ 0x3C ∷ 0x00 ∷ 0x09 ∷ 0xFF ∷ 0xFE ∷ 0x01 ∷ 0x14 ∷ 0xD7 ∷ 0x68 ∷ 0x00 ∷ 0x01 ∷ 0x00 ∷ []

-- whole records of messages that fail a test: 3, a wrong check, and a wrong length field with a right check
abbrev pub other : List ℕ
other = 0x4C ∷ 0x3E ∷ 0x00 ∷ 0x01 ∷ 0x41 ∷ []

abbrev pub wrong_check : List ℕ
wrong_check = 0x4C ∷ 0x3E ∷ 0x00 ∷ 0x08 ∷ 0xFF ∷ 0xFE ∷ 0x01 ∷ 0x13 ∷ 0x4C ∷ 0x9B ∷ 0x00 ∷ 0x00 ∷ []

abbrev pub wrong_length : List ℕ
wrong_length = 0x4C ∷ 0x3E ∷ 0x00 ∷ 0x08 ∷ 0xFF ∷ 0xFE ∷ 0x01 ∷ 0x13 ∷ 0x5C ∷ 0xBB ∷ 0x00 ∷ 0x01 ∷ []

-- a fragment whose data are a record
abbrev pub carrying : List ℕ
carrying = 0x4C ∷ 0x3E ∷ 0x00 ∷ 0x17 ∷ 0xFF ∷ 0xFE ∷ 0x01 ∷ 0x15 ∷ 0x34 ∷ 0x79 ∷ 0x00 ∷ 0x0F ∷ 0x00 ∷ 0x00 ∷ 0x00 ∷ asked

abbrev pub mends : List (List ℕ × ℕ × Part × ℕ)
mends =
    -- as the walker; a record is not tested where the walker reads it
    ([], 0, Part.end, 0) ∷
    ([], 1, Part.end, 1) ∷
    (asked, 0, Part.found true 4 8, 12) ∷
    (answered, 0, Part.found false 4 9, 13) ∷
    (other ++ asked, 0, Part.found true 4 1, 5) ∷
    (wrong_check, 0, Part.found true 4 8, 12) ∷
    -- a stretch of 1 byte, the record behind it in either direction, and what follows
    (0x00 ∷ asked, 0, Part.passed 0 1, 1) ∷
    (0x00 ∷ asked, 1, Part.found true 5 8, 13) ∷
    (0x00 ∷ asked, 13, Part.end, 13) ∷
    (0x00 ∷ answered, 0, Part.passed 0 1, 1) ∷
    -- the rest is passed over: 1 byte, 3 bytes, and a record cut by a byte
    (0x4C ∷ [], 0, Part.passed 0 1, 1) ∷
    (0x01 ∷ 0x02 ∷ 0x03 ∷ [], 0, Part.passed 0 3, 3) ∷
    (0x01 ∷ 0x02 ∷ 0x03 ∷ [], 1, Part.passed 1 2, 3) ∷
    (0x00 ∷ (0x4C ∷ 0x3E ∷ 0x00 ∷ 0x08 ∷ 0xFF ∷ 0xFE ∷ 0x01 ∷ 0x13 ∷ 0x4C ∷ 0x9A ∷ 0x00 ∷ []), 0, Part.passed 0 12, 12) ∷
    -- a record to go on from passes the tests 1 to 7: data that the message cannot have is no obstacle, nor are reserved bits
    (0x00 ∷ 0x4C ∷ 0x3E ∷ 0x00 ∷ 0x09 ∷ 0xFF ∷ 0xFE ∷ 0x01 ∷ 0x13 ∷ 0x66 ∷ 0x0B ∷ 0x00 ∷ 0x01 ∷ 0x07 ∷ [], 0, Part.passed 0 1, 1) ∷
    (0x00 ∷ 0x4C ∷ 0x3E ∷ 0x00 ∷ 0x08 ∷ 0xFF ∷ 0xFE ∷ 0xF1 ∷ 0x13 ∷ 0xBD ∷ 0x92 ∷ 0x00 ∷ 0x00 ∷ [], 0, Part.passed 0 1, 1) ∷
    -- records that are none to go on from
    (0x00 ∷ (other ++ asked), 0, Part.passed 0 6, 6) ∷
    (0x00 ∷ (wrong_check ++ asked), 0, Part.passed 0 13, 13) ∷
    (0x00 ∷ (wrong_length ++ asked), 0, Part.passed 0 13, 13) ∷
    -- a record within another: in a message that fails, in a record cut short, and in one that is sound and comes first
    (0x00 ∷ 0x4C ∷ 0x3E ∷ 0x00 ∷ 0x0C ∷ asked, 0, Part.passed 0 5, 5) ∷
    (0x4C ∷ 0x3E ∷ 0x00 ∷ 0x0D ∷ asked, 0, Part.passed 0 4, 4) ∷
    (0x00 ∷ carrying, 0, Part.passed 0 1, 1) ∷
    (0x00 ∷ carrying, 1, Part.found true 5 23, 28) ∷
    []

-- whole captures: all that is found, and the mended capture
abbrev pub wholes : List (List ℕ × List Part × List ℕ)
wholes =
    ([], [], []) ∷
    (asked ++ answered, Part.found true 4 8 ∷ Part.found false 16 9 ∷ [], asked ++ answered) ∷
    (0x00 ∷ (asked ++ (0x4C ∷ 0x3D ∷ answered)), Part.passed 0 1 ∷ Part.found true 5 8 ∷ Part.passed 13 2 ∷ Part.found false 19 9 ∷ [], asked ++ answered) ∷
    (asked ++ (other ++ (0x4C ∷ [])), Part.found true 4 8 ∷ Part.found true 16 1 ∷ Part.passed 17 1 ∷ [], asked ++ other) ∷
    []

pub record CaptureCases : Type 0 where
  pub walk_is : Agree (λ (r : List ℕ × ℕ × Item × ℕ). walk_at r.0 r.1) (λ r. record { item = r.2; at = r.3 }) walks
  pub ends : Agree (λ (r : List ℕ × Bool × List (Bool × List ℕ)). reads_to_end r.0) (λ r. r.1) reads
  pub records_are : Agree (λ (r : List ℕ × Bool × List (Bool × List ℕ)). records_of r.0) (λ r. r.2) reads
  pub write_is : Agree (λ (r : Bool × List ℕ × List ℕ × ℕ × ℕ × ℕ × List ℕ). write_at r.0 r.1 r.2 r.3)
      (λ r. record { number = r.4; at = r.5; buffer = r.6 }) writes
  pub room_is : Agree (λ (r : ℕ × ℕ × ℕ × Bool). fits r.0 r.1 r.2) (λ r. r.3) rooms
  pub mend_is : Agree (λ (r : List ℕ × ℕ × Part × ℕ). mend_at r.0 r.1) (λ r. record { part = r.2; at = r.3 }) mends
  pub parts_are : Agree (λ (r : List ℕ × List Part × List ℕ). parts_of r.0) (λ r. r.1) wholes
  pub mended_is : Agree (λ (r : List ℕ × List Part × List ℕ). mended_bytes r.0) (λ r. r.2) wholes
