-- What mending a capture gives (02, 2026-02): nothing is left out and nothing comes twice, every record stands in the capture byte for byte, a
-- stretch ends at the first later place that is sound, a capture without 20 or 21 is given as it is, with the walker's records, and what was mended
-- is not changed again. Assumes nothing.
use Rattle.std.specs.Prelude.{ℕ, zero, suc, ◌+◌, ◌≤◌, ◌<◌, ◌≡◌, Bool, true, false, List, [], ◌∷◌, ◌++◌, ◌⊎◌, length, take, drop}
use Rattle.basis.specs.Numbers.{handled, bad_mark, cut_short}
use Rattle.basis.specs.Bytes.{Bytes}
use Rattle.message.specs.Recognition.{recognition}
use Rattle.capture_rules.specs.Capture.{Item, record_bytes, header_length, item_at, part_of}
use Rattle.capture_rules.specs.Reading.{reads_to_end, records_of}
use Rattle.capture_rules.specs.Mending.{sound, Part, part_at, place_behind}

-- ---- all that mending gives from a place on. Each passes a byte, so that there are fewer of them than `most`

-- a part, and what follows it; nothing follows the end
abbrev pub followed : Part → List Part → List Part
followed (Part.found to_device start count) parts = Part.found to_device start count ∷ parts
followed (Part.passed start count) parts = Part.passed start count ∷ parts
followed Part.end parts = []

unfoldable pub parts_from : (capture : List ℕ) (most at : ℕ) → List Part
parts_from capture zero at = []
parts_from capture (suc most) at = followed (part_at capture at) (parts_from capture most (place_behind (part_at capture at) at))

unfoldable pub parts_of : (capture : List ℕ) → List Part
parts_of capture = parts_from capture (suc (length capture)) 0

-- ---- the records alone: of each, whether it goes toward the device, and its message; and as bytes

unfoldable pub messages_in : (capture : List ℕ) → List Part → List (Bool × List ℕ)
messages_in capture [] = []
messages_in capture (Part.found to_device start count ∷ parts) = (to_device, part_of capture start count) ∷ messages_in capture parts
messages_in capture (Part.passed start count ∷ parts) = messages_in capture parts
messages_in capture (Part.end ∷ parts) = messages_in capture parts

unfoldable pub records_in : (capture : List ℕ) → List Part → List ℕ
records_in capture [] = []
records_in capture (Part.found to_device start count ∷ parts) = record_bytes to_device (part_of capture start count) ++ records_in capture parts
records_in capture (Part.passed start count ∷ parts) = records_in capture parts
records_in capture (Part.end ∷ parts) = records_in capture parts

-- the mended capture
unfoldable pub mended_bytes : (capture : List ℕ) → List ℕ
mended_bytes capture = records_in capture (parts_of capture)

-- ---- the claims

-- the parts stand one behind the other, from a place to the end, and each record's bytes are its mark, its length and its message
abbrev pub Covers : (capture : List ℕ) (at : ℕ) → List Part → Type 0
Covers capture at [] = at ≡ length capture
Covers capture at (Part.found to_device start count ∷ parts) =
    (start ≡ at + header_length)
    × (take (header_length + count) (drop at capture) ≡ record_bytes to_device (part_of capture start count))
    × Covers capture (start + count) parts
Covers capture at (Part.passed start count ∷ parts) = (start ≡ at) × (1 ≤ count) × Covers capture (start + count) parts
Covers capture at (Part.end ∷ parts) = ⊥

-- no stretch
abbrev pub Whole : List Part → Type 0
Whole [] = Unit {0}
Whole (Part.found to_device start count ∷ parts) = Whole parts
Whole (Part.passed start count ∷ parts) = ⊥
Whole (Part.end ∷ parts) = ⊥

-- a whole record stands at the place, byte for byte, and its message passes the tests 1 to 7, both facts yes
pub record SoundRecord (capture : List ℕ) (place : ℕ) : Type 0 where
  pub to_device : Bool
  pub message : List ℕ
  pub stands : take (header_length + length message) (drop place capture) ≡ record_bytes to_device message
  pub recognised : recognition true true message ≡ handled

-- a stretch: the walker stopped at its place with 20 or 21; it has a byte or more, lies in the capture, and has no sound place within, but one
-- behind it, or the end
pub record Stopped (capture : List ℕ) (at start count : ℕ) : Type 0 where
  pub number : ℕ
  pub which : (number ≡ bad_mark) ⊎ (number ≡ cut_short)
  pub fault : item_at capture at ≡ Item.fault number
  pub here : start ≡ at
  pub later : 1 ≤ count
  pub within : start + count ≤ length capture
  pub none_between : (place : ℕ) → start < place → place < start + count → sound capture place ≡ false
  pub goes_on : (sound capture (start + count) ≡ true) ⊎ (start + count ≡ length capture)

pub record MendedCapture : Type 0 where
  -- from the start on, and from any place on
  pub covers : (capture : List ℕ) → Bytes capture → Covers capture 0 (parts_of capture)
  pub covers_from : (capture : List ℕ) (most at : ℕ) → Bytes capture → at ≤ length capture → length capture < at + most
      → Covers capture at (parts_from capture most at)
  -- a place is sound exactly where such a record stands
  pub sound_stands : (capture : List ℕ) (place : ℕ) → Bytes capture → sound capture place ≡ true → SoundRecord capture place
  pub stands_sound : (capture : List ℕ) (place : ℕ) → SoundRecord capture place → sound capture place ≡ true
  -- a stretch begins where the walker stopped, and ends at the first later place that is sound, or at the end
  pub stopped : (capture : List ℕ) (at start count : ℕ) → part_at capture at ≡ Part.passed start count → Stopped capture at start count
  -- what the walker reads to its end: records alone, those that it gives, and the same bytes
  pub whole : (capture : List ℕ) → reads_to_end capture ≡ true → Whole (parts_of capture)
  pub same_records : (capture : List ℕ) → reads_to_end capture ≡ true → messages_in capture (parts_of capture) ≡ records_of capture
  pub unchanged : (capture : List ℕ) → Bytes capture → reads_to_end capture ≡ true → mended_bytes capture ≡ capture
  -- what was mended is read to its end, and not changed again
  pub mended_ends : (capture : List ℕ) → reads_to_end (mended_bytes capture) ≡ true
  pub mended_again : (capture : List ℕ) → mended_bytes (mended_bytes capture) ≡ mended_bytes capture
