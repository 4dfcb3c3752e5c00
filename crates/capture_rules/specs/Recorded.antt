-- A record's bytes are read as that record, what is read as a record stands in the capture byte for byte, and where there is none the walker gives
-- the end, 20 or 21. Assumes nothing.
use Rattle.std.specs.Prelude.{ℕ, ◌+◌, ◌≤◌, ◌<◌, ◌≡◌, Bool, List, ◌++◌, length, take, drop}
use Rattle.basis.specs.Numbers.{bad_mark, cut_short}
use Rattle.basis.specs.Bytes.{Bytes, word_at}
use Rattle.capture_rules.specs.Capture.{Item, mark_of, record_bytes, header_length, left, item_at, place_after, part_of}

pub record Recorded : Type 0 where
  -- behind any bytes, and followed by any: the record, its message, and the place behind it
  pub read_record : (before : List ℕ) (to_device : Bool) (message rest : List ℕ)
      → item_at (before ++ (record_bytes to_device message ++ rest)) (length before)
      ≡ Item.found to_device (length before + header_length) (length message)
  pub read_message : (before : List ℕ) (to_device : Bool) (message rest : List ℕ)
      → part_of (before ++ (record_bytes to_device message ++ rest)) (length before + header_length) (length message) ≡ message
  pub read_next : (before : List ℕ) (to_device : Bool) (message rest : List ℕ)
      → place_after (item_at (before ++ (record_bytes to_device message ++ rest)) (length before)) (length before)
      ≡ length (before ++ record_bytes to_device message)
  pub stands : (to_device : Bool) (start count : ℕ) (capture : List ℕ) (at : ℕ) → Bytes capture
      → item_at capture at ≡ Item.found to_device start count
      → take (header_length + count) (drop at capture) ≡ record_bytes to_device (part_of capture start count)

-- where there is no record (01): each number is told by the bytes that are left at a place, and by the two WORDs there
pub record NoRecord : Type 0 where
  -- at the end, and past it, and only there
  pub at_end : (capture : List ℕ) (at : ℕ) → length capture ≤ at → item_at capture at ≡ Item.end
  pub only_at_end : (capture : List ℕ) (at : ℕ) → item_at capture at ≡ Item.end → length capture ≤ at
  -- 1 byte left is 21, whatever it is
  pub one_left : (capture : List ℕ) (at : ℕ) → left capture at ≡ 1 → item_at capture at ≡ Item.fault cut_short
  -- 20: the WORD is neither mark; however many bytes are left behind it
  pub wrong : (capture : List ℕ) (at : ℕ) → 2 ≤ left capture at → (word_at capture at ≡ 0x4C3E → ⊥) → (word_at capture at ≡ 0x4C3C → ⊥)
      → item_at capture at ≡ Item.fault bad_mark
  -- 21: the WORD is a mark, but there are no 4 bytes, or fewer than the length says
  pub no_header : (to_device : Bool) (capture : List ℕ) (at : ℕ) → 2 ≤ left capture at → word_at capture at ≡ mark_of to_device
      → left capture at < 4 → item_at capture at ≡ Item.fault cut_short
  pub cut : (to_device : Bool) (capture : List ℕ) (at : ℕ) → 2 ≤ left capture at → word_at capture at ≡ mark_of to_device
      → left capture at < 4 + word_at capture (at + 2) → item_at capture at ≡ Item.fault cut_short
