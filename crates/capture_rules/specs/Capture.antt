-- Captures: 01, "Capture and replay". Assumes nothing.
use Rattle.std.specs.Prelude.{ℕ, ◌+◌, ◌-◌, Bool, true, false, ◌&&◌, not, List, ◌++◌, eqb, leb, ltb, length, take, drop}
use Rattle.basis.specs.Choice.{pick}
use Rattle.basis.specs.Numbers.{bad_mark, cut_short}
use Rattle.basis.specs.Bytes.{word_at, word_bytes}

-- a record's mark, its two bytes as a WORD: 4C 3E toward the device, 4C 3C from it
abbrev pub mark_of : (to_device : Bool) → ℕ
mark_of true = 0x4C3E
mark_of false = 0x4C3C

-- what a record is: the mark, then a length WORD and that many bytes, the message. A WORD says at most 65,535, so that a record's message has no
-- more bytes than that; of a longer list these are no record's bytes
unfoldable pub record_bytes : (to_device : Bool) (message : List ℕ) → List ℕ
record_bytes to_device message = word_bytes (mark_of to_device) ++ (word_bytes (length message) ++ message)

-- the bytes of a record before its message
abbrev pub header_length : ℕ
header_length = 4

-- the most bytes of a capture that the programs take
abbrev pub capture_most : ℕ
capture_most = 32768

-- ---- reading

-- what the walker gives: the next record, its message so many bytes from start on; the end; or a number, 20 or 21
pub data Item : Type 0 where
  found : (to_device : Bool) (start count : ℕ) → Item
  end : Item
  fault : (number : ℕ) → Item

-- the mark and the length of a record at a place, and the bytes left there
abbrev pub mark_at : List ℕ → ℕ → ℕ
mark_at capture at = word_at capture at

abbrev pub length_at : List ℕ → ℕ → ℕ
length_at capture at = word_at capture (at + 2)

abbrev pub left : List ℕ → ℕ → ℕ
left capture at = length capture - at

unfoldable pub wrong_mark : ℕ → Bool
wrong_mark mark = not (eqb mark (mark_of true)) && not (eqb mark (mark_of false))

-- the end; 1 byte left is 21; 20 for a wrong mark; 21 for a record cut short; else the record
unfoldable pub item_at : (capture : List ℕ) (at : ℕ) → Item
item_at capture at =
    pick (leb (length capture) at) Item.end
    (pick (eqb (left capture at) 1) (Item.fault cut_short)
    (pick (wrong_mark (mark_at capture at)) (Item.fault bad_mark)
    (pick (ltb (left capture at) (header_length + length_at capture at)) (Item.fault cut_short)
    (Item.found (eqb (mark_at capture at) (mark_of true)) (at + header_length) (length_at capture at)))))

-- the next place: behind a record; after the end, 20 and 21 the place stands
abbrev pub place_after : Item → ℕ → ℕ
place_after (Item.found to_device start count) at = start + count
place_after Item.end at = at
place_after (Item.fault number) at = at

-- a record is followed by what stands behind it; the end, 20 and 21 by nothing
unfoldable pub goes_on : Item → Bool
goes_on (Item.found to_device start count) = true
goes_on Item.end = false
goes_on (Item.fault number) = false

-- the walker's step: what it gives at its place, and its place after that
pub record Walk : Type 0 where
  pub item : Item
  pub at : ℕ

abbrev pub walk_at : (capture : List ℕ) (at : ℕ) → Walk
walk_at capture at = record { item = item_at capture at; at = place_after (item_at capture at) at }

-- so many bytes from a place on, or as many as there are
abbrev pub part_of : List ℕ → (start count : ℕ) → List ℕ
part_of capture start count = take count (drop start capture)
