-- Captures through numbers and bytes (01, "Capture and replay"; 02, 2026-02): what stands at a place is told by its kind, and an item is the bytes
-- between its place and the next. Assumes nothing.
use Rattle.std.specs.Prelude.{ℕ, ◌+◌, ◌-◌, ◌≤◌, ◌≡◌, Bool, true, false, List, ◌⊎◌, length}
use Rattle.basis.specs.Numbers.{handled, bad_mark, cut_short}
use Rattle.capture_rules.specs.Capture.{Item, item_at, walk_at, part_of}
use Rattle.capture_rules.specs.Mending.{Part, part_at, mend_at}
use Rattle.capture_rules.specs.Writing.{Wrote, write_at}
use Rattle.exports.specs.Exports.{fact, Left}

-- the end is 0, a record toward the device 1, one from it 2; else the number, 20 or 21
abbrev pub kind_of : Item → ℕ
kind_of (Item.found true start count) = 1
kind_of (Item.found false start count) = 2
kind_of Item.end = 0
kind_of (Item.fault number) = number

-- the writer's number, and the buffer
unfoldable pub capture_write_of : (toward : ℕ) (message buffer : List ℕ) (at : ℕ) → Left
capture_write_of toward message buffer at =
    let w : Wrote = write_at (fact toward) message buffer at in
    record { answer = w.number; bytes = w.buffer }

-- ---- what a host makes of a kind and two places

-- what the calls answer of a place: the kind, and the next place, as the capture is read and as it is mended
abbrev pub kind_at : (capture : List ℕ) (at : ℕ) → ℕ
kind_at capture at = kind_of (item_at capture at)

abbrev pub next_at : (capture : List ℕ) (at : ℕ) → ℕ
next_at capture at = (walk_at capture at).at

abbrev pub mended_at : (capture : List ℕ) (at : ℕ) → ℕ
mended_at capture at = (mend_at capture at).at

-- the kind of a direction
abbrev pub direction_kind : (to_device : Bool) → ℕ
direction_kind true = 1
direction_kind false = 2

-- of a record: the kind of its direction; its message begins 4 bytes behind the place and ends at the next one, read or mended, in the capture
pub record RecordItem (capture : List ℕ) (at : ℕ) (to_device : Bool) (start count : ℕ) : Type 0 where
  pub kind : kind_at capture at ≡ direction_kind to_device
  pub begins : start ≡ at + 4
  pub within : start + count ≤ length capture
  pub next : next_at capture at ≡ start + count
  pub next_mended : mended_at capture at ≡ start + count

-- of bytes passed over, one or more: 20 or 21; they begin at the place and end at the mended one, in the capture, and the next place stands
pub record PassedItem (capture : List ℕ) (at start count : ℕ) : Type 0 where
  pub kind : (kind_at capture at ≡ bad_mark) ⊎ (kind_at capture at ≡ cut_short)
  pub begins : start ≡ at
  pub some : 1 ≤ count
  pub within : start + count ≤ length capture
  pub next : next_at capture at ≡ at
  pub next_mended : mended_at capture at ≡ start + count

-- of the end: nothing is left, and both places stand
pub record EndItem (capture : List ℕ) (at : ℕ) : Type 0 where
  pub kind : kind_at capture at ≡ 0
  pub none_left : length capture ≤ at
  pub next : next_at capture at ≡ at
  pub next_mended : mended_at capture at ≡ at

-- the five kinds
abbrev pub IsKind : ℕ → Type 0
IsKind kind = (kind ≡ 0) ⊎ ((kind ≡ direction_kind true) ⊎ ((kind ≡ direction_kind false) ⊎ ((kind ≡ bad_mark) ⊎ (kind ≡ cut_short))))

-- of a record that was written: its direction, its message, and the place behind it
pub record WrittenItem (to_device : Bool) (message buffer : List ℕ) (at : ℕ) : Type 0 where
  pub kind : kind_at buffer at ≡ direction_kind to_device
  pub content : part_of buffer (at + 4) (length message) ≡ message
  pub next : next_at buffer at ≡ at + 4 + length message
  pub next_mended : mended_at buffer at ≡ at + 4 + length message

pub record CaptureItems : Type 0 where
  pub kinds : (capture : List ℕ) (at : ℕ) → IsKind (kind_at capture at)
  pub of_record : (capture : List ℕ) (at : ℕ) (to_device : Bool) (start count : ℕ) → item_at capture at ≡ Item.found to_device start count
      → RecordItem capture at to_device start count
  pub of_passed : (capture : List ℕ) (at start count : ℕ) → part_at capture at ≡ Part.passed start count → PassedItem capture at start count
  pub of_end : (capture : List ℕ) (at : ℕ) → item_at capture at ≡ Item.end → EndItem capture at
  -- and the other way round: kind and next place tell what stands there
  pub record_of : (capture : List ℕ) (at : ℕ) (to_device : Bool) → kind_at capture at ≡ direction_kind to_device
      → item_at capture at ≡ Item.found to_device (at + 4) (next_at capture at - (at + 4))
  pub passed_of : (capture : List ℕ) (at : ℕ) → (kind_at capture at ≡ bad_mark) ⊎ (kind_at capture at ≡ cut_short)
      → part_at capture at ≡ Part.passed at (mended_at capture at - at)
  pub end_of : (capture : List ℕ) (at : ℕ) → kind_at capture at ≡ 0 → item_at capture at ≡ Item.end
  -- a record that was written, answered 0, is the item at its place
  pub written : (toward : ℕ) (message buffer : List ℕ) (at : ℕ) → let k : Left = capture_write_of toward message buffer at in
      k.answer ≡ handled → WrittenItem (fact toward) message k.bytes at
