-- Captures mended: 02, 2026-02. Assumes nothing.
use Rattle.std.specs.Prelude.{ℕ, zero, suc, ◌+◌, ◌-◌, Bool, true, false, List, eqb, length}
use Rattle.basis.specs.Choice.{pick}
use Rattle.basis.specs.Numbers.{handled}
use Rattle.message.specs.Recognition.{recognition}
use Rattle.capture_rules.specs.Capture.{Item, item_at, part_of}

-- a whole record whose message passes the tests 1 to 7, both facts yes
unfoldable pub sound_item : (capture : List ℕ) → Item → Bool
sound_item capture (Item.found to_device start count) = eqb (recognition true true (part_of capture start count)) handled
sound_item capture Item.end = false
sound_item capture (Item.fault number) = false

abbrev pub sound : (capture : List ℕ) (at : ℕ) → Bool
sound capture at = sound_item capture (item_at capture at)

-- the first of so many places, from a place on, at which there is such a record; the place behind them where there is none
unfoldable pub first_sound : (capture : List ℕ) (most at : ℕ) → ℕ
first_sound capture zero at = at
first_sound capture (suc most) at = pick (sound capture at) at (first_sound capture most (at + 1))

-- where mending goes on after 20 or 21: at the first sound place behind, else at the end
abbrev pub resume_at : (capture : List ℕ) (at : ℕ) → ℕ
resume_at capture at = first_sound capture (length capture - (at + 1)) (at + 1)

-- what the mending walker gives: the next record, its message so many bytes from start on; a stretch passed over; or the end
pub data Part : Type 0 where
  found : (to_device : Bool) (start count : ℕ) → Part
  passed : (start count : ℕ) → Part
  end : Part

-- what the walker gives, but for 20 and 21: there a stretch is passed over
unfoldable pub mended : (capture : List ℕ) → Item → (at : ℕ) → Part
mended capture (Item.found to_device start count) at = Part.found to_device start count
mended capture Item.end at = Part.end
mended capture (Item.fault number) at = Part.passed at (resume_at capture at - at)

abbrev pub part_at : (capture : List ℕ) (at : ℕ) → Part
part_at capture at = mended capture (item_at capture at) at

-- the next place: behind a record or a stretch; after the end the place stands
abbrev pub place_behind : Part → ℕ → ℕ
place_behind (Part.found to_device start count) at = start + count
place_behind (Part.passed start count) at = start + count
place_behind Part.end at = at

-- the mending walker's step
pub record Mend : Type 0 where
  pub part : Part
  pub at : ℕ

abbrev pub mend_at : (capture : List ℕ) (at : ℕ) → Mend
mend_at capture at = record { part = part_at capture at; at = place_behind (part_at capture at) at }
