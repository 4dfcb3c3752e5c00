-- The count: on any run from a fresh record with one map, and any image in each call, in phases 1 to 6 the stored count is the number of set
-- bits among the first total (01, "Promises with one reading"), and no call is refused with 29. Where the image too is one, none is refused
-- with 14. Assumes nothing.
use Rattle.std.specs.Prelude.{ℕ, ◌≤◌, ◌≡◌, true, List, []}
use Rattle.basis.specs.Numbers.{bad_memory, bad_record}
use Rattle.bitmap.specs.Bitmap.{set_bits}
use Rattle.device_record.specs.Record.{loading, reporting, new_of, record_ok, memory_ok}
use Rattle.upgrade.specs.Fold.{after}
use Rattle.upgrade.specs.Calls.{DeviceCall, DeviceSide}
use Rattle.upgrade.specs.Records.{device_records}

module _ {F : Type 0} (s : DeviceSide F) where
  -- ---- one map, any image in each call

  -- What holds of a device's record and its map, as calls left them, whatever image comes next.
  pub record Counted (d : s.State) : Type 0 where
    pub count : loading ≤ (s.device d).phase → (s.device d).phase ≤ reporting → (s.device d).stored ≡ set_bits (s.map d) (s.device d).fields.total
    pub record_holds : record_ok (s.device d) ≡ true
    pub not_29 : (image : List ℕ) (c : DeviceCall F) → (s.does (s.lend d image) c).number ≡ bad_record → ⊥

  -- a call, lent an image of its own
  abbrev pub lent_next : s.State → (List ℕ × DeviceCall F) → s.State
  lent_next d (image, c) = (s.does (s.lend d image) c).state

  abbrev pub CountOf : s.State → Type 0
  CountOf made = (calls : List (List ℕ × DeviceCall F)) → Counted (after lent_next made calls)

  -- ---- one map and one image

  -- What holds of a device's record with image and map, as calls left them.
  pub record Roomy (d : s.State) : Type 0 where
    pub room_holds : memory_ok (s.device d) (s.image d) (s.map d) ≡ true
    pub not_14 : (c : DeviceCall F) → (s.does d c).number ≡ bad_memory → ⊥

  abbrev pub RoomOf : s.State → Type 0
  RoomOf made = (calls : List (DeviceCall F)) → Roomy (after (λ d c. (s.does d c).state) made calls)

-- A fresh record and one map, then any list of calls, each with an image of its own.
abbrev pub Count : Type 0
Count = (version map : List ℕ) → (new_of version).number ≡ 0 → CountOf device_records (record { device = (new_of version).device; image = []; map = map })

-- A fresh record, one image and one map, then any list of calls.
abbrev pub Room : Type 0
Room =
    (version image map : List ℕ) → (new_of version).number ≡ 0 →
    RoomOf device_records (record { device = (new_of version).device; image = image; map = map })
