-- What a repeat is answered (02, 2026-06), after any calls of a device that was made fresh: in Loading it is compared with a fragment that Held
-- has for its index, the same for every repeat. So a fragment of another build that comes while one is held, and is as long as it may be, is
-- seen. Assumes nothing.
use Rattle.std.specs.Prelude.{ℕ, ◌<◌, ◌≤◌, ◌≡◌, Bool, true, length}
use mathlib.Core.List.{List, Memᴰ}
use Rattle.basis.specs.Choice.{pick}
use Rattle.basis.specs.Numbers.{already_stored, repeat_differs}
use Rattle.basis.specs.Bytes.{same}
use Rattle.message.specs.Limits.{device_room}
use Rattle.message.specs.Messages.{found, fragment, to_device}
use Rattle.codec.specs.Codec.{read_of}
use Rattle.bitmap.specs.Bitmap.{marked}
use Rattle.device_record.specs.Record.{new_of, condition_ok, loading}
use Rattle.device_rules.specs.Decisions.{fragment_length}
use Rattle.upgrade.specs.Calls.{given}
use Rattle.upgrade.specs.Records.{device_does}
use Rattle.upgrade.specs.Demand3.{Before, device_then, held_then}

module _ (b : Before) (index : ℕ) where
  -- the device is in Loading, and its map says that the index is stored
  pub record Repeat : Type 0 where
    pub device_made : (new_of b.running).number ≡ 0
    pub phase : (device_then b).device.phase ≡ loading
    pub below : index < (device_then b).device.fields.total
    pub marks : marked (device_then b).map index ≡ true

  -- a fragment held decides the number of any call that brings a repeat which is as long as it may be: 12 with the same bytes, as many, 23 with
  -- others
  pub record Compared : Type 0 where
    pub bytes : List ℕ
    pub held : Memᴰ (index, bytes) (held_then b).fragments
    pub number : (again : List ℕ) → fragment_length (device_then b).device.fields index (length again) ≡ true
        → (supported pcp : Bool) (condition : ℕ) (message reply : List ℕ) → condition_ok condition ≡ true → device_room ≤ length reply
        → read_of to_device supported pcp message ≡ found (fragment 0x00 index again)
        → (device_does (device_then b) (given supported pcp condition message reply)).number ≡ pick (same again bytes) already_stored repeat_differs

abbrev pub RepeatsCompared : Type 0
RepeatsCompared = (b : Before) (index : ℕ) → Repeat b index → Compared b index
