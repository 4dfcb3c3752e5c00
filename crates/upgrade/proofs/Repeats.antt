-- A repeat is compared with the fragment held: it is what stands at the place of an index that is marked. Assumes nothing.
use Prim.Native.Nat.{ℕ}
use native.Mathlib.Omega.{arith}
use mathlib.Core.Path.{◌≡◌, refl, ◌∙◌, ap}
use mathlib.Core.Bool.{Bool, true, false}
use mathlib.Core.List.{List}
use lib.Dec.{leb}
use lib.ListN.{length}
use borrow.Author.Tests.{le-leb, eq-eqb}
use Rattle.basis.specs.Choice.{pick, refusal}
use Rattle.basis.specs.Numbers.{already_stored, repeat_differs}
use Rattle.basis.specs.Bytes.{same}
use Rattle.message.specs.declared.Fields.{Fields}
use Rattle.message.specs.Limits.{device_room}
use Rattle.message.specs.Messages.{found, fragment, to_device}
use Rattle.codec.specs.Codec.{read_of}
use Rattle.device_record.specs.Record.{condition_ok, record_ok, memory_ok, loading}
use Rattle.device_rules.specs.Decisions.{stored_bytes, repeat_refusal, fragment_refusal}
use Rattle.device_rules.proofs.Tested.{repeated}
use Rattle.device_rules.specs.Rules.{handle, on_fragment, receive_of}
use Rattle.device_rules.proofs.Sound.{sound_record, sound_room}
use Rattle.device_rules.proofs.Standing.{Stored, standing, stored_is}
use Rattle.upgrade.specs.Calls.{given}
use Rattle.upgrade.specs.Records.{DeviceEnd, device_does}
use Rattle.upgrade.specs.Demand3.{made, device_then, held_then}
use Rattle.upgrade.specs.Repeats.{RepeatsCompared}
use Rattle.upgrade.proofs.BeforeStart.{Among, Lived, lived, lived_fresh}

repeat_is : (f : Fields) (last index : ℕ) (image again bytes : List ℕ) → stored_bytes f last index image ≡ bytes
    → repeat_refusal f last index image again ≡ pick (same again bytes) already_stored repeat_differs
unfolding repeat_refusal
repeat_is f last index image again bytes e = ap (λ (stored : List ℕ). pick (same again stored) already_stored repeat_differs) e

-- in Loading, a fragment that is refused with 12 or 23 is answered so
module _ (e : DeviceEnd) (index : ℕ) (again reply : List ℕ) (loads : e.device.phase ≡ loading) where
  answered : (kept : Bool) → fragment_refusal e.device.fields e.device.last index e.image e.map again ≡ pick kept already_stored repeat_differs
      → (on_fragment e.device e.image e.map reply 0x00 index again).number ≡ pick kept already_stored repeat_differs
  unfolding on_fragment pick
  answered true q = rw (eq-eqb e.device.phase loading loads, q) refl
  answered false q = rw (eq-eqb e.device.phase loading loads, q) refl

  -- and so is any call that brings it
  module _ (supported pcp : Bool) (condition : ℕ) (message : List ℕ) where
    brings : record_ok e.device ≡ true → memory_ok e.device e.image e.map ≡ true → condition_ok condition ≡ true
        → leb device_room (length reply) ≡ true → read_of to_device supported pcp message ≡ found (fragment 0x00 index again)
        → (device_does e (given supported pcp condition message reply)).number ≡ (on_fragment e.device e.image e.map reply 0x00 index again).number
    unfolding device_does receive_of handle refusal pick
    brings good fits known roomy heard = rw (roomy, known, good, fits, heard) refl

pub repeats_compared : RepeatsCompared
repeats_compared b index r =
    let e : DeviceEnd = device_then b in
    let f : Fields = e.device.fields in
    let l : Lived e (held_then b) = lived b.device_calls (made b) _ (lived_fresh b.running b.image b.map _ r.device_made) in
    let p : Stored (Among (held_then b).fragments) f e.image e.device.last index =
    (l.sound.download (λ z. omega (arith, r.phase))).holds.each index r.below r.marks in
    record {
      bytes = p.bytes;
      held = p.known;
      number = λ again long supported pcp condition message reply known room heard.
          brings e index again reply r.phase supported pcp condition message
          (sound_record (standing (Among (held_then b).fragments)) e.device e.image e.map l.sound)
          (sound_room (standing (Among (held_then b).fragments)) e.device e.image e.map l.sound)
          known (le-leb device_room (length reply) room) heard
          ∙ answered e index again reply r.phase (same again p.bytes)
          (repeated f e.device.last index e.image e.map again r.below long r.marks
          ∙ repeat_is f e.device.last index e.image again p.bytes
          (stored_is (Among (held_then b).fragments) f e.image e.device.last index p));
    }
