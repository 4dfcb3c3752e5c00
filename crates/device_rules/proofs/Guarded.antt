-- What the calls' first tests tell where none fails. Assumes nothing.
use Prim.Native.Nat.{ℕ}
use mathlib.Core.Path.{◌≡◌, refl}
use mathlib.Core.Bool.{true}
use mathlib.Core.List.{List}
use lib.Dec.{leb}
use lib.ListN.{length}
use borrow.Author.Tests.{leb-true}
use Rattle.basis.specs.Choice.{one_of}
use Rattle.basis.proofs.Choosing.{passed}
use Rattle.message.specs.Limits.{device_room}
use Rattle.device_record.specs.declared.Device.{Device}
use Rattle.device_record.specs.Record.{condition_ok, record_ok, memory_ok, receive_refusal, ask_refusal}
use Rattle.device_rules.specs.Inner.{Guarded}

ready_known : condition_ok 0 ≡ true
unfolding condition_ok one_of
ready_known = refl

module _ (d : Device) (image map reply : List ℕ) where
  pub receiving_passed : (condition : ℕ) → receive_refusal d condition image map reply ≡ 0 → Guarded d condition image map reply
  receiving_passed condition e =
      let (room, e₁) = passed 14 (leb device_room (length reply)) _ e in
      let (known, e₂) = passed 12 (condition_ok condition) _ e₁ in
      let (sound, e₃) = passed 28 (record_ok d) _ e₂ in
      record { room = leb-true _ _ room; condition = known; sound = sound; held = (passed 13 (memory_ok d image map) _ e₃).0 }

  -- an ask states no condition: it is guarded as a message to a ready device is
  pub asking_passed : ask_refusal d image map reply ≡ 0 → Guarded d 0 image map reply
  asking_passed e =
      let (room, e₁) = passed 14 (leb device_room (length reply)) _ e in
      let (sound, e₂) = passed 28 (record_ok d) _ e₁ in
      record { room = leb-true _ _ room; condition = ready_known; sound = sound; held = (passed 13 (memory_ok d image map) _ e₂).0 }
