-- Held, of 01's "Runs of demand 3": the fragments that the device stored since map bytes were last zeroed, and the fields of the
-- announcement that zeroed them, worked out along the device's calls. That it counts only where these leave the device in phase 1, 2 or
-- 3, and what its fragments are, is said by `HeldIsPackage` in `Demand3`, a premise. Assumes nothing.
use Rattle.std.specs.Prelude.{ℕ, Bool, ◌&&◌, not, List, [], ◌∷◌, eqb}
use Rattle.basis.specs.Choice.{pick}
use Rattle.message.specs.Messages.{DeviceMessage, query, announce, fragment, download_reply, execute, result_reply, Reading, found, refused, to_device}
use Rattle.codec.specs.Codec.{read_of}
use Rattle.message.specs.declared.Fields.{Fields}
use Rattle.device_rules.specs.Rules.{announce_result, resumes}
use Rattle.upgrade.specs.Calls.{DeviceCall, given, asked, finished, digest_given}
use Rattle.upgrade.specs.Records.{DeviceEnd, device_answer, device_next}

pub record Held : Type 0 where
  pub fields : Fields
  pub fragments : List (ℕ × List ℕ)

-- what a message that is answered 0 does to it: an announcement taken up afresh empties it, a fragment with 00 joins it
unfoldable pub held_by : DeviceEnd → (condition : ℕ) → Reading DeviceMessage → Held → Held
held_by e condition (refused n) h = h
held_by e condition (found query) h = h
held_by e condition (found (announce f)) h =
    pick (eqb (announce_result e.device condition f e.image e.map) 0 && not (resumes e.device f))
    (record { fields = f; fragments = [] })
    h
held_by e condition (found (fragment result index bytes)) h =
    pick (eqb result 0x00) (record { fields = h.fields; fragments = (index, bytes) ∷ h.fragments }) h
held_by e condition (found (download_reply result)) h = h
held_by e condition (found execute) h = h
held_by e condition (found (result_reply result)) h = h

unfoldable pub held_next : DeviceEnd → DeviceCall Bool → Held → Held
held_next e (given supported pcp condition message reply) h =
    pick (eqb (device_answer e supported pcp condition message reply).number 0)
    (held_by e condition (read_of to_device supported pcp message) h)
    h
held_next e (asked reply) h = h
held_next e (finished code) h = h
held_next e (digest_given digest) h = h

-- along a list of calls
unfoldable pub held_after : DeviceEnd → Held → List (DeviceCall Bool) → Held
held_after e h [] = h
held_after e h (c ∷ cs) = held_after (device_next e c) (held_next e c h) cs
