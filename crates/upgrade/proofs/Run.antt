-- The invariant of demand 3's runs: before the announcement is taken up, and after it. The history, that Execute was answered 00 and that
-- the install then ended with 00, enters as two types that only grow. Assumes nothing.
use Prim.Native.Nat.{ℕ, ◌<◌}
use mathlib.Core.Path.{◌≡◌}
use mathlib.Core.Bool.{true}
use mathlib.Core.List.{List}
use mathlib.Core.Logic.{◌⊎◌}
use lib.ListN.{length, drop}
use Rattle.message.specs.declared.Fields.{Fields}
use Rattle.message.specs.Messages.{DeviceMessage, query, announce, fragment, download_reply, execute, result_reply, GatewayMessage, query_reply, announce_reply}
use Rattle.message.specs.Messages.{fragment_request, download_report, execute_reply, result_report, to_device, to_gateway}
use Rattle.device_record.specs.declared.Device.{Device}
use Rattle.device_record.specs.Record.{installing, reporting, holding}
use Rattle.device_rules.proofs.Sound.{Sound}
use Rattle.device_rules.proofs.Standing.{standing}
use Rattle.gateway_record.specs.declared.Gateway.{Gateway}
use Rattle.gateway_record.specs.Record as gateway
use Rattle.upgrade.specs.Records.{DeviceEnd, World}
use Rattle.upgrade.proofs.Air.{Air, air_map}

-- what a run is about: the package, the four fields with which it is offered, the image at the start, and of which bytes it is known that
-- they were held there for an index
pub record Plan : Type 1 where
  pub content : List ℕ
  pub offer : Fields
  pub image : List ℕ
  pub Held : (index : ℕ) → List ℕ → Type 0
  pub size_some : 0 < offer.size
  pub total_is : offer.total ≡ gateway.total_of (length content) offer.size

-- the device is sound, and of what stands at the place of each marked index Q holds
abbrev pub SoundEnd : ((index : ℕ) → List ℕ → Type 0) → DeviceEnd → Type 0
SoundEnd Q e = Sound (standing Q) e.device e.image e.map

abbrev pub NotEnded : Gateway → Type 0
NotEnded g = g.phase ≡ gateway.ended → ⊥

-- in Offer, or ended without success
abbrev pub Offering : Gateway → Type 0
Offering g = (g.phase ≡ gateway.offer) ⊎ ((g.phase ≡ gateway.ended) × (g.ending ≡ 0 → ⊥))

module _ (p : Plan) where
  -- the bytes are the package's for their index
  abbrev pub Stretch : (index : ℕ) → List ℕ → Type 0
  Stretch index bytes = bytes ≡ gateway.fragment_of p.content p.offer.size index

  -- the device runs the target, and will: it then refuses the announcement with 03
  abbrev pub RunsTarget : Device → Type 0
  RunsTarget d = (d.running ≡ p.offer.version) × (d.phase ≡ installing → ⊥)

  -- ---- what is on the air

  -- from the gateway: its own announcement and fragments; a fragment with 00 and Execute only where it served
  abbrev pub GatewaySaid : (served : Type 0) → DeviceMessage → Type 0
  GatewaySaid served query = Unit {0}
  GatewaySaid served (announce a) = a ≡ p.offer
  GatewaySaid served (fragment result index bytes) = result ≡ 0x00 → served × Stretch index bytes
  GatewaySaid served (download_reply result) = Unit {0}
  GatewaySaid served execute = served
  GatewaySaid served (result_reply result) = Unit {0}

  -- from the device: the announcement answered 00 only where it was taken up, the target reported with 00 only on success
  abbrev pub DeviceSaid : (taken success : Type 0) → GatewayMessage → Type 0
  DeviceSaid taken success (query_reply result version) = Unit {0}
  DeviceSaid taken success (announce_reply result) = result ≡ 0x00 → taken
  DeviceSaid taken success (fragment_request version index) = Unit {0}
  DeviceSaid taken success (download_report result) = Unit {0}
  DeviceSaid taken success (execute_reply result) = Unit {0}
  DeviceSaid taken success (result_report result version) = result ≡ 0x00 → version ≡ p.offer.version → success

  pub more_served : {S S' : Type 0} → (S → S') → (m : DeviceMessage) → GatewaySaid S m → GatewaySaid S' m
  more_served k query s = s
  more_served k (announce a) s = s
  more_served k (fragment result index bytes) s = λ z. (k (s z).0, (s z).1)
  more_served k (download_reply result) s = s
  more_served k execute s = k s
  more_served k (result_reply result) s = s

  pub more_said : {T T' S S' : Type 0} → (T → T') → (S → S') → (m : GatewayMessage) → DeviceSaid T S m → DeviceSaid T' S' m
  more_said j k (query_reply result version) s = s
  more_said j k (announce_reply result) s = λ z. j (s z)
  more_said j k (fragment_request version index) s = s
  more_said j k (download_report result) s = s
  more_said j k (execute_reply result) s = s
  more_said j k (result_report result version) s = λ z v. k (s z v)

  -- ---- the invariant

  module _ (w : World) where
    -- before the announcement is taken up
    pub record Untaken : Type 0 where
      pub offering : Offering w.gateway
      pub said : Air to_device (GatewaySaid ⊥) w.from_gateway
      pub heard : Air to_gateway (DeviceSaid ⊥ (RunsTarget w.device_end.device)) w.from_device
      pub sound : SoundEnd p.Held w.device_end
      pub resumable : holding w.device_end.device.phase ≡ true → w.device_end.device.fields ≡ p.offer
          → (index : ℕ) (bytes : List ℕ) → p.Held index bytes → Stretch index bytes
      pub image_kept : w.device_end.image ≡ p.image

    -- after it
    pub record Taken (executed installed : Type 0) : Type 0 where
      pub said : Air to_device (GatewaySaid (Unit {0})) w.from_gateway
      pub heard : Air to_gateway (DeviceSaid (Unit {0}) (NotEnded w.gateway → installed)) w.from_device
      pub fields_are : w.device_end.device.fields ≡ p.offer
      pub sound : SoundEnd Stretch w.device_end
      pub installs : w.device_end.device.phase ≡ installing → executed
      pub reports : w.device_end.device.phase ≡ reporting → w.device_end.device.outcome ≡ 0x00 → NotEnded w.gateway → installed
      pub success : w.gateway.phase ≡ gateway.ended → w.gateway.ending ≡ 0 → installed
      pub past_kept : drop (length p.content) w.device_end.image ≡ drop (length p.content) p.image

    pub data Run (executed installed : Type 0) : Type 0 where
      untaken : Untaken → Run executed installed
      taken : Taken executed installed → Run executed installed

    -- the history grows
    pub run_later : {E E' I I' : Type 0} → (E → E') → (I → I') → Run E I → Run E' I'
    run_later j k (untaken u) = untaken u
    run_later j k (taken t) =
        taken record {
          said = t.said;
          heard = air_map to_gateway (more_said (λ u. u) (λ s n. k (s n))) w.from_device t.heard;
          fields_are = t.fields_are;
          sound = t.sound;
          installs = λ q. j (t.installs q);
          reports = λ q o n. k (t.reports q o n);
          success = λ q z. k (t.success q z);
          past_kept = t.past_kept;
        }
