-- Demand 3, as 01's "Runs of demand 3" words it, and what stands beside it. Assumes nothing.
use Rattle.std.specs.Prelude.{ℕ, ◌≡◌, Bool, true}
use mathlib.Core.List.{List, [], Memᴰ}
use Rattle.device_record.specs.Record.{new_of, holding}
use Rattle.gateway_record.specs.declared.Gateway.{Gateway}
use Rattle.gateway_record.specs.Record as gateway
use Rattle.upgrade.specs.Fold.{after}
use Rattle.upgrade.specs.Calls.{DeviceCall, GatewayCall}
use Rattle.upgrade.specs.Records.{DeviceEnd, device_next, gateway_next, records, World}
use Rattle.upgrade.specs.Held.{Held, held_after}
use Rattle.upgrade.specs.Claims.{Demand3Of, UpgradeOf, RepeatsAgreeOf, InstallLengthOf}

-- Before the start: the device made fresh, then any list of its calls; the gateway started on the package, and its calls.
pub record Before : Type 0 where
  pub running : List ℕ
  pub image : List ℕ
  pub map : List ℕ
  pub device_calls : List (DeviceCall Bool)
  pub version : List ℕ
  pub size : ℕ
  pub content : List ℕ
  pub checked : Bool
  pub gateway_calls : List (GatewayCall Bool)

module _ (b : Before) where
  abbrev pub made : DeviceEnd
  made = record { device = (new_of b.running).device; image = b.image; map = b.map }

  abbrev pub device_then : DeviceEnd
  device_then = after device_next made b.device_calls

  abbrev pub gateway_then : Gateway
  gateway_then = after (gateway_next b.content) (gateway.start_of b.version b.size b.content b.checked).gateway b.gateway_calls

  abbrev pub held_then : Held
  held_then = held_after made (record { fields = made.device.fields; fragments = [] }) b.device_calls

  -- If the announcement that zeroed the map carried this gateway's four fields, each fragment held is the package's for its index.
  abbrev pub HeldIsPackage : Type 0
  HeldIsPackage =
      holding device_then.device.phase ≡ true → held_then.fields ≡ gateway_then.fields →
      (index : ℕ) (bytes : List ℕ) → Memᴰ (index, bytes) held_then.fragments → bytes ≡ gateway.fragment_of b.content b.size index

  -- The making and the start were answered 0, the gateway is in Offer, and Held is as said.
  pub record Ready : Type 0 where
    pub device_made : (new_of b.running).number ≡ 0
    pub gateway_started : (gateway.start_of b.version b.size b.content b.checked).number ≡ 0
    pub offering : gateway_then.phase ≡ gateway.offer
    pub held : HeldIsPackage

  -- The start: nothing is on the air.
  abbrev pub start : World
  start = record { device_end = device_then; gateway = gateway_then; from_device = []; from_gateway = [] }

-- Demand 3: for every past and every allowed list of calls, both halves.
abbrev pub Demand3 : Type 0
Demand3 = (b : Before) → Ready b → Demand3Of (records b.content) (start b) b.content

-- The halves joined.
abbrev pub Upgrade : Type 0
Upgrade = (b : Before) → Ready b → UpgradeOf (records b.content) (start b) b.content

-- Beside it (02, 2026-06): no call after the start gives the number 23.
abbrev pub RepeatsAgree : Type 0
RepeatsAgree = (b : Before) → Ready b → RepeatsAgreeOf (records b.content) (start b)

-- And what is there to be installed is as long as the package.
abbrev pub InstallLength : Type 0
InstallLength = (b : Before) → Ready b → InstallLengthOf (records b.content) (start b) b.content
