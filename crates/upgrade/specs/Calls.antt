-- The calls of 01, "Runs of demand 3", and two ends with the air between them, however each end keeps its state: as records (Records), or
-- as bytes that its host keeps (crate hosted). Assumes nothing.
use Rattle.std.specs.Prelude.{ℕ, Bool, eqb, take}
use mathlib.Core.List.{List, [], ◌∷◌, ◌++◌, Memᴰ}
use Rattle.basis.specs.Choice.{pick}
use Rattle.device_record.specs.declared.Device.{Device}
use Rattle.gateway_record.specs.declared.Gateway.{Gateway}

-- what an ask or a reply puts on the air: a copy of its bytes, nothing where there is none
unfoldable pub aired : (length : ℕ) (buffer : List ℕ) → List (List ℕ)
aired length buffer = pick (eqb length 0) [] (take length buffer ∷ [])

-- ---- the calls, with any bytes, condition, reply buffer and code; F is the form in which a recognition fact is given

-- a message is given, the next message is asked for, the installer ends, a digest is given (02, 2026-05)
pub data DeviceCall (F : Type 0) : Type 0 where
  given : (supported pcp : F) (condition : ℕ) (message reply : List ℕ) → DeviceCall F
  asked : (reply : List ℕ) → DeviceCall F
  finished : (code : ℕ) → DeviceCall F
  digest_given : (digest : List ℕ) → DeviceCall F

pub data GatewayCall (F : Type 0) : Type 0 where
  given : (supported pcp : F) (message reply : List ℕ) → GatewayCall F
  asked : (reply : List ℕ) → GatewayCall F

pub data Call (F : Type 0) : Type 0 where
  at_device : DeviceCall F → Call F
  at_gateway : GatewayCall F → Call F

-- ---- an end: what it keeps from call to call, and what a call does

-- what a call leaves of the end, what it puts on the air, and what it is answered with
pub record Done (S : Type 0) : Type 0 where
  pub state : S
  pub says : List (List ℕ)
  pub number : ℕ

pub record DeviceSide (F : Type 0) : Type 1 where
  pub State : Type 0
  pub device : State → Device
  pub image : State → List ℕ
  pub map : State → List ℕ
  -- the same with another image, which the next call is lent
  pub lend : State → (image : List ℕ) → State
  pub does : State → DeviceCall F → Done State

-- the package is the same from call to call
pub record GatewaySide (F : Type 0) : Type 1 where
  pub State : Type 0
  pub gateway : State → Gateway
  pub does : State → GatewayCall F → Done State

pub record Ends : Type 1 where
  pub Fact : Type 0
  pub fact : Fact → Bool
  pub device : DeviceSide Fact
  pub gateway : GatewaySide Fact

-- ---- both ends, and what each has put on the air

pub record Exchange (D G : Type 0) : Type 0 where
  pub device_end : D
  pub gateway : G
  pub from_device : List (List ℕ)
  pub from_gateway : List (List ℕ)

module _ (e : Ends) where
  abbrev pub Both : Type 0
  Both = Exchange e.device.State e.gateway.State

  unfoldable pub next : Both → Call e.Fact → Both
  next w (at_device c) =
      let d : Done e.device.State = e.device.does w.device_end c in
      record { device_end = d.state; gateway = w.gateway; from_device = d.says ++ w.from_device; from_gateway = w.from_gateway }
  next w (at_gateway c) =
      let d : Done e.gateway.State = e.gateway.does w.gateway c in
      record { device_end = w.device_end; gateway = d.state; from_device = w.from_device; from_gateway = d.says ++ w.from_gateway }

-- each end is given only what the other has put on the air
unfoldable pub May : {D G F : Type 0} → Exchange D G → Call F → Type 0
May w (at_device (given supported pcp condition message reply)) = Memᴰ message w.from_gateway
May w (at_device (asked reply)) = Unit {0}
May w (at_device (finished code)) = Unit {0}
May w (at_device (digest_given digest)) = Unit {0}
May w (at_gateway (GatewayCall.given supported pcp message reply)) = Memᴰ message w.from_device
May w (at_gateway (GatewayCall.asked reply)) = Unit {0}
