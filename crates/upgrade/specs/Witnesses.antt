-- Demand 3's premises can be met: pasts and a list of calls, written out, of which they hold. Assumes nothing.
use Rattle.std.specs.Prelude.{ℕ, ◌≡◌, Bool, true, List, [], ◌∷◌, ◌++◌, take, replicate}
use Rattle.basis.specs.Numbers.{already_stored, repeat_differs}
use Rattle.message.specs.declared.Fields.{Fields}
use Rattle.message.specs.Limits.{device_room, gateway_room}
use Rattle.message.specs.Messages.{DeviceMessage, GatewayMessage, announce, fragment, execute, query_reply, announce_reply, fragment_request, download_report}
use Rattle.message.specs.Messages.{result_report, to_device, to_gateway}
use Rattle.checksum.specs.Check.{check_of}
use Rattle.codec.specs.Codec.{bytes_of}
use Rattle.device_record.specs.Record.{loading, failed}
use Rattle.upgrade.specs.Fold.{Allowed}
use Rattle.upgrade.specs.Calls.{DeviceCall, given, asked, finished, GatewayCall, Call, at_device, at_gateway, next, May}
use Rattle.upgrade.specs.Records.{device_does, records, World}
use Rattle.upgrade.specs.Claims.{number_of, Success, reached, InstalledBefore}
use Rattle.upgrade.specs.Demand3.{Before, device_then, gateway_then, held_then, Ready, start}
use Rattle.upgrade.specs.Clean.{CleanStart}

-- V0.9 runs; V1.0 is to run, 33 bytes in fragments of 32
abbrev pub old : List ℕ
old = 0x56 ∷ 0x30 ∷ 0x2E ∷ 0x39 ∷ replicate 12 0

abbrev pub new : List ℕ
new = 0x56 ∷ 0x31 ∷ 0x2E ∷ 0x30 ∷ replicate 12 0

abbrev pub content : List ℕ
content = replicate 32 0x41 ++ (0x42 ∷ [])

abbrev pub offer : Fields
offer = record { version = new; size = 32; total = 2; code = check_of content }

-- calls, with the reply buffers that are asked for at least
abbrev pub told_device : DeviceMessage → DeviceCall Bool
told_device m = given true true 0 (bytes_of to_device m) (replicate device_room 0)

abbrev pub asked_device : DeviceCall Bool
asked_device = asked (replicate device_room 0)

abbrev pub told_gateway : GatewayMessage → GatewayCall Bool
told_gateway m = GatewayCall.given true true (bytes_of to_gateway m) (replicate gateway_room 0)

abbrev pub asked_gateway : GatewayCall Bool
asked_gateway = GatewayCall.asked (replicate gateway_room 0)

-- a device that had these calls, and a gateway that heard its version
abbrev pub past : List (DeviceCall Bool) → Before
past calls =
    record {
      running = old;
      image = replicate 64 0xFF;
      map = 0xFF ∷ [];
      device_calls = calls;
      version = new;
      size = 32;
      content = content;
      checked = true;
      gateway_calls = told_gateway (query_reply 0x00 old) ∷ [];
    }

-- the first of the offer's two fragments
abbrev pub first : DeviceCall Bool
first = told_device (fragment 0x00 0 (take 32 content))

-- a device just made, and one that holds it
abbrev pub fresh : Before
fresh = past []

abbrev pub half : Before
half = past (told_device (announce offer) ∷ first ∷ [])

-- that fragment as another build has it, and a device to which it came behind the offer's
abbrev pub other : DeviceCall Bool
other = told_device (fragment 0x00 0 (replicate 32 0x43))

abbrev pub crossed : Before
crossed = past (told_device (announce offer) ∷ first ∷ other ∷ [])

-- the offer, and the first fragment
abbrev pub opening : List (Call Bool)
opening =
    at_gateway asked_gateway
    ∷ at_device (told_device (announce offer))
    ∷ at_gateway (told_gateway (announce_reply 0x00))
    ∷ at_device asked_device
    ∷ at_gateway (told_gateway (fragment_request new 0))
    ∷ at_device first
    ∷ []

-- an upgrade, up to the order to install; the order, and the installer's end; the report
abbrev pub download : List (Call Bool)
download =
    at_gateway asked_gateway
    ∷ at_device (told_device (announce offer))
    ∷ at_gateway (told_gateway (announce_reply 0x00))
    ∷ at_device asked_device
    ∷ at_gateway (told_gateway (fragment_request new 1))
    ∷ at_device (told_device (fragment 0x00 1 (0x42 ∷ [])))
    ∷ at_device asked_device
    ∷ at_gateway (told_gateway (download_report 0x00))
    ∷ at_gateway asked_gateway
    ∷ []

abbrev pub calls : List (Call Bool)
calls =
    download
    ++ (at_device (told_device execute)
    ∷ at_device (finished 0x00)
    ∷ at_device asked_device
    ∷ at_gateway (told_gateway (result_report 0x00 new))
    ∷ [])

pub record Witnesses : Type 0 where
  -- the clean run can start
  pub clean : CleanStart fresh (λ (w : World). replicate device_room 0) (λ (w : World). replicate gateway_room 0)
  -- a download can be held under the offer's fields
  pub ready : Ready half
  pub held_loading : (device_then half).device.phase ≡ loading
  pub held_offer : (gateway_then half).fields ≡ offer
  pub held : held_then half ≡ record { fields = offer; fragments = (0, take 32 content) ∷ [] }
  -- from there a list of calls may be made that ends in a success, with its history
  pub allowed : Allowed (next (records content)) May (start half) calls
  pub success : Success (records content) (reached (records content) (start half) calls)
  pub history : InstalledBefore (records content) (start half) calls
  -- a fragment may come again after the start, with number 12 (02, 2026-06)
  pub repeat_allowed : Allowed (next (records content)) May (start fresh) (opening ++ (at_device first ∷ []))
  pub repeat_number : number_of (records content) (reached (records content) (start fresh) opening) (at_device first) ≡ already_stored
  -- and a start may follow the number 23, in which the past of `crossed` ends
  pub crossed_number : (device_does (device_then half) other).number ≡ repeat_differs
  pub crossed_failed : (device_then crossed).device.phase ≡ failed
  pub ready_failed : Ready crossed
