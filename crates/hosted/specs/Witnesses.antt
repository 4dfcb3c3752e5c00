-- The premises over hosts can be met too: the pasts of upgrade's witnesses, through the exports, also one that ends in the number 23. Assumes nothing.
use Rattle.std.specs.Prelude.{ℕ, ◌≡◌, List, [], ◌∷◌, map, take, replicate}
use Rattle.basis.specs.Numbers.{repeat_differs}
use Rattle.message.specs.Limits.{device_room, gateway_room}
use Rattle.message.specs.Messages.{DeviceMessage, announce, fragment, query_reply, to_device, to_gateway}
use Rattle.codec.specs.Codec.{bytes_of}
use Rattle.device_record.specs.Record.{failed}
use Rattle.layout_rules.specs.Layout.{device_at, device_length, gateway_length}
use Rattle.upgrade.specs.Calls.{DeviceCall, given, GatewayCall}
use Rattle.upgrade.specs.Records.{World}
use Rattle.upgrade.specs.Witnesses.{old, new, content, offer}
use Rattle.hosted.specs.Hosts.{device_host_does}
use Rattle.hosted.specs.Hosted.{HostedBefore, device_host_then, HostedReady, HostedCleanStart}

-- a message, both facts yes
abbrev pub told : DeviceMessage → DeviceCall ℕ
told m = given 1 1 0 (bytes_of to_device m) (replicate device_room 0)

-- a device that was given these messages, and a gateway that heard its version; version texts without what fills them up
abbrev pub past : List DeviceMessage → HostedBefore
past messages =
    record {
      device_buffer = replicate device_length 0xFF;
      running = take 4 old;
      image = replicate 64 0xFF;
      map = 0xFF ∷ [];
      device_calls = map told messages;
      gateway_buffer = replicate gateway_length 0xFF;
      version = take 4 new;
      size = 32;
      content = content;
      checked = 1;
      gateway_calls = GatewayCall.given 1 1 (bytes_of to_gateway (query_reply 0x00 old)) (replicate gateway_room 0) ∷ [];
    }

-- one that holds the first of two fragments, and that fragment as another build has it
abbrev pub half : HostedBefore
half = past (announce offer ∷ fragment 0x00 0 (take 32 content) ∷ [])

abbrev pub other : DeviceMessage
other = fragment 0x00 0 (replicate 32 0x43)

abbrev pub crossed : HostedBefore
crossed = past (announce offer ∷ fragment 0x00 0 (take 32 content) ∷ other ∷ [])

pub record HostedWitnesses : Type 0 where
  -- the clean run can start
  pub clean : HostedCleanStart (past []) (λ (w : World). replicate device_room 0) (λ (w : World). replicate gateway_room 0)
  -- a download can be held under the offer's fields
  pub ready : HostedReady half
  -- and a start may follow the number 23 (02, 2026-06)
  pub crossed_number : (device_host_does (device_host_then half) (told other)).number ≡ repeat_differs
  pub crossed_failed : (device_at (device_host_then crossed).bytes).phase ≡ failed
  pub ready_failed : HostedReady crossed
