-- A reply fits the least buffer of its end, so that its length fits its place in an answer. Assumes nothing.
use Prim.Native.Nat.{ℕ, ◌+◌, ◌≤◌}
use native.Mathlib.Omega.{arith}
use mathlib.Core.Path.{◌≡◌}
use mathlib.Core.Bool.{Bool}
use mathlib.Core.List.{List}
use lib.ListN.{length, length-append, length-take}
use borrow.Author.Tests.{eqb-true}
use Rattle.basis.proofs.Choosing.{by_cases, passed}
use Rattle.message.specs.Limits.{size_max, device_room, gateway_room}
use Rattle.message.specs.Messages.{DeviceMessage, query, announce, fragment, download_reply, execute, result_reply, GatewayMessage, query_reply}
use Rattle.message.specs.Messages.{announce_reply, fragment_request, download_report, execute_reply, result_report, Table, Reading, found, refused}
use Rattle.message.specs.Messages.{to_device, to_gateway, device_row, gateway_row}
use Rattle.codec.specs.Codec.{bytes_of, read_of, said}
use Rattle.codec.proofs.Frames.{length_frame}
use Rattle.device_record.specs.declared.Device.{Device}
use Rattle.device_rules.specs.Rules as device
use Rattle.gateway_record.specs.declared.Gateway.{Gateway}
use Rattle.gateway_record.specs.Record.{fragment_of, call_refusal}
use Rattle.gateway_rules.specs.Rules as gateway
use Rattle.gateway_record.proofs.Records.{told}

spoken_length : (t : Table) (m : t.Message) → length (bytes_of t m) ≡ 8 + length (t.content m)
unfolding bytes_of
spoken_length t m = length_frame (t.code m) (t.content m)

-- ---- the device

spoken_short : (m : GatewayMessage) → length (to_gateway.content m) ≤ 18 → length (bytes_of to_gateway m) ≤ device_room
spoken_short m h = omega (arith, spoken_length to_gateway m)

module _ (d : Device) (running : length d.running ≡ 16) where
  Short : device.After → Type 0
  Short a = a.length ≤ device_room

  module _ (image map reply : List ℕ) where
    handled-short : (condition : ℕ) (r : Reading DeviceMessage) → Short (device.handle d image map reply condition r)
    unfolding Short device.handle device.on_query device.on_announce device.begin device.on_fragment device.store device.on_download_reply device.on_execute
        device.on_result_reply gateway_row
    handled-short condition (refused n) = omega arith
    handled-short condition (found query) = spoken_short (query_reply 0x00 d.running) (omega arith)
    handled-short condition (found (announce f)) =
        by_cases Short
        (λ _. by_cases Short (λ _. spoken_short (announce_reply 0x00) (omega arith)) (λ _. spoken_short (announce_reply 0x00) (omega arith)))
        (λ _. spoken_short (announce_reply _) (omega arith))
    handled-short condition (found (fragment result index bytes)) =
        by_cases Short
        (λ _. by_cases Short (λ _. omega arith)
        (λ _. by_cases Short (λ _. omega arith)
        (λ _. by_cases Short (λ _. omega arith)
        (λ _. by_cases Short (λ _. omega arith) (λ _. omega arith)))))
        (λ _. omega arith)
    handled-short condition (found (download_reply result)) =
        by_cases Short (λ _. omega arith) (λ _. by_cases Short (λ _. omega arith) (λ _. omega arith))
    handled-short condition (found execute) = spoken_short (execute_reply _) (omega arith)
    handled-short condition (found (result_reply result)) = by_cases Short (λ _. omega arith) (λ _. omega arith)

    pub device_reply_short : (supported pcp : Bool) (condition : ℕ) (message : List ℕ)
        → (device.receive_of d image map reply supported pcp condition message).length ≤ device_room
    unfolding Short device.receive_of
    device_reply_short supported pcp condition message =
        by_cases Short (λ _. handled-short condition (read_of to_device supported pcp message)) (λ _. omega arith)

    -- asking
    AskShort : Reading GatewayMessage → Type 0
    AskShort r = (said to_gateway r reply).length ≤ device_room

    wanted-short : length d.fields.version ≡ 16 → AskShort (device.wanted d map)
    unfolding AskShort device.wanted said gateway_row
    wanted-short target =
        by_cases AskShort
        (λ _. by_cases AskShort (λ _. spoken_short (fragment_request d.fields.version _) (simp length-append (omega arith))) (λ _. omega arith))
        (λ _. by_cases AskShort (λ _. spoken_short (download_report 0x00) (omega arith))
        (λ _. by_cases AskShort (λ _. spoken_short (download_report 0x07) (omega arith))
        (λ _. by_cases AskShort (λ _. spoken_short (result_report d.outcome d.running) (omega arith)) (λ _. omega arith))))

    pub device_ask_short : length d.fields.version ≡ 16 → (device.next_message_of d image map reply).length ≤ device_room
    unfolding AskShort device.next_message_of said
    device_ask_short target = by_cases AskShort (λ _. wanted-short target) (λ _. omega arith)

-- ---- the gateway

spoken_fits : (m : DeviceMessage) → length (to_device.content m) ≤ 3 + size_max → length (bytes_of to_device m) ≤ gateway_room
spoken_fits m h = omega (arith, spoken_length to_device m)

module _ (g : Gateway) (content reply : List ℕ) where
  Fits : gateway.After → Type 0
  Fits a = a.length ≤ gateway_room

  fragment_fits : (version : List ℕ) (index : ℕ) → g.fields.size ≤ size_max
      → length (bytes_of to_device (gateway.fragment_reply g content version index)) ≤ gateway_room
  unfolding gateway.fragment_reply device_row fragment_of
  fragment_fits version index h =
      spoken_fits (gateway.fragment_reply g content version index)
      (by_cases (λ (bytes : List ℕ). length (to_device.content (fragment 0x00 index bytes)) ≤ 3 + size_max) (λ _. simp length-take (omega arith))
      (λ _. omega arith))

  handled-fits : g.fields.size ≤ size_max → (r : Reading GatewayMessage) → Fits (gateway.handle g content reply r)
  unfolding Fits gateway.handle gateway.on_query_reply gateway.on_announce_reply gateway.on_fragment_request gateway.on_download_report gateway.on_execute_reply
      gateway.on_result_report device_row
  handled-fits h (refused n) = omega arith
  handled-fits h (found (query_reply result version)) = by_cases Fits (λ _. omega arith) (λ _. omega arith)
  handled-fits h (found (announce_reply result)) = by_cases Fits (λ _. omega arith) (λ _. omega arith)
  handled-fits h (found (fragment_request version index)) = fragment_fits version index h
  handled-fits h (found (download_report result)) =
      by_cases Fits (λ _. spoken_fits (download_reply 0x00) (omega arith))
      (λ _. by_cases Fits (λ _. spoken_fits (download_reply 0x00) (omega arith)) (λ _. spoken_fits (download_reply 0x80) (omega arith)))
  handled-fits h (found (execute_reply result)) = by_cases Fits (λ _. omega arith) (λ _. omega arith)
  handled-fits h (found (result_report result version)) =
      by_cases Fits (λ _. spoken_fits (result_reply 0x00) (omega arith)) (λ _. spoken_fits (result_reply 0x80) (omega arith))

  -- behind the guard the size is in range
  sized : call_refusal g (length content) (length reply) ≡ 0 → g.fields.size ≤ size_max
  sized e = (told g (passed 28 _ _ (passed 14 _ _ e).1).0).high

  pub gateway_reply_fits : (supported pcp : Bool) (message : List ℕ) → (gateway.receive_of g content reply supported pcp message).length ≤ gateway_room
  unfolding Fits gateway.receive_of
  gateway_reply_fits supported pcp message =
      by_cases Fits (λ e. handled-fits (sized (eqb-true _ 0 e)) (read_of to_gateway supported pcp message)) (λ _. omega arith)

  AskFits : Reading DeviceMessage → Type 0
  AskFits r = (said to_device r reply).length ≤ gateway_room

  pub gateway_ask_fits : length g.fields.version ≡ 16 → (gateway.next_message_of g content reply).length ≤ gateway_room
  unfolding AskFits gateway.next_message_of gateway.wanted said device_row
  gateway_ask_fits target =
      by_cases AskFits
      (λ _. by_cases AskFits (λ _. spoken_fits query (omega arith))
      (λ _. by_cases AskFits (λ _. spoken_fits (announce g.fields) (simp length-append (omega arith)))
      (λ _. by_cases AskFits (λ _. spoken_fits execute (omega arith)) (λ _. omega arith))))
      (λ _. omega arith)
