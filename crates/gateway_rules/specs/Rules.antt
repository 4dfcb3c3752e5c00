-- The gateway's steps: 01, "The gateway", with the refusals of "Numbers returned" in their order. Assumes nothing.
use Rattle.std.specs.Prelude.{ℕ, Bool, List, [], eqb, length}
use Rattle.basis.specs.Choice.{pick}
use Rattle.basis.specs.Numbers.{handled, no_use}
use Rattle.basis.specs.Bytes.{over}
use Rattle.message.specs.Messages.{DeviceMessage, query, announce, fragment, download_reply, execute, result_reply, GatewayMessage, query_reply, announce_reply}
use Rattle.message.specs.Messages.{fragment_request, download_report, execute_reply, result_report, Reading, found, refused, to_device, to_gateway}
use Rattle.codec.specs.Codec.{Sent, bytes_of, read_of, said}
use Rattle.gateway_record.specs.declared.Gateway.{Gateway}
use Rattle.gateway_record.specs.Record.{ask, offer, serve, run, not_accepted, download_failed, not_executed, fragment_of, in_phase, ended_with, call_refusal}
use Rattle.gateway_rules.specs.Decisions.{after_query, fragment_result, install_ending}

-- what a call leaves: the number, the length of the reply, the record, and the reply buffer
pub record After : Type 0 where
  pub number : ℕ
  pub length : ℕ
  pub gateway : Gateway
  pub reply : List ℕ

-- 21: the fragment with 00, else a result alone
unfoldable pub fragment_reply : Gateway → (content version : List ℕ) (index : ℕ) → DeviceMessage
fragment_reply g content version index =
    let result : ℕ = fragment_result g.phase g.fields version index in
    fragment result index (pick (eqb result 0x00) (fragment_of content g.fields.size index) [])

module _ (g : Gateway) (content reply : List ℕ) where
  -- a refusal: nothing written, reply length 0
  abbrev pub refuse : ℕ → After
  refuse n = record { number = n; length = 0; gateway = g; reply = reply }

  -- handled, with no reply
  abbrev pub moved : Gateway → After
  moved h = record { number = handled; length = 0; gateway = h; reply = reply }

  -- handled, with a reply at the front of its buffer
  abbrev pub replied : Gateway → DeviceMessage → After
  replied h m = record { number = handled; length = length (bytes_of to_device m); gateway = h; reply = over (bytes_of to_device m) reply }

  -- ---- the six messages

  -- 19 answer in Ask: ends with 1, or Offer
  unfoldable pub on_query_reply : (version : List ℕ) → After
  on_query_reply version = pick (eqb g.phase ask) (moved (after_query g version)) (refuse no_use)

  -- 20 answer in Offer: 00 to Serve, else ends with 2
  unfoldable pub on_announce_reply : (result : ℕ) → After
  on_announce_reply result =
      pick (eqb g.phase offer) (moved (pick (eqb result 0x00) (in_phase serve g) (ended_with not_accepted g))) (refuse no_use)

  -- 21, any phase: a fragment or why there is none
  unfoldable pub on_fragment_request : (version : List ℕ) (index : ℕ) → After
  on_fragment_request version index = replied g (fragment_reply g content version index)

  -- 22 in Serve: 00 to Run, other codes end with 3, reply 00; in Run: reply 00; else 80
  unfoldable pub on_download_report : (result : ℕ) → After
  on_download_report result =
      pick (eqb g.phase serve) (replied (pick (eqb result 0x00) (in_phase run g) (ended_with download_failed g)) (download_reply 0x00))
      (pick (eqb g.phase run) (replied g (download_reply 0x00))
      (replied g (download_reply 0x80)))

  -- 23 answer in Run: 00 changes nothing, else ends with 4
  unfoldable pub on_execute_reply : (result : ℕ) → After
  on_execute_reply result =
      pick (eqb g.phase run) (moved (pick (eqb result 0x00) g (ended_with not_executed g))) (refuse no_use)

  -- 24 in Run: ends with 0 or 5, reply 00; other phases 80
  unfoldable pub on_result_report : (result : ℕ) (version : List ℕ) → After
  on_result_report result version =
      pick (eqb g.phase run)
      (replied (ended_with (install_ending g.fields result version) g) (result_reply 0x00))
      (replied g (result_reply 0x80))

  -- what a reading leads to
  unfoldable pub handle : Reading GatewayMessage → After
  handle (refused n) = refuse n
  handle (found (query_reply result version)) = on_query_reply version
  handle (found (announce_reply result)) = on_announce_reply result
  handle (found (fragment_request version index)) = on_fragment_request version index
  handle (found (download_report result)) = on_download_report result
  handle (found (execute_reply result)) = on_execute_reply result
  handle (found (result_report result version)) = on_result_report result version

  -- a message is given: 15, 29, 14, 1 to 8, then the message's own rule
  unfoldable pub receive_of : (supported pcp : Bool) (message : List ℕ) → After
  receive_of supported pcp message =
      let n : ℕ = call_refusal g (length content) (length reply) in
      pick (eqb n handled) (handle (read_of to_gateway supported pcp message)) (refuse n)

-- ---- asking for the next message: 19, 20, nothing, 23, nothing

unfoldable pub wanted : Gateway → Reading DeviceMessage
wanted g =
    pick (eqb g.phase ask) (found query)
    (pick (eqb g.phase offer) (found (announce g.fields))
    (pick (eqb g.phase run) (found execute)
    (refused no_use)))

-- 15, 29, 14, then what there is to say
unfoldable pub next_message_of : Gateway → (content reply : List ℕ) → Sent
next_message_of g content reply =
    let n : ℕ = call_refusal g (length content) (length reply) in
    said to_device (pick (eqb n handled) (wanted g) (refused n)) reply
