-- What holds of every call through bytes: a refusal changes no buffer, but for the number 23, which changes the phase; and the next call finds
-- the record, or MD5's state, that the last one left; a buffer that is too short has a number of its own. Assumes nothing.
use Rattle.std.specs.Prelude.{ℕ, ◌/◌, ◌%◌, ◌≤◌, ◌<◌, ◌≡◌, Bool, List, length, get_or, set}
use Rattle.basis.specs.Numbers.{short_record, repeat_differs}
use Rattle.basis.specs.Bytes.{Bytes}
use Rattle.device_record.specs.declared.Device.{Device}
use Rattle.device_record.specs.Record.{loading, failed, new_of}
use Rattle.device_rules.specs.declared.Finished.{Finished}
use Rattle.device_rules.specs.declared.DigestAnswer.{DigestAnswer}
use Rattle.device_rules.specs.Rules as device
use Rattle.gateway_record.specs.declared.Gateway.{Gateway}
use Rattle.gateway_record.specs.Record.{start_of}
use Rattle.gateway_rules.specs.Rules as gateway
use Rattle.layout_rules.specs.Layout.{device_at, device_length, gateway_at, gateway_length}
use Rattle.md5_rules.specs.Stream as md5
use Rattle.md5_layout.specs.Layout.{state_at, state_length}
use Rattle.exports.specs.Exports.{fact, text_of, Left, Asked, DeviceGiven, GatewayGiven, device_new_of, device_receive_of, device_next_message_of}
use Rattle.exports.specs.Captures.{capture_write_of}
use Rattle.exports.specs.Digests.{md5_digest_of, md5_new_of, md5_feed_of, md5_finish_of}
use Rattle.exports.specs.Exports.{device_install_finished_of, device_give_digest_of, gateway_start_of, gateway_receive_of, gateway_next_message_of}

-- the number in an answer, and the length of the reply
abbrev pub number_in : ℕ → ℕ
number_in answer = answer % 256

abbrev pub length_in : ℕ → ℕ
length_in answer = answer / 256

-- ---- the project's demand 1, after 01's "Numbers returned" as 02 (2026-06) amends it: any number but 0 leaves every buffer as it was, and no
-- reply, but for the number 23 of a message to the device, which changes the record's phase and nothing else. A record buffer holds bytes, as
-- any memory does: the record that a refused call returns is put back as the bytes from which it was read

abbrev pub Refused : ℕ → Type 0
Refused answer = number_in answer ≡ 0 → ⊥

-- answered with a number that leaves all as it was
abbrev pub LeftAlone : ℕ → Type 0
LeftAlone answer = Refused answer × (number_in answer ≡ repeat_differs → ⊥)

pub record Demand1 : Type 0 where
  pub device_new : (bytes version : List ℕ) → let k : Left = device_new_of bytes version in
      Refused k.answer → k.bytes ≡ bytes
  pub device_receive : (bytes image map reply : List ℕ) (supported pcp condition : ℕ) (message : List ℕ) → Bytes bytes
      → let g : DeviceGiven = device_receive_of bytes image map reply supported pcp condition message in
      LeftAlone g.answer → (length_in g.answer ≡ 0) × (g.bytes ≡ bytes) × (g.image ≡ image) × (g.map ≡ map) × (g.reply ≡ reply)
  -- the one exception: Loading becomes Failed
  pub device_repeat_differs : (bytes image map reply : List ℕ) (supported pcp condition : ℕ) (message : List ℕ) → Bytes bytes
      → let g : DeviceGiven = device_receive_of bytes image map reply supported pcp condition message in
      number_in g.answer ≡ repeat_differs
      → (get_or bytes 0 0 ≡ loading)
      × (length_in g.answer ≡ 0) × (g.bytes ≡ set bytes 0 failed) × (g.image ≡ image) × (g.map ≡ map) × (g.reply ≡ reply)
  pub device_next_message : (bytes image map reply : List ℕ) → let a : Asked = device_next_message_of bytes image map reply in
      Refused a.answer → (length_in a.answer ≡ 0) × (a.reply ≡ reply)
  pub device_install_finished : (bytes : List ℕ) (code : ℕ) → Bytes bytes → let k : Left = device_install_finished_of bytes code in
      Refused k.answer → k.bytes ≡ bytes
  pub device_give_digest : (bytes digest : List ℕ) → Bytes bytes → let k : Left = device_give_digest_of bytes digest in
      Refused k.answer → k.bytes ≡ bytes
  pub gateway_start : (bytes version : List ℕ) (size : ℕ) (content : List ℕ) (checked : ℕ)
      → let k : Left = gateway_start_of bytes version size content checked in
      Refused k.answer → k.bytes ≡ bytes
  pub gateway_receive : (bytes content reply : List ℕ) (supported pcp : ℕ) (message : List ℕ) → Bytes bytes
      → let g : GatewayGiven = gateway_receive_of bytes content reply supported pcp message in
      Refused g.answer → (length_in g.answer ≡ 0) × (g.bytes ≡ bytes) × (g.reply ≡ reply)
  pub gateway_next_message : (bytes content reply : List ℕ) → let a : Asked = gateway_next_message_of bytes content reply in
      Refused a.answer → (length_in a.answer ≡ 0) × (a.reply ≡ reply)
  pub capture_write : (toward : ℕ) (message buffer : List ℕ) (at : ℕ) → let k : Left = capture_write_of toward message buffer at in
      Refused k.answer → k.bytes ≡ buffer
  pub md5_digest : (bytes digest : List ℕ) → let k : Left = md5_digest_of bytes digest in
      Refused k.answer → k.bytes ≡ digest
  pub md5_new : (bytes : List ℕ) → let k : Left = md5_new_of bytes in
      Refused k.answer → k.bytes ≡ bytes
  pub md5_feed : (bytes piece : List ℕ) → let k : Left = md5_feed_of bytes piece in
      Refused k.answer → k.bytes ≡ bytes
  pub md5_finish : (bytes digest : List ℕ) → let k : Left = md5_finish_of bytes digest in
      Refused k.answer → k.bytes ≡ digest
  -- and of the record itself: a refused call returns the one that it was given, with the number 23 in Failed
  pub device_record : (d : Device) (image map reply : List ℕ) (supported pcp : Bool) (condition : ℕ) (message : List ℕ)
      → let a : device.After = device.receive_of d image map reply supported pcp condition message in
      (a.number ≡ 0 → ⊥) → (a.number ≡ repeat_differs → ⊥) → a ≡ device.refuse d image map reply a.number
  pub device_record_repeat_differs : (d : Device) (image map reply : List ℕ) (supported pcp : Bool) (condition : ℕ) (message : List ℕ)
      → let a : device.After = device.receive_of d image map reply supported pcp condition message in
      a.number ≡ repeat_differs → (d.phase ≡ loading) × (a ≡ device.differ d image map reply)
  pub device_finished_record : (d : Device) (code : ℕ) → let f : Finished = device.install_finished_of d code in
      (f.number ≡ 0 → ⊥) → f.device ≡ d
  pub device_digest_record : (d : Device) (digest : List ℕ) → let g : DigestAnswer = device.give_digest_of d digest in
      (g.number ≡ 0 → ⊥) → g.device ≡ d
  pub gateway_record : (g : Gateway) (content reply : List ℕ) (supported pcp : Bool) (message : List ℕ)
      → let a : gateway.After = gateway.receive_of g content reply supported pcp message in
      (a.number ≡ 0 → ⊥) → a ≡ gateway.refuse g content reply a.number

-- ---- the record that a call left is the one that the next call finds, whatever stood in the buffer: after a making or a start that was
-- answered 0, and after any other call, refused or not

pub record Carried : Type 0 where
  pub device_new : (bytes version : List ℕ) → device_length ≤ length bytes → (new_of (text_of version)).number ≡ 0
      → device_at (device_new_of bytes version).bytes ≡ (new_of (text_of version)).device
  pub device_receive : (bytes image map reply : List ℕ) (supported pcp condition : ℕ) (message : List ℕ) → device_length ≤ length bytes
      → device_at (device_receive_of bytes image map reply supported pcp condition message).bytes
      ≡ (device.receive_of (device_at bytes) image map reply (fact supported) (fact pcp) condition message).device
  pub device_install_finished : (bytes : List ℕ) (code : ℕ) → device_length ≤ length bytes
      → device_at (device_install_finished_of bytes code).bytes ≡ (device.install_finished_of (device_at bytes) code).device
  pub device_give_digest : (bytes digest : List ℕ) → device_length ≤ length bytes → length digest ≡ 16
      → device_at (device_give_digest_of bytes digest).bytes ≡ (device.give_digest_of (device_at bytes) digest).device
  -- what has not 16 bytes is no digest: the record stays
  pub device_no_digest : (bytes digest : List ℕ) → device_length ≤ length bytes → (length digest ≡ 16 → ⊥)
      → device_at (device_give_digest_of bytes digest).bytes ≡ device_at bytes
  pub gateway_start : (bytes version : List ℕ) (size : ℕ) (content : List ℕ) (checked : ℕ) → gateway_length ≤ length bytes
      → (start_of (text_of version) size content (fact checked)).number ≡ 0
      → gateway_at (gateway_start_of bytes version size content checked).bytes ≡ (start_of (text_of version) size content (fact checked)).gateway
  pub gateway_receive : (bytes content reply : List ℕ) (supported pcp : ℕ) (message : List ℕ) → gateway_length ≤ length bytes
      → gateway_at (gateway_receive_of bytes content reply supported pcp message).bytes
      ≡ (gateway.receive_of (gateway_at bytes) content reply (fact supported) (fact pcp) message).gateway
  pub md5_new : (bytes : List ℕ) → state_length ≤ length bytes → state_at (md5_new_of bytes).bytes ≡ md5.new_of
  pub md5_feed : (bytes piece : List ℕ) → state_length ≤ length bytes → state_at (md5_feed_of bytes piece).bytes ≡ md5.feed_of (state_at bytes) piece

-- ---- a buffer that is too short for a record, or for MD5's state, is refused first of all, with a number of its own, and all stays as it was

pub record Short : Type 0 where
  pub device_new : (bytes version : List ℕ) → length bytes < device_length → device_new_of bytes version ≡ record { answer = short_record; bytes = bytes }
  pub device_receive : (bytes image map reply : List ℕ) (supported pcp condition : ℕ) (message : List ℕ) → length bytes < device_length
      → device_receive_of bytes image map reply supported pcp condition message
      ≡ record { answer = short_record; bytes = bytes; image = image; map = map; reply = reply }
  pub device_next_message : (bytes image map reply : List ℕ) → length bytes < device_length
      → device_next_message_of bytes image map reply ≡ record { answer = short_record; reply = reply }
  pub device_install_finished : (bytes : List ℕ) (code : ℕ) → length bytes < device_length
      → device_install_finished_of bytes code ≡ record { answer = short_record; bytes = bytes }
  pub device_give_digest : (bytes digest : List ℕ) → length bytes < device_length
      → device_give_digest_of bytes digest ≡ record { answer = short_record; bytes = bytes }
  pub gateway_start : (bytes version : List ℕ) (size : ℕ) (content : List ℕ) (checked : ℕ) → length bytes < gateway_length
      → gateway_start_of bytes version size content checked ≡ record { answer = short_record; bytes = bytes }
  pub gateway_receive : (bytes content reply : List ℕ) (supported pcp : ℕ) (message : List ℕ) → length bytes < gateway_length
      → gateway_receive_of bytes content reply supported pcp message ≡ record { answer = short_record; bytes = bytes; reply = reply }
  pub gateway_next_message : (bytes content reply : List ℕ) → length bytes < gateway_length
      → gateway_next_message_of bytes content reply ≡ record { answer = short_record; reply = reply }
  pub md5_new : (bytes : List ℕ) → length bytes < state_length → md5_new_of bytes ≡ record { answer = short_record; bytes = bytes }
  pub md5_feed : (bytes piece : List ℕ) → length bytes < state_length → md5_feed_of bytes piece ≡ record { answer = short_record; bytes = bytes }
  pub md5_finish : (bytes digest : List ℕ) → length bytes < state_length → md5_finish_of bytes digest ≡ record { answer = short_record; bytes = digest }
