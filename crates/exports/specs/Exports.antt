-- The calls of both ends through bytes: each is the end's own definition, with the record read from and kept in a buffer that the host
-- lends (`bytes`). The device is 01's head; `content` is the gateway's package. Assumes nothing.
use Rattle.std.specs.Prelude.{ℕ, ◌+◌, ◌*◌, Bool, not, List, eqb, leb, length, replicate}
use Rattle.basis.specs.Choice.{pick}
use Rattle.basis.specs.Numbers.{handled, short_record}
use Rattle.basis.specs.Bytes.{part}
use Rattle.codec.specs.Codec.{Sent}
use Rattle.device_record.specs.declared.Device.{Device}
use Rattle.device_record.specs.declared.Made.{Made}
use Rattle.device_record.specs.Record.{new_of}
use Rattle.device_rules.specs.declared.Finished.{Finished}
use Rattle.device_rules.specs.declared.DigestAnswer.{DigestAnswer}
use Rattle.device_rules.specs.Rules as device
use Rattle.gateway_record.specs.declared.Gateway.{Gateway}
use Rattle.gateway_record.specs.declared.Started.{Started}
use Rattle.gateway_record.specs.Record.{start_of}
use Rattle.gateway_rules.specs.Rules as gateway
use Rattle.layout_rules.specs.Layout.{device_at, device_bytes, device_length, gateway_at, gateway_bytes, gateway_length, kept}

-- a byte as a fact: 0 is no, anything else yes
abbrev pub fact : ℕ → Bool
fact b = not (eqb b 0)

-- a number and the length of a reply, as one number
abbrev pub packed : (number length : ℕ) → ℕ
packed number length = number + 256 * length

-- a version text as a host gives it: bytes that are not given count as 00; more than 16 are no text, which 17 refuses
unfoldable pub text_of : List ℕ → List ℕ
text_of bytes = pick (leb (length bytes) 16) (part bytes 0 16) (replicate 16 0)

-- ---- what a call leaves: its answer, and every buffer that was lent for writing. A record buffer shorter than its layout is refused first of
-- all (short_record)

pub record Left : Type 0 where
  pub answer : ℕ
  pub bytes : List ℕ

pub record Asked : Type 0 where
  pub answer : ℕ
  pub reply : List ℕ

pub record DeviceGiven : Type 0 where
  pub answer : ℕ
  pub bytes : List ℕ
  pub image : List ℕ
  pub map : List ℕ
  pub reply : List ℕ

pub record GatewayGiven : Type 0 where
  pub answer : ℕ
  pub bytes : List ℕ
  pub reply : List ℕ

-- what an ask answers
abbrev pub ask_answer : Sent → Asked
ask_answer s = record { answer = packed s.number s.length; reply = s.buffer }

-- ---- the device

module _ (bytes : List ℕ) where
  -- the buffer has room for the device's record
  abbrev pub device_fits : Bool
  device_fits = leb device_length (length bytes)

  -- the record that the call left, in the place of the one that it was given
  abbrev pub device_kept : Device → List ℕ
  device_kept d = kept device_length (device_bytes d) bytes

  -- a refused making leaves the buffer
  unfoldable pub device_new_of : (version : List ℕ) → Left
  device_new_of version =
      let m : Made = new_of (text_of version) in
      pick device_fits
      (record { answer = m.number; bytes = pick (eqb m.number handled) (device_kept m.device) bytes })
      (record { answer = short_record; bytes = bytes })

  unfoldable pub device_receive_of : (image map reply : List ℕ) (supported pcp condition : ℕ) (message : List ℕ) → DeviceGiven
  device_receive_of image map reply supported pcp condition message =
      let a : device.After = device.receive_of (device_at bytes) image map reply (fact supported) (fact pcp) condition message in
      pick device_fits
      (record {
        answer = packed a.number a.length;
        bytes = device_kept a.device;
        image = a.image;
        map = a.map;
        reply = a.reply;
      })
      (record { answer = short_record; bytes = bytes; image = image; map = map; reply = reply })

  unfoldable pub device_next_message_of : (image map reply : List ℕ) → Asked
  device_next_message_of image map reply =
      pick device_fits (ask_answer (device.next_message_of (device_at bytes) image map reply)) (record { answer = short_record; reply = reply })

  unfoldable pub device_install_finished_of : (code : ℕ) → Left
  device_install_finished_of code =
      let f : Finished = device.install_finished_of (device_at bytes) code in
      pick device_fits (record { answer = f.number; bytes = device_kept f.device }) (record { answer = short_record; bytes = bytes })

  -- a digest that has not 16 bytes is refused as a record that is too short is
  unfoldable pub device_give_digest_of : (digest : List ℕ) → Left
  device_give_digest_of digest =
      let g : DigestAnswer = device.give_digest_of (device_at bytes) (part digest 0 16) in
      pick device_fits
      (pick (eqb (length digest) 16)
      (record { answer = g.number; bytes = device_kept g.device })
      (record { answer = short_record; bytes = bytes }))
      (record { answer = short_record; bytes = bytes })

-- ---- the gateway

module _ (bytes : List ℕ) where
  -- the buffer has room for the gateway's record
  abbrev pub gateway_fits : Bool
  gateway_fits = leb gateway_length (length bytes)

  abbrev pub gateway_kept : Gateway → List ℕ
  gateway_kept g = kept gateway_length (gateway_bytes g) bytes

  -- a refused start leaves the buffer
  unfoldable pub gateway_start_of : (version : List ℕ) (size : ℕ) (content : List ℕ) (checked : ℕ) → Left
  gateway_start_of version size content checked =
      let s : Started = start_of (text_of version) size content (fact checked) in
      pick gateway_fits
      (record { answer = s.number; bytes = pick (eqb s.number handled) (gateway_kept s.gateway) bytes })
      (record { answer = short_record; bytes = bytes })

  unfoldable pub gateway_receive_of : (content reply : List ℕ) (supported pcp : ℕ) (message : List ℕ) → GatewayGiven
  gateway_receive_of content reply supported pcp message =
      let a : gateway.After = gateway.receive_of (gateway_at bytes) content reply (fact supported) (fact pcp) message in
      pick gateway_fits
      (record { answer = packed a.number a.length; bytes = gateway_kept a.gateway; reply = a.reply })
      (record { answer = short_record; bytes = bytes; reply = reply })

  unfoldable pub gateway_next_message_of : (content reply : List ℕ) → Asked
  gateway_next_message_of content reply =
      pick gateway_fits (ask_answer (gateway.next_message_of (gateway_at bytes) content reply)) (record { answer = short_record; reply = reply })
