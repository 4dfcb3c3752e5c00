-- Both ends over records: each call is the definition that the code's call is proved equal to, but for a digest of another length than 16,
-- which the code's type rules out. Assumes nothing.
use Rattle.std.specs.Prelude.{ℕ, Bool, List, [], eqb, length}
use Rattle.basis.specs.Choice.{pick}
use Rattle.basis.specs.Numbers.{short_record}
use Rattle.codec.specs.Codec.{Sent}
use Rattle.device_record.specs.declared.Device.{Device}
use Rattle.device_rules.specs.declared.Finished.{Finished}
use Rattle.device_rules.specs.declared.DigestAnswer.{DigestAnswer}
use Rattle.device_rules.specs.Rules as device
use Rattle.gateway_record.specs.declared.Gateway.{Gateway}
use Rattle.gateway_rules.specs.Rules as gateway
use Rattle.upgrade.specs.Calls.{aired, DeviceCall, given, asked, finished, digest_given, GatewayCall, Done, DeviceSide, Ends, Exchange}

-- ---- the device, with image and map as the last call left them

pub record DeviceEnd : Type 0 where
  pub device : Device
  pub image : List ℕ
  pub map : List ℕ

-- what a message that is given leaves
abbrev pub device_answer : DeviceEnd → (supported pcp : Bool) (condition : ℕ) (message reply : List ℕ) → device.After
device_answer e supported pcp condition message reply =
    device.receive_of e.device e.image e.map reply supported pcp condition message

-- What a digest that is given leaves. It has 16 bytes by its type: a list of another length is no digest, and a call with one changes nothing
-- and is answered short_record, 64, as the export answers it.
abbrev pub device_digest_answer : Device → (digest : List ℕ) → DigestAnswer
device_digest_answer d digest = pick (eqb (length digest) 16) (device.give_digest_of d digest) (record { number = short_record; device = d })

unfoldable pub device_does : DeviceEnd → DeviceCall Bool → Done DeviceEnd
device_does e (given supported pcp condition message reply) =
    let a : device.After = device_answer e supported pcp condition message reply in
    record { state = record { device = a.device; image = a.image; map = a.map }; says = aired a.length a.reply; number = a.number }
device_does e (asked reply) =
    let s : Sent = device.next_message_of e.device e.image e.map reply in
    record { state = e; says = aired s.length s.buffer; number = s.number }
device_does e (finished code) =
    let f : Finished = device.install_finished_of e.device code in
    record { state = record { device = f.device; image = e.image; map = e.map }; says = []; number = f.number }
device_does e (digest_given digest) =
    let g : DigestAnswer = device_digest_answer e.device digest in
    record { state = record { device = g.device; image = e.image; map = e.map }; says = []; number = g.number }

abbrev pub device_next : DeviceEnd → DeviceCall Bool → DeviceEnd
device_next e c = (device_does e c).state

abbrev pub device_records : DeviceSide Bool
device_records =
    record {
      State = DeviceEnd;
      device = λ e. e.device;
      image = λ e. e.image;
      map = λ e. e.map;
      lend = λ e image. record { device = e.device; image = image; map = e.map };
      does = device_does;
    }

-- ---- the gateway, with its package

module _ (content : List ℕ) where
  unfoldable pub gateway_does : Gateway → GatewayCall Bool → Done Gateway
  gateway_does g (GatewayCall.given supported pcp message reply) =
      let a : gateway.After = gateway.receive_of g content reply supported pcp message in
      record { state = a.gateway; says = aired a.length a.reply; number = a.number }
  gateway_does g (GatewayCall.asked reply) =
      let s : Sent = gateway.next_message_of g content reply in
      record { state = g; says = aired s.length s.buffer; number = s.number }

  abbrev pub gateway_next : Gateway → GatewayCall Bool → Gateway
  gateway_next g c = (gateway_does g c).state

  -- ---- both

  abbrev pub records : Ends
  records =
      record { Fact = Bool; fact = λ yes. yes; device = device_records; gateway = record { State = Gateway; gateway = λ g. g; does = gateway_does } }

abbrev pub World : Type 0
World = Exchange DeviceEnd Gateway
