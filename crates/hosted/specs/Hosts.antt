-- Both ends as their hosts keep them: records as bytes, image and map, and calls through the exports, with facts as bytes. Assumes nothing.
use Rattle.std.specs.Prelude.{ℕ, ◌≤◌, ◌≡◌, List, [], map, length}
use Rattle.layout_rules.specs.Layout.{device_at, device_length, gateway_at, gateway_length}
use Rattle.exports.specs.Exports.{fact, Left, Asked, DeviceGiven, GatewayGiven, device_receive_of, device_next_message_of, device_install_finished_of}
use Rattle.exports.specs.Exports.{device_give_digest_of}
use Rattle.exports.specs.Exports.{gateway_receive_of, gateway_next_message_of}
use Rattle.exports.specs.Boundary.{number_in, length_in}
use Rattle.upgrade.specs.Fold.{after}
use Rattle.upgrade.specs.Calls.{aired, DeviceCall, given, asked, finished, digest_given, GatewayCall, Call, at_device, at_gateway, Done, DeviceSide, Ends}
use Rattle.upgrade.specs.Calls.{Exchange, next}
use Rattle.upgrade.specs.Records.{DeviceEnd, records, World}
use Rattle.upgrade.specs.Claims.{number_of}

-- ---- the device's host

pub record DeviceHost : Type 0 where
  pub bytes : List ℕ
  pub image : List ℕ
  pub map : List ℕ

-- what it puts on the air is as many bytes as the answer says
unfoldable pub device_host_does : DeviceHost → DeviceCall ℕ → Done DeviceHost
device_host_does h (given supported pcp condition message reply) =
    let g : DeviceGiven = device_receive_of h.bytes h.image h.map reply supported pcp condition message in
    record {
      state = record { bytes = g.bytes; image = g.image; map = g.map };
      says = aired (length_in g.answer) g.reply;
      number = number_in g.answer;
    }
device_host_does h (asked reply) =
    let a : Asked = device_next_message_of h.bytes h.image h.map reply in
    record { state = h; says = aired (length_in a.answer) a.reply; number = number_in a.answer }
device_host_does h (finished code) =
    let l : Left = device_install_finished_of h.bytes code in
    record { state = record { bytes = l.bytes; image = h.image; map = h.map }; says = []; number = l.answer }
-- of any length: what has not 16 bytes is answered with 64
device_host_does h (digest_given digest) =
    let l : Left = device_give_digest_of h.bytes digest in
    record { state = record { bytes = l.bytes; image = h.image; map = h.map }; says = []; number = l.answer }

abbrev pub device_host_next : DeviceHost → DeviceCall ℕ → DeviceHost
device_host_next h c = (device_host_does h c).state

abbrev pub device_hosts : DeviceSide ℕ
device_hosts =
    record {
      State = DeviceHost;
      device = λ h. device_at h.bytes;
      image = λ h. h.image;
      map = λ h. h.map;
      lend = λ h image. record { bytes = h.bytes; image = image; map = h.map };
      does = device_host_does;
    }

-- ---- the gateway's host: its record's bytes, beside the package

module _ (content : List ℕ) where
  unfoldable pub gateway_host_does : List ℕ → GatewayCall ℕ → Done (List ℕ)
  gateway_host_does bytes (GatewayCall.given supported pcp message reply) =
      let g : GatewayGiven = gateway_receive_of bytes content reply supported pcp message in
      record { state = g.bytes; says = aired (length_in g.answer) g.reply; number = number_in g.answer }
  gateway_host_does bytes (GatewayCall.asked reply) =
      let a : Asked = gateway_next_message_of bytes content reply in
      record { state = bytes; says = aired (length_in a.answer) a.reply; number = number_in a.answer }

  abbrev pub gateway_host_next : List ℕ → GatewayCall ℕ → List ℕ
  gateway_host_next bytes c = (gateway_host_does bytes c).state

  -- ---- both

  abbrev pub hosts : Ends
  hosts =
      record { Fact = ℕ; fact = fact; device = device_hosts; gateway = record { State = List ℕ; gateway = gateway_at; does = gateway_host_does } }

abbrev pub Hosts : Type 0
Hosts = Exchange DeviceHost (List ℕ)

-- both record buffers have room for their layouts
pub record Fitting (h : Hosts) : Type 0 where
  pub device : device_length ≤ length h.device_end.bytes
  pub gateway : gateway_length ≤ length h.gateway

-- ---- the same over records

-- the records that stand in the bytes
abbrev pub device_seen : DeviceHost → DeviceEnd
device_seen h = record { device = device_at h.bytes; image = h.image; map = h.map }

abbrev pub seen : Hosts → World
seen h =
    record { device_end = device_seen h.device_end; gateway = gateway_at h.gateway; from_device = h.from_device; from_gateway = h.from_gateway }

-- the call over records that a host's call is
module _ {F K : Type 0} (of : F → K) where
  abbrev pub device_call_as : DeviceCall F → DeviceCall K
  device_call_as (given supported pcp condition message reply) = given (of supported) (of pcp) condition message reply
  device_call_as (asked reply) = asked reply
  device_call_as (finished code) = finished code
  device_call_as (digest_given digest) = digest_given digest

  abbrev pub gateway_call_as : GatewayCall F → GatewayCall K
  gateway_call_as (GatewayCall.given supported pcp message reply) = GatewayCall.given (of supported) (of pcp) message reply
  gateway_call_as (GatewayCall.asked reply) = GatewayCall.asked reply

  abbrev pub call_as : Call F → Call K
  call_as (at_device c) = at_device (device_call_as c)
  call_as (at_gateway c) = at_gateway (gateway_call_as c)

-- after every list of calls the buffers still have room, and the records in them are those to which the same calls lead over records
abbrev pub HostedRuns : Type 0
HostedRuns =
    (content : List ℕ) (h : Hosts) → Fitting h → (calls : List (Call ℕ)) →
    Fitting (after (next (hosts content)) h calls)
    × (seen (after (next (hosts content)) h calls) ≡ after (next (records content)) (seen h) (map (call_as fact) calls))

-- and each call is answered with the number with which the same call is answered over records
abbrev pub HostedAnswers : Type 0
HostedAnswers =
    (content : List ℕ) (h : Hosts) → Fitting h → (c : Call ℕ) →
    number_of (hosts content) h c ≡ number_of (records content) (seen h) (call_as fact c)
