-- The clean run of 01, "The gateway": each message and its reply arrive once, before the next ask. Assumes nothing.
use Rattle.std.specs.Prelude.{ℕ, ◌*◌, ◌≤◌, ◌≡◌, true, false, List, length}
use Rattle.basis.specs.Numbers.{handled, no_use}
use Rattle.basis.specs.Bytes.{same}
use Rattle.md5_rules.specs.Md5.{md5_of}
use Rattle.message.specs.Limits.{device_room, gateway_room}
use Rattle.device_record.specs.Record.{idle, map_bytes}
use Rattle.gateway_record.specs.Record as gateway
use Rattle.upgrade.specs.Fold.{after, Allowed}
use Rattle.upgrade.specs.Calls.{DeviceCall, given, asked, finished, digest_given, GatewayCall, Call, at_device, at_gateway, Ends, Both, next, May}
use Rattle.upgrade.specs.Records.{records, World}
use Rattle.upgrade.specs.Claims.{number_of, Success, reached}
use Rattle.upgrade.specs.Demand3.{Before, Ready, device_then, start}

-- some list of calls that demand 3 allows leads from the start to here
abbrev pub Reached : (e : Ends) (start here : Both e) → Type 0
Reached e start here = (calls : List (Call e.Fact)) × Allowed (next e) May start calls × (here ≡ reached e start calls)

-- digests that are given to the device, one after the other
unfoldable pub digests_given : (e : Ends) → Both e → List (List ℕ) → Both e
digests_given e = after (λ w digest. next e w (at_device (digest_given digest)))

-- Both facts are given as `affirmed`: true over records, any byte that means yes over hosts. A call made in the state w is lent the reply
-- buffer `device_reply w` or `gateway_reply w`: each call may get another.
module _ (e : Ends) (affirmed : e.Fact) (device_reply gateway_reply : Both e → List ℕ) where
  -- messages that arrive at an end; condition 0
  unfoldable pub arrive_at_device : Both e → List (List ℕ) → Both e
  arrive_at_device = after (λ w m. next e w (at_device (given affirmed affirmed 0 m (device_reply w))))

  unfoldable pub arrive_at_gateway : Both e → List (List ℕ) → Both e
  arrive_at_gateway = after (λ w m. next e w (at_gateway (GatewayCall.given affirmed affirmed m (gateway_reply w))))

  -- a message arrives and its reply, where there is one, comes back
  unfoldable pub answered_by_device : Both e → List (List ℕ) → Both e
  answered_by_device = after (λ w m.
      let c : DeviceCall e.Fact = given affirmed affirmed 0 m (device_reply w) in
      arrive_at_gateway (next e w (at_device c)) (e.device.does w.device_end c).says)

  unfoldable pub answered_by_gateway : Both e → List (List ℕ) → Both e
  answered_by_gateway = after (λ w m.
      let c : GatewayCall e.Fact = GatewayCall.given affirmed affirmed m (gateway_reply w) in
      arrive_at_device (next e w (at_gateway c)) (e.gateway.does w.gateway c).says)

  -- an end is asked once
  unfoldable pub gateway_asked : Both e → Both e
  gateway_asked w =
      let c : GatewayCall e.Fact = GatewayCall.asked (gateway_reply w) in
      answered_by_device (next e w (at_gateway c)) (e.gateway.does w.gateway c).says

  unfoldable pub device_asked : Both e → Both e
  device_asked w =
      let c : DeviceCall e.Fact = asked (device_reply w) in
      answered_by_gateway (next e w (at_device c)) (e.device.does w.device_end c).says

  -- the number with which the device answers an ask
  abbrev pub asked_number : Both e → ℕ
  asked_number w = (e.device.does w.device_end (asked (device_reply w))).number

  -- the device is asked until it has nothing to send, which is 9
  pub data UntilSilent : Both e → Both e → Type 0 where
    silent : {w : Both e} → asked_number w ≡ no_use → UntilSilent w w
    spoken : {w v : Both e} → (asked_number w ≡ no_use → ⊥) → UntilSilent (device_asked w) v → UntilSilent w v

  -- the gateway is asked once in Run, the installer reports 00, the device is asked once more
  abbrev pub ending : Both e → Both e
  ending v = device_asked (next e (gateway_asked v) (at_device (finished 0x00)))

  -- From the state `first` on the device falls silent, and whenever it has, the gateway is in Run and the rest of the run leaves it Ended with
  -- 0. Lists of calls that demand 3 allows lead from the start to both states, so its claims hold of them.
  abbrev pub SucceedsFrom : (start first : Both e) → Type 0
  SucceedsFrom start first =
      ((v : Both e) × UntilSilent first v)
      × ((v : Both e) → UntilSilent first v →
      Reached e start v
      × ((e.gateway.gateway v.gateway).phase ≡ gateway.run)
      × Reached e start (ending v)
      × Success e (ending v))

  -- the gateway is asked, and the rest follows
  abbrev pub CleanRunOf : (start : Both e) → Type 0
  CleanRunOf start = SucceedsFrom start (gateway_asked start)

  -- The same with digests (02, 2026-05): once the announcement was answered, the device is given any, of whatever value and length, and as the last
  -- one the package's, which is answered 0.
  abbrev pub CleanRunWithDigestsOf : (start : Both e) (content : List ℕ) → Type 0
  CleanRunWithDigestsOf start content =
      (others : List (List ℕ)) →
      let then : Both e = digests_given e (gateway_asked start) others in
      let call : Call e.Fact = at_device (digest_given (md5_of content)) in
      (number_of e then call ≡ handled) × SucceedsFrom start (next e then call)

-- The device starts Idle with another version, and all buffers are long enough.
pub record CleanStart (b : Before) (device_reply gateway_reply : World → List ℕ) : Type 0 where
  pub ready : Ready b
  pub device_idle : (device_then b).device.phase ≡ idle
  pub other_version : same (device_then b).device.running b.version ≡ false
  pub image_room : b.size * gateway.total_of (length b.content) b.size ≤ length (device_then b).image
  pub map_room : map_bytes (gateway.total_of (length b.content) b.size) ≤ length (device_then b).map
  pub device_room : (w : World) → device_room ≤ length (device_reply w)
  pub gateway_room : (w : World) → gateway_room ≤ length (gateway_reply w)

abbrev pub CleanRun : Type 0
CleanRun =
    (b : Before) (device_reply gateway_reply : World → List ℕ) → CleanStart b device_reply gateway_reply →
    CleanRunOf (records b.content) true device_reply gateway_reply (start b)

abbrev pub CleanRunWithDigests : Type 0
CleanRunWithDigests =
    (b : Before) (device_reply gateway_reply : World → List ℕ) → CleanStart b device_reply gateway_reply →
    CleanRunWithDigestsOf (records b.content) true device_reply gateway_reply (start b) b.content
