-- Demand 3, the clean run, the count and the test at completion of what hosts keep, from making and start through the exports on. Assumes
-- nothing.
use Rattle.std.specs.Prelude.{ℕ, ◌*◌, ◌≤◌, ◌≡◌, true, false, List, [], map, length}
use Rattle.basis.specs.Bytes.{same}
use Rattle.message.specs.Limits.{device_room, gateway_room}
use Rattle.device_record.specs.Record.{idle, map_bytes}
use Rattle.gateway_record.specs.Record.{offer, total_of}
use Rattle.layout_rules.specs.Layout.{device_at, device_length, gateway_at, gateway_length}
use Rattle.exports.specs.Exports.{fact, text_of, device_new_of, gateway_start_of}
use Rattle.upgrade.specs.Fold.{after}
use Rattle.upgrade.specs.Calls.{DeviceCall, GatewayCall}
use Rattle.upgrade.specs.Records.{World}
use Rattle.upgrade.specs.Claims.{Demand3Of, UpgradeOf, RepeatsAgreeOf, InstallLengthOf}
use Rattle.upgrade.specs.Demand3.{Before, HeldIsPackage}
use Rattle.upgrade.specs.Clean.{CleanRunOf, CleanRunWithDigestsOf}
use Rattle.upgrade.specs.Counted.{CountOf, RoomOf}
use Rattle.upgrade.specs.Tested.{TestedOf}
use Rattle.hosted.specs.Hosts.{DeviceHost, device_host_next, device_hosts, gateway_host_next, hosts, Hosts, seen, device_call_as, gateway_call_as}

-- the device made in a buffer, with an image and a map
abbrev pub host_made : (buffer running image map : List ℕ) → DeviceHost
host_made buffer running image map = record { bytes = (device_new_of buffer running).bytes; image = image; map = map }

-- the buffer has room, and the making is answered 0
pub record HostMade (buffer running : List ℕ) : Type 0 where
  pub fits : device_length ≤ length buffer
  pub made : (device_new_of buffer running).answer ≡ 0

-- Before the start: the device made in a buffer, then any list of its calls; the gateway started in a buffer on the package, and its calls.
pub record HostedBefore : Type 0 where
  pub device_buffer : List ℕ
  pub running : List ℕ
  pub image : List ℕ
  pub map : List ℕ
  pub device_calls : List (DeviceCall ℕ)
  pub gateway_buffer : List ℕ
  pub version : List ℕ
  pub size : ℕ
  pub content : List ℕ
  pub checked : ℕ
  pub gateway_calls : List (GatewayCall ℕ)

module _ (b : HostedBefore) where
  abbrev pub device_host_then : DeviceHost
  device_host_then = after device_host_next (host_made b.device_buffer b.running b.image b.map) b.device_calls

  abbrev pub gateway_host_then : List ℕ
  gateway_host_then =
      after (gateway_host_next b.content) (gateway_start_of b.gateway_buffer b.version b.size b.content b.checked).bytes b.gateway_calls

  -- the start: nothing is on the air
  abbrev pub hosted_start : Hosts
  hosted_start = record { device_end = device_host_then; gateway = gateway_host_then; from_device = []; from_gateway = [] }

  -- the same past over records, in which Held is worked out
  abbrev pub records_before : Before
  records_before =
      record {
        running = text_of b.running;
        image = b.image;
        map = b.map;
        device_calls = map (device_call_as fact) b.device_calls;
        version = text_of b.version;
        size = b.size;
        content = b.content;
        checked = fact b.checked;
        gateway_calls = map (gateway_call_as fact) b.gateway_calls;
      }

  -- The buffers have room, making and start were answered 0, the gateway is in Offer, and Held is as 01 says.
  pub record HostedReady : Type 0 where
    pub device_made : HostMade b.device_buffer b.running
    pub gateway_fits : gateway_length ≤ length b.gateway_buffer
    pub gateway_started : (gateway_start_of b.gateway_buffer b.version b.size b.content b.checked).answer ≡ 0
    pub offering : (gateway_at gateway_host_then).phase ≡ offer
    pub held : HeldIsPackage records_before

-- Demand 3, its halves joined, no call with the number 23, and the length to be installed: of what the hosts keep.
abbrev pub HostedDemand3 : Type 0
HostedDemand3 = (b : HostedBefore) → HostedReady b → Demand3Of (hosts b.content) (hosted_start b) b.content

abbrev pub HostedUpgrade : Type 0
HostedUpgrade = (b : HostedBefore) → HostedReady b → UpgradeOf (hosts b.content) (hosted_start b) b.content

abbrev pub HostedRepeatsAgree : Type 0
HostedRepeatsAgree = (b : HostedBefore) → HostedReady b → RepeatsAgreeOf (hosts b.content) (hosted_start b)

abbrev pub HostedInstallLength : Type 0
HostedInstallLength = (b : HostedBefore) → HostedReady b → InstallLengthOf (hosts b.content) (hosted_start b) b.content

-- ---- the clean run

-- The device starts Idle with another version, and all buffers are long enough. What a call is lent may depend
-- on both records, image and map, and what is on the air.
pub record HostedCleanStart (b : HostedBefore) (device_reply gateway_reply : World → List ℕ) : Type 0 where
  pub ready : HostedReady b
  pub device_idle : (device_at (device_host_then b).bytes).phase ≡ idle
  pub other_version : same (device_at (device_host_then b).bytes).running (text_of b.version) ≡ false
  pub image_room : b.size * total_of (length b.content) b.size ≤ length (device_host_then b).image
  pub map_room : map_bytes (total_of (length b.content) b.size) ≤ length (device_host_then b).map
  pub device_room : (w : World) → device_room ≤ length (device_reply w)
  pub gateway_room : (w : World) → gateway_room ≤ length (gateway_reply w)

-- a claim of every clean run, with any byte that means yes
abbrev pub HostedClean : ((b : HostedBefore) (affirmed : ℕ) (device_reply gateway_reply : Hosts → List ℕ) → Type 0) → Type 0
HostedClean Claim =
    (b : HostedBefore) (affirmed : ℕ) (device_reply gateway_reply : World → List ℕ) → fact affirmed ≡ true →
    HostedCleanStart b device_reply gateway_reply →
    Claim b affirmed (λ h. device_reply (seen h)) (λ h. gateway_reply (seen h))

abbrev pub HostedCleanRun : Type 0
HostedCleanRun = HostedClean (λ b affirmed device_reply gateway_reply. CleanRunOf (hosts b.content) affirmed device_reply gateway_reply (hosted_start b))

abbrev pub HostedCleanRunWithDigests : Type 0
HostedCleanRunWithDigests =
    HostedClean (λ b affirmed device_reply gateway_reply.
    CleanRunWithDigestsOf (hosts b.content) affirmed device_reply gateway_reply (hosted_start b) b.content)

-- ---- the count

abbrev pub HostedCount : Type 0
HostedCount = (buffer running map : List ℕ) → HostMade buffer running → CountOf device_hosts (host_made buffer running [] map)

abbrev pub HostedRoom : Type 0
HostedRoom = (buffer running image map : List ℕ) → HostMade buffer running → RoomOf device_hosts (host_made buffer running image map)

-- ---- the test at completion

abbrev pub HostedCompletedIsTested : Type 0
HostedCompletedIsTested =
    (buffer running image map : List ℕ) → HostMade buffer running → TestedOf device_hosts (host_made buffer running image map)
