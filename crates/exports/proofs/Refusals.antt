-- Demand 1 at the boundary: any number but 0 leaves every buffer as it was, but for the phase with 23. Assumes nothing.
use Prim.Native.Nat.{ℕ, ◌<◌, ◌≤◌}
use native.Mathlib.Omega.{arith}
use mathlib.Core.Path.{◌≡◌, refl, sym, ◌∙◌, ap, subst}
use mathlib.Core.Bool.{Bool}
use mathlib.Core.List.{List}
use lib.Dec.{eqb}
use lib.ListN.{length, get_or, set}
use borrow.Author.Tests.{ne_eqb, eqb-true, eqb-false, leb-true}
use Rattle.basis.specs.Choice.{pick}
use Rattle.basis.specs.Numbers.{repeat_differs}
use Rattle.basis.specs.Bytes.{Bytes, part, over}
use Rattle.basis.proofs.Choosing.{by_cases, pick_no, refusal_among}
use Rattle.message.specs.Messages.{DeviceMessage, query, announce, fragment, download_reply, execute, result_reply, GatewayMessage, query_reply, announce_reply}
use Rattle.message.specs.Messages.{fragment_request, download_report, execute_reply, result_report, Table, Reading, found, refused, to_device, to_gateway}
use Rattle.codec.specs.Codec.{read_of, said}
use Rattle.round_trips.specs.Demand2.{RoundTrips}
use Rattle.round_trips.proofs.RoundTrip.{device_round_trip, gateway_round_trip}
use Rattle.device_record.specs.declared.Device.{Device}
use Rattle.device_record.specs.Record.{loading, failed, in_phase}
use Rattle.device_rules.specs.declared.Finished.{Finished}
use Rattle.device_rules.specs.declared.DigestAnswer.{DigestAnswer}
use Rattle.device_rules.specs.Rules as device
use Rattle.gateway_record.specs.declared.Gateway.{Gateway}
use Rattle.gateway_rules.specs.Rules as gateway
use Rattle.capture_rules.specs.Writing.{Wrote}
use Rattle.capture_rules.proofs.Written.{writing}
use Rattle.layout_rules.specs.Layout.{front_bytes, device_bytes, device_at, device_length, gateway_at, gateway_length}
use Rattle.layout_rules.proofs.Identity.{identity}
use Rattle.layout_rules.proofs.Layouts.{kept_new}
use Rattle.md5_rules.specs.declared.Md5.{Md5}
use Rattle.md5_layout.specs.Layout.{Kept, state_kept}
use Rattle.exports.specs.Exports.{fact, packed, Left, Asked, DeviceGiven, GatewayGiven, ask_answer, device_new_of, device_receive_of, device_next_message_of}
use Rattle.exports.specs.Exports.{device_install_finished_of, device_give_digest_of, device_kept, gateway_kept, gateway_start_of, gateway_receive_of}
use Rattle.exports.specs.Exports.{gateway_next_message_of}
use Rattle.exports.specs.Captures.{capture_write_of}
use Rattle.exports.specs.Digests.{left, digest_written, md5_digest_of, md5_new_of, md5_feed_of, md5_finish_of}
use Rattle.exports.specs.Boundary.{number_in, length_in, Refused, LeftAlone, Demand1}

-- ---- refusals have numbers below 256, and all but one of them leave the record alone

abbrev Plain : ℕ → Type 0
Plain n = (n < 256) × (n ≡ repeat_differs → ⊥)

abbrev Small : {M : Type 0} → Reading M → Type 0
Small (found m) = Unit {0}
Small (refused n) = Plain n

read_small : (t : Table) → RoundTrips t → (supported pcp : Bool) (bytes : List ℕ) → Small (read_of t supported pcp bytes)
read_small t trip supported pcp bytes = at (read_of t supported pcp bytes) refl
  where
    at : (r : Reading t.Message) → read_of t supported pcp bytes ≡ r → Small r
    at (found m) e = tt
    at (refused n) e = omega (arith, trip.refused_number supported pcp bytes n e)

-- ---- a record that a refused call puts back

device_back : (bytes : List ℕ) → Bytes bytes → device_length ≤ length bytes → device_kept bytes (device_at bytes) ≡ bytes
device_back bytes b room = kept_new device_length _ bytes room ∙ identity.device_same bytes b room

-- with another phase
device_phase : (bytes : List ℕ) (phase : ℕ) → Bytes bytes → device_length ≤ length bytes
    → device_kept bytes (in_phase phase (device_at bytes)) ≡ set bytes 0 phase
unfolding front_bytes device_bytes over
device_phase bytes phase b room =
    kept_new device_length (device_bytes (in_phase phase (device_at bytes))) bytes room
    ∙ ap (λ (l : List ℕ). set l 0 phase) (identity.device_same bytes b room)

gateway_back : (bytes : List ℕ) → Bytes bytes → gateway_length ≤ length bytes → gateway_kept bytes (gateway_at bytes) ≡ bytes
gateway_back bytes b room = kept_new gateway_length _ bytes room ∙ identity.gateway_same bytes b room

-- a making or a start that is refused
unmade : (number : ℕ) (new bytes : List ℕ) → Refused number → pick (eqb number 0) new bytes ≡ bytes
unmade number new bytes h = pick_no _ _ _ (ne_eqb number 0 (λ e. h (omega arith)))

-- ---- a message is given

module _ (d : Device) (image map reply : List ℕ) where
  pub data DeviceOutcome (a : device.After) : Type 0 where
    done : a.number ≡ 0 → DeviceOutcome a
    declined : (n : ℕ) → Plain n → a ≡ device.refuse d image map reply n → DeviceOutcome a
    differed : d.phase ≡ loading → a ≡ device.differ d image map reply → DeviceOutcome a

  repeat-small : (index : ℕ) (bytes : List ℕ) → device.repeat_refusal d.fields d.last index image bytes < 256
  unfolding device.repeat_refusal
  repeat-small index bytes = by_cases (λ (n : ℕ). n < 256) (λ _. omega arith) (λ _. omega arith)

  fragment-small : (index : ℕ) (bytes : List ℕ) → device.fragment_refusal d.fields d.last index image map bytes < 256
  unfolding device.fragment_refusal
  fragment-small index bytes = refusal_among (λ n. n < 256) _ (omega arith) (omega arith, (omega arith, (repeat-small index bytes, tt)))

  device-handled : (condition : ℕ) (r : Reading DeviceMessage) → Small r → DeviceOutcome (device.handle d image map reply condition r)
  unfolding device.handle device.on_query device.on_announce device.begin device.on_fragment device.store device.on_download_reply
      device.on_execute device.on_result_reply
  device-handled condition (refused n) small = declined n small refl
  device-handled condition (found query) small = done refl
  device-handled condition (found (announce f)) small =
      by_cases DeviceOutcome (λ _. by_cases DeviceOutcome (λ _. done refl) (λ _. done refl)) (λ _. done refl)
  device-handled condition (found (fragment result index bytes)) small =
      by_cases DeviceOutcome
      (λ p. by_cases DeviceOutcome (λ _. done refl)
      (λ _. by_cases DeviceOutcome (λ _. done refl)
      (λ _. by_cases DeviceOutcome (λ _. done refl)
      (λ _. by_cases DeviceOutcome (λ _. differed (eqb-true d.phase loading p) refl)
      (λ e. declined _ (fragment-small index bytes, eqb-false _ repeat_differs e) refl)))))
      (λ _. declined 9 (omega arith) refl)
  device-handled condition (found (download_reply result)) small =
      by_cases DeviceOutcome (λ _. done refl) (λ _. by_cases DeviceOutcome (λ _. done refl) (λ _. declined 9 (omega arith) refl))
  device-handled condition (found execute) small = done refl
  device-handled condition (found (result_reply result)) small = by_cases DeviceOutcome (λ _. done refl) (λ _. declined 9 (omega arith) refl)

  pub device_outcome : (supported pcp : Bool) (condition : ℕ) (message : List ℕ)
      → DeviceOutcome (device.receive_of d image map reply supported pcp condition message)
  unfolding device.receive_of
  device_outcome supported pcp condition message =
      by_cases DeviceOutcome
      (λ _. device-handled condition (read_of to_device supported pcp message) (read_small to_device device_round_trip supported pcp message))
      (λ _. declined _ (refusal_among Plain _ (omega arith) (omega arith)) refl)

  pub device_number_lem : (supported pcp : Bool) (condition : ℕ) (message : List ℕ)
      → (device.receive_of d image map reply supported pcp condition message).number < 256
  device_number_lem supported pcp condition message = at _ (device_outcome supported pcp condition message)
    where
      at : (a : device.After) → DeviceOutcome a → a.number < 256
      at a (done e) = omega arith
      at a (declined n small e) = rw e small.0
      at a (differed p e) = rw e (omega arith)

module _ (g : Gateway) (content reply : List ℕ) where
  pub data GatewayOutcome (a : gateway.After) : Type 0 where
    done : a.number ≡ 0 → GatewayOutcome a
    declined : (n : ℕ) → n < 256 → a ≡ gateway.refuse g content reply n → GatewayOutcome a

  gateway-handled : (r : Reading GatewayMessage) → Small r → GatewayOutcome (gateway.handle g content reply r)
  unfolding gateway.handle gateway.on_query_reply gateway.on_announce_reply gateway.on_fragment_request gateway.on_download_report gateway.on_execute_reply
      gateway.on_result_report
  gateway-handled (refused n) small = declined n small.0 refl
  gateway-handled (found (query_reply result version)) small = by_cases GatewayOutcome (λ _. done refl) (λ _. declined 9 (omega arith) refl)
  gateway-handled (found (announce_reply result)) small = by_cases GatewayOutcome (λ _. done refl) (λ _. declined 9 (omega arith) refl)
  gateway-handled (found (fragment_request version index)) small = done refl
  gateway-handled (found (download_report result)) small =
      by_cases GatewayOutcome (λ _. done refl) (λ _. by_cases GatewayOutcome (λ _. done refl) (λ _. done refl))
  gateway-handled (found (execute_reply result)) small = by_cases GatewayOutcome (λ _. done refl) (λ _. declined 9 (omega arith) refl)
  gateway-handled (found (result_report result version)) small = by_cases GatewayOutcome (λ _. done refl) (λ _. done refl)

  pub gateway_outcome : (supported pcp : Bool) (message : List ℕ) → GatewayOutcome (gateway.receive_of g content reply supported pcp message)
  unfolding gateway.receive_of
  gateway_outcome supported pcp message =
      by_cases GatewayOutcome
      (λ _. gateway-handled (read_of to_gateway supported pcp message) (read_small to_gateway gateway_round_trip supported pcp message))
      (λ _. declined _ (refusal_among (λ n. n < 256) _ (omega arith) (omega arith)) refl)

  pub gateway_number_lem : (supported pcp : Bool) (message : List ℕ) → (gateway.receive_of g content reply supported pcp message).number < 256
  gateway_number_lem supported pcp message = at _ (gateway_outcome supported pcp message)
    where
      at : (a : gateway.After) → GatewayOutcome a → a.number < 256
      at a (done e) = omega arith
      at a (declined n small e) = rw e small

-- ---- the next message is asked for

module _ (t : Table) (reply : List ℕ) where
  Unsaid : Asked → Type 0
  Unsaid a = Refused a.answer → (length_in a.answer ≡ 0) × (a.reply ≡ reply)

  said-refused : (r : Reading t.Message) → Small r → Unsaid (ask_answer (said t r reply))
  unfolding Unsaid said
  said-refused (found m) small h = absurd (h (omega arith))
  said-refused (refused n) small h = (omega arith, refl)

  said-number : (r : Reading t.Message) → Small r → (said t r reply).number < 256
  unfolding said
  said-number (found m) small = omega arith
  said-number (refused n) small = small.0

-- behind a guard, what there is to say, or a number below 256
guarded_small : {M : Type 0} (n : ℕ) (r : Reading M) → Plain n → Small r → Small (pick (eqb n 0) r (refused n))
guarded_small n r h small = by_cases Small (λ _. small) (λ _. h)

module _ (d : Device) (image map reply : List ℕ) where
  device-wanted : Small (device.wanted d map)
  unfolding device.wanted
  device-wanted =
      by_cases Small (λ _. by_cases Small (λ _. tt) (λ _. omega arith))
      (λ _. by_cases Small (λ _. tt) (λ _. by_cases Small (λ _. tt) (λ _. by_cases Small (λ _. tt) (λ _. omega arith))))

  device-ask-refused : Unsaid to_gateway reply (ask_answer (device.next_message_of d image map reply))
  unfolding device.next_message_of
  device-ask-refused =
      said-refused to_gateway reply _
      (guarded_small _ (device.wanted d map) (refusal_among Plain _ (omega arith) (omega arith)) device-wanted)

  pub device_ask_number : (device.next_message_of d image map reply).number < 256
  unfolding device.next_message_of
  device_ask_number =
      said-number to_gateway reply _
      (guarded_small _ (device.wanted d map) (refusal_among Plain _ (omega arith) (omega arith)) device-wanted)

module _ (g : Gateway) (content reply : List ℕ) where
  gateway-wanted : Small (gateway.wanted g)
  unfolding gateway.wanted
  gateway-wanted = by_cases Small (λ _. tt) (λ _. by_cases Small (λ _. tt) (λ _. by_cases Small (λ _. tt) (λ _. omega arith)))

  gateway-ask-refused : Unsaid to_device reply (ask_answer (gateway.next_message_of g content reply))
  unfolding gateway.next_message_of
  gateway-ask-refused =
      said-refused to_device reply _
      (guarded_small _ (gateway.wanted g) (refusal_among Plain _ (omega arith) (omega arith)) gateway-wanted)

  pub gateway_ask_number : (gateway.next_message_of g content reply).number < 256
  unfolding gateway.next_message_of
  gateway_ask_number =
      said-number to_device reply _
      (guarded_small _ (gateway.wanted g) (refusal_among Plain _ (omega arith) (omega arith)) gateway-wanted)

-- ---- every call

-- a record buffer after a call that answers with a number alone
Unkept : (bytes : List ℕ) → Left → Type 0
Unkept bytes k = Refused k.answer → k.bytes ≡ bytes

DeviceUntouched : (bytes image map reply : List ℕ) → DeviceGiven → Type 0
DeviceUntouched bytes image map reply g =
    LeftAlone g.answer → (length_in g.answer ≡ 0) × (g.bytes ≡ bytes) × (g.image ≡ image) × (g.map ≡ map) × (g.reply ≡ reply)

-- 23: the phase alone
DeviceFailed : (bytes image map reply : List ℕ) → DeviceGiven → Type 0
DeviceFailed bytes image map reply g =
    number_in g.answer ≡ repeat_differs
    → (get_or bytes 0 0 ≡ loading)
    × (length_in g.answer ≡ 0) × (g.bytes ≡ set bytes 0 failed) × (g.image ≡ image) × (g.map ≡ map) × (g.reply ≡ reply)

-- what a call leaves through bytes
abbrev given_by : (bytes : List ℕ) → device.After → DeviceGiven
given_by bytes a =
    record { answer = packed a.number a.length; bytes = device_kept bytes a.device; image = a.image; map = a.map; reply = a.reply }

device_untouched : (bytes image map reply : List ℕ) → Bytes bytes → device_length ≤ length bytes → (a : device.After)
    → DeviceOutcome (device_at bytes) image map reply a → DeviceUntouched bytes image map reply (given_by bytes a)
unfolding DeviceUntouched
device_untouched bytes image map reply b room a (done e) h = absurd (h.0 (omega arith))
device_untouched bytes image map reply b room a (declined n small e) h =
    rw e (omega arith, device_back bytes b room, refl, refl, refl)
device_untouched bytes image map reply b room a (differed p e) h = absurd (h.1 (rw e (omega arith)))

phase_at : (bytes : List ℕ) → get_or bytes 0 0 ≡ (device_at bytes).phase
unfolding device_at
phase_at bytes = refl

device_failed : (bytes image map reply : List ℕ) → Bytes bytes → device_length ≤ length bytes → (a : device.After)
    → DeviceOutcome (device_at bytes) image map reply a → DeviceFailed bytes image map reply (given_by bytes a)
unfolding DeviceFailed
device_failed bytes image map reply b room a (done e) h = absurd (omega arith)
device_failed bytes image map reply b room a (declined n small e) h =
    absurd (small.1 (let k : number_in (packed n 0) ≡ repeat_differs = rw e at h in omega arith))
device_failed bytes image map reply b room a (differed p e) h = rw e (phase_at bytes ∙ p, omega arith, device_phase bytes failed b room, refl, refl, refl)

GatewayUntouched : (bytes reply : List ℕ) → GatewayGiven → Type 0
GatewayUntouched bytes reply g = Refused g.answer → (length_in g.answer ≡ 0) × (g.bytes ≡ bytes) × (g.reply ≡ reply)

gateway_untouched : (bytes content reply : List ℕ) → Bytes bytes → gateway_length ≤ length bytes → (a : gateway.After)
    → GatewayOutcome (gateway_at bytes) content reply a
    → GatewayUntouched bytes reply
    (record { answer = packed a.number a.length; bytes = gateway_kept bytes a.gateway; reply = a.reply })
unfolding GatewayUntouched
gateway_untouched bytes content reply b room a (done e) h = absurd (h (omega arith))
gateway_untouched bytes content reply b room a (declined n small e) h =
    subst (λ (a : gateway.After). Refused (packed a.number a.length) → (length_in (packed a.number a.length) ≡ 0)
    × (gateway_kept bytes a.gateway ≡ bytes) × (a.reply ≡ reply)) (sym e)
    (λ h. (omega arith, gateway_back bytes b room, refl)) h

-- the record, where a call is refused

device_returned : (d : Device) (image map reply : List ℕ) (a : device.After) → DeviceOutcome d image map reply a → (a.number ≡ 0 → ⊥)
    → (a.number ≡ repeat_differs → ⊥) → a ≡ device.refuse d image map reply a.number
device_returned d image map reply a (done e) h k = absurd (h e)
device_returned d image map reply a (declined n small e) h k =
    e ∙ ap (device.refuse d image map reply) (sym (ap (λ (x : device.After). x.number) e))
device_returned d image map reply a (differed p e) h k = absurd (k (ap (λ (x : device.After). x.number) e))

device_returned_failed : (d : Device) (image map reply : List ℕ) (a : device.After) → DeviceOutcome d image map reply a → a.number ≡ repeat_differs
    → (d.phase ≡ loading) × (a ≡ device.differ d image map reply)
device_returned_failed d image map reply a (done e) h = absurd (omega arith)
device_returned_failed d image map reply a (declined n small e) h = absurd (small.1 (sym (ap (λ (x : device.After). x.number) e) ∙ h))
device_returned_failed d image map reply a (differed p e) h = (p, e)

gateway_returned : (g : Gateway) (content reply : List ℕ) (a : gateway.After) → GatewayOutcome g content reply a → (a.number ≡ 0 → ⊥)
    → a ≡ gateway.refuse g content reply a.number
gateway_returned g content reply a (done e) h = absurd (h e)
gateway_returned g content reply a (declined n small e) h =
    e ∙ ap (gateway.refuse g content reply) (sym (ap (λ (x : gateway.After). x.number) e))

finished_returned : (d : Device) (code : ℕ) → ((device.install_finished_of d code).number ≡ 0 → ⊥) → (device.install_finished_of d code).device ≡ d
unfolding device.install_finished_of
finished_returned d code =
    by_cases (λ (f : Finished). (f.number ≡ 0 → ⊥) → f.device ≡ d) (λ _ h. absurd (h refl)) (λ _ _. refl)

digest_returned : (d : Device) (digest : List ℕ) → ((device.give_digest_of d digest).number ≡ 0 → ⊥) → (device.give_digest_of d digest).device ≡ d
unfolding device.give_digest_of
digest_returned d digest = by_cases (λ (g : DigestAnswer). (g.number ≡ 0 → ⊥) → g.device ≡ d) (λ _ h. absurd (h refl)) (λ _ _. refl)

-- a state's buffer, and a digest's
state_untouched : (bytes : List ℕ) (s : Md5) → Unkept bytes (left (state_kept bytes s))
unfolding Unkept
state_untouched bytes s = by_cases (λ (k : Kept). Unkept bytes (left k)) (λ _ h. absurd (h (omega arith))) (λ _ h. refl)

digest_untouched : (digest new : List ℕ) → Unkept digest (digest_written digest new)
unfolding Unkept
digest_untouched digest new = by_cases (Unkept digest) (λ _ h. absurd (h (omega arith))) (λ _ h. refl)

pub demand_1 : Demand1
unfolding device_new_of device_receive_of device_next_message_of device_install_finished_of device_give_digest_of gateway_start_of gateway_receive_of
    gateway_next_message_of capture_write_of md5_digest_of md5_new_of md5_feed_of md5_finish_of Unkept Unsaid DeviceUntouched DeviceFailed GatewayUntouched
demand_1 =
    record {
      device_new = λ bytes version. by_cases (Unkept bytes) (λ _ h. unmade _ _ bytes h) (λ _ h. refl);
      device_receive = λ bytes image map reply supported pcp condition message b.
          by_cases (DeviceUntouched bytes image map reply)
          (λ t. device_untouched bytes image map reply b (leb-true _ _ t) _ (device_outcome (device_at bytes) image map reply _ _ condition message))
          (λ _ h. (omega arith, refl, refl, refl, refl));
      device_repeat_differs = λ bytes image map reply supported pcp condition message b.
          by_cases (DeviceFailed bytes image map reply)
          (λ t. device_failed bytes image map reply b (leb-true _ _ t) _ (device_outcome (device_at bytes) image map reply _ _ condition message))
          (λ _ h. absurd (omega arith));
      device_next_message = λ bytes image map reply.
          by_cases (Unsaid to_gateway reply) (λ _. device-ask-refused (device_at bytes) image map reply) (λ _ h. (omega arith, refl));
      device_install_finished = λ bytes code b.
          by_cases (Unkept bytes)
          (λ t h. ap (device_kept bytes) (finished_returned (device_at bytes) code (λ z. h (omega arith))) ∙ device_back bytes b (leb-true _ _ t))
          (λ _ h. refl);
      device_give_digest = λ bytes digest b.
          by_cases (Unkept bytes)
          (λ t. by_cases (Unkept bytes)
          (λ _ h. ap (device_kept bytes) (digest_returned (device_at bytes) (part digest 0 16) (λ z. h (omega arith))) ∙ device_back bytes b (leb-true _ _ t))
          (λ _ h. refl))
          (λ _ h. refl);
      gateway_start = λ bytes version size content checked. by_cases (Unkept bytes) (λ _ h. unmade _ _ bytes h) (λ _ h. refl);
      gateway_receive = λ bytes content reply supported pcp message b.
          by_cases (GatewayUntouched bytes reply)
          (λ t. gateway_untouched bytes content reply b (leb-true _ _ t) _ (gateway_outcome (gateway_at bytes) content reply _ _ message))
          (λ _ h. (omega arith, refl, refl));
      gateway_next_message = λ bytes content reply.
          by_cases (Unsaid to_device reply) (λ _. gateway-ask-refused (gateway_at bytes) content reply) (λ _ h. (omega arith, refl));
      capture_write = λ toward message buffer at h. ap (λ (w : Wrote). w.buffer) (writing.refused (fact toward) message buffer at (λ e. h (omega arith)));
      md5_digest = λ bytes digest. digest_untouched digest _;
      md5_new = λ bytes. state_untouched bytes _;
      md5_feed = λ bytes piece. state_untouched bytes _;
      md5_finish = λ bytes digest. by_cases (Unkept digest) (λ _. digest_untouched digest _) (λ _ h. refl);
      device_record = λ d image map reply supported pcp condition message.
          device_returned d image map reply _ (device_outcome d image map reply supported pcp condition message);
      device_record_repeat_differs = λ d image map reply supported pcp condition message.
          device_returned_failed d image map reply _ (device_outcome d image map reply supported pcp condition message);
      device_finished_record = finished_returned;
      device_digest_record = digest_returned;
      gateway_record = λ g content reply supported pcp message.
          gateway_returned g content reply _ (gateway_outcome g content reply supported pcp message);
    }
