-- A run through the exports is the run over records that the same calls make. Assumes nothing.
use Prim.Native.Nat.{ℕ, ◌≤◌, ◌<◌}
use native.Mathlib.Omega.{arith}
use mathlib.Core.Path.{◌≡◌, refl, sym, ◌∙◌, ap}
use mathlib.Core.List.{List, ◌++◌}
use lib.ListN.{length, length-append, length-drop}
use borrow.Author.Tests.{eqb-true, eqb-false}
use Rattle.basis.specs.Bytes.{over}
use Rattle.basis.proofs.Choosing.{by_cases, pick_yes, pick_no}
use Rattle.codec.specs.Codec.{Sent}
use Rattle.device_rules.specs.declared.DigestAnswer.{DigestAnswer}
use Rattle.device_rules.specs.Rules as device
use Rattle.gateway_rules.specs.Rules as gateway
use Rattle.layout_rules.specs.Layout.{kept, device_at, device_length, gateway_at, gateway_length}
use Rattle.exports.specs.Exports.{ask_answer, fact, packed, Left, Asked, DeviceGiven, GatewayGiven, device_kept, gateway_kept, device_receive_of}
use Rattle.exports.specs.Exports.{device_next_message_of}
use Rattle.exports.specs.Exports.{device_install_finished_of, device_give_digest_of, gateway_receive_of, gateway_next_message_of}
use Rattle.exports.specs.Boundary.{number_in, length_in}
use Rattle.exports.proofs.ExportLaws.{long_enough}
use Rattle.exports.proofs.Refusals.{device_number_lem, device_ask_number, gateway_number_lem, gateway_ask_number}
use Rattle.exports.proofs.Carrying.{digest_whole, records_carried}
use Rattle.upgrade.specs.Calls.{aired, DeviceCall, given, asked, finished, digest_given, GatewayCall, Call, at_device, at_gateway, next}
use Rattle.upgrade.specs.Records.{device_digest_answer, device_next, gateway_next, records, device_does, gateway_does}
use Rattle.upgrade.proofs.Ends.{device_says, device_number, gateway_says, gateway_number}
use Rattle.hosted.specs.Hosts.{DeviceHost, device_host_next, device_seen, gateway_host_next, hosts, Hosts, device_host_does, gateway_host_does}
use Rattle.hosted.proofs.HostEnds.{device_host_says, device_host_number, gateway_host_says, gateway_host_number}
use Rattle.hosted.specs.Hosts.{Fitting, seen, device_call_as, gateway_call_as, call_as, HostedRuns, HostedAnswers}
use Rattle.hosted.proofs.Shown.{shown}

-- ---- an answer taken apart; a buffer's room

pub length_in_lem : (n l : ℕ) → n < 256 → length_in (packed n l) ≡ l
length_in_lem n l h = omega arith

number_in_lem : (n l : ℕ) → n < 256 → number_in (packed n l) ≡ n
number_in_lem n l h = omega arith

-- a record buffer keeps its room
pub kept_room : (room : ℕ) (new bytes : List ℕ) → room ≤ length bytes → room ≤ length (kept room new bytes)
unfolding kept over
kept_room room new bytes h =
    by_cases (λ (l : List ℕ). room ≤ length l) (λ _. simp (length-append, length-drop) (omega arith)) (λ _. h)

-- ---- the device's host

module _ (h : DeviceHost) where
  -- a message given, where the record has room: what the call over the record leaves
  received_is : (supported pcp condition : ℕ) (message reply : List ℕ) → device_length ≤ length h.bytes
      → let a : device.After = device.receive_of (device_at h.bytes) h.image h.map reply (fact supported) (fact pcp) condition message in
      device_receive_of h.bytes h.image h.map reply supported pcp condition message
      ≡ record {
        answer = packed a.number a.length;
        bytes = device_kept h.bytes a.device;
        image = a.image;
        map = a.map;
        reply = a.reply;
      }
  unfolding device_receive_of
  received_is supported pcp condition message reply r = sym (long_enough device_length h.bytes _ _ r)

  pub device_room : (c : DeviceCall ℕ) → device_length ≤ length h.bytes → device_length ≤ length (device_host_next h c).bytes
  unfolding device_host_does device_receive_of device_install_finished_of device_give_digest_of
  device_room (given supported pcp condition message reply) r =
      by_cases (λ (g : DeviceGiven). device_length ≤ length g.bytes) (λ _. kept_room device_length _ h.bytes r) (λ _. r)
  device_room (asked reply) r = r
  device_room (finished code) r =
      by_cases (λ (k : Left). device_length ≤ length k.bytes) (λ _. kept_room device_length _ h.bytes r) (λ _. r)
  device_room (digest_given digest) r =
      by_cases (λ (k : Left). device_length ≤ length k.bytes)
      (λ _. by_cases (λ (k : Left). device_length ≤ length k.bytes) (λ _. kept_room device_length _ h.bytes r) (λ _. r)) (λ _. r)

  pub device_next_lem : (c : DeviceCall ℕ) → device_length ≤ length h.bytes
      → device_seen (device_host_next h c) ≡ device_next (device_seen h) (device_call_as fact c)
  unfolding device_host_does device_does device_receive_of device_install_finished_of
  device_next_lem (given supported pcp condition message reply) r =
      let e = received_is supported pcp condition message reply r in
      let d = records_carried.device_receive h.bytes h.image h.map reply supported pcp condition message r in
      λ i. record { device = d i; image = (e i).image; map = (e i).map }
  device_next_lem (asked reply) r = refl
  device_next_lem (finished code) r =
      let d : device_at (device_install_finished_of h.bytes code).bytes ≡ (device.install_finished_of (device_at h.bytes) code).device =
      records_carried.device_install_finished h.bytes code r in
      λ i. record { device = d i; image = h.image; map = h.map }
  device_next_lem (digest_given digest) r =
      let d : device_at (device_give_digest_of h.bytes digest).bytes ≡ (device_digest_answer (device_at h.bytes) digest).device =
      by_cases (λ (g : DigestAnswer). device_at (device_give_digest_of h.bytes digest).bytes ≡ g.device)
      (λ t. records_carried.device_give_digest h.bytes digest r (eqb-true (length digest) 16 t))
      (λ t. records_carried.device_no_digest h.bytes digest r (eqb-false (length digest) 16 t)) in
      λ i. record { device = d i; image = h.image; map = h.map }

  pub device_says_lem : (c : DeviceCall ℕ) → device_length ≤ length h.bytes → device_host_says h c ≡ device_says (device_seen h) (device_call_as fact c)
  unfolding device_host_does device_does device_receive_of device_next_message_of
  device_says_lem (given supported pcp condition message reply) r =
      let a : device.After = device.receive_of (device_at h.bytes) h.image h.map reply (fact supported) (fact pcp) condition message in
      let e = received_is supported pcp condition message reply r in
      ap (λ (g : DeviceGiven). aired (length_in g.answer) g.reply) e
      ∙ ap (λ (k : ℕ). aired k a.reply)
      (length_in_lem a.number a.length (device_number_lem (device_at h.bytes) h.image h.map reply (fact supported) (fact pcp) condition message))
  device_says_lem (asked reply) r =
      let s : Sent = device.next_message_of (device_at h.bytes) h.image h.map reply in
      let e : device_next_message_of h.bytes h.image h.map reply ≡ ask_answer s = sym (long_enough device_length h.bytes _ _ r) in
      ap (λ (g : Asked). aired (length_in g.answer) g.reply) e
      ∙ ap (λ (k : ℕ). aired k s.buffer)
      (length_in_lem s.number s.length (device_ask_number (device_at h.bytes) h.image h.map reply))
  device_says_lem (finished code) r = refl
  device_says_lem (digest_given digest) r = refl

  pub device_number_is : (c : DeviceCall ℕ) → device_length ≤ length h.bytes → device_host_number h c ≡ device_number (device_seen h) (device_call_as fact c)
  unfolding device_host_does device_does device_receive_of device_next_message_of device_install_finished_of device_give_digest_of
  device_number_is (given supported pcp condition message reply) r =
      let a : device.After = device.receive_of (device_at h.bytes) h.image h.map reply (fact supported) (fact pcp) condition message in
      ap (λ (g : DeviceGiven). number_in g.answer) (sym (long_enough device_length h.bytes _ _ r))
      ∙ number_in_lem a.number a.length (device_number_lem (device_at h.bytes) h.image h.map reply (fact supported) (fact pcp) condition message)
  device_number_is (asked reply) r =
      let s : Sent = device.next_message_of (device_at h.bytes) h.image h.map reply in
      ap (λ (a : Asked). number_in a.answer) (sym (long_enough device_length h.bytes _ _ r))
      ∙ number_in_lem s.number s.length (device_ask_number (device_at h.bytes) h.image h.map reply)
  device_number_is (finished code) r = ap (λ (k : Left). k.answer) (sym (long_enough device_length h.bytes _ _ r))
  device_number_is (digest_given digest) r =
      by_cases (λ (g : DigestAnswer). (device_give_digest_of h.bytes digest).answer ≡ g.number)
      (λ t. ap (λ (k : Left). k.answer) (sym (long_enough device_length h.bytes _ _ r) ∙ pick_yes _ _ _ t)
      ∙ ap (λ (xs : List ℕ). (device.give_digest_of (device_at h.bytes) xs).number) (digest_whole digest (eqb-true (length digest) 16 t)))
      (λ t. ap (λ (k : Left). k.answer) (sym (long_enough device_length h.bytes _ _ r) ∙ pick_no _ _ _ t))

-- ---- the gateway's host

module _ (content bytes : List ℕ) where
  pub gateway_room : (c : GatewayCall ℕ) → gateway_length ≤ length bytes → gateway_length ≤ length (gateway_host_next content bytes c)
  unfolding gateway_host_does gateway_receive_of
  gateway_room (GatewayCall.given supported pcp message reply) r =
      by_cases (λ (g : GatewayGiven). gateway_length ≤ length g.bytes) (λ _. kept_room gateway_length _ bytes r) (λ _. r)
  gateway_room (GatewayCall.asked reply) r = r

  pub gateway_next_lem : (c : GatewayCall ℕ) → gateway_length ≤ length bytes
      → gateway_at (gateway_host_next content bytes c) ≡ gateway_next content (gateway_at bytes) (gateway_call_as fact c)
  unfolding gateway_host_does gateway_does
  gateway_next_lem (GatewayCall.given supported pcp message reply) r = records_carried.gateway_receive bytes content reply supported pcp message r
  gateway_next_lem (GatewayCall.asked reply) r = refl

  pub gateway_says_lem : (c : GatewayCall ℕ) → gateway_length ≤ length bytes
      → gateway_host_says content bytes c ≡ gateway_says content (gateway_at bytes) (gateway_call_as fact c)
  unfolding gateway_host_does gateway_does gateway_receive_of gateway_next_message_of
  gateway_says_lem (GatewayCall.given supported pcp message reply) r =
      let a : gateway.After = gateway.receive_of (gateway_at bytes) content reply (fact supported) (fact pcp) message in
      let e : gateway_receive_of bytes content reply supported pcp message
      ≡ record { answer = packed a.number a.length; bytes = gateway_kept bytes a.gateway; reply = a.reply } =
      sym (long_enough gateway_length bytes _ _ r) in
      ap (λ (g : GatewayGiven). aired (length_in g.answer) g.reply) e
      ∙ ap (λ (k : ℕ). aired k a.reply)
      (length_in_lem a.number a.length (gateway_number_lem (gateway_at bytes) content reply (fact supported) (fact pcp) message))
  gateway_says_lem (GatewayCall.asked reply) r =
      let s : Sent = gateway.next_message_of (gateway_at bytes) content reply in
      let e : gateway_next_message_of bytes content reply ≡ ask_answer s = sym (long_enough gateway_length bytes _ _ r) in
      ap (λ (g : Asked). aired (length_in g.answer) g.reply) e
      ∙ ap (λ (k : ℕ). aired k s.buffer) (length_in_lem s.number s.length (gateway_ask_number (gateway_at bytes) content reply))

  pub gateway_number_is : (c : GatewayCall ℕ) → gateway_length ≤ length bytes
      → gateway_host_number content bytes c ≡ gateway_number content (gateway_at bytes) (gateway_call_as fact c)
  unfolding gateway_host_does gateway_does gateway_receive_of gateway_next_message_of
  gateway_number_is (GatewayCall.given supported pcp message reply) r =
      let a : gateway.After = gateway.receive_of (gateway_at bytes) content reply (fact supported) (fact pcp) message in
      ap (λ (g : GatewayGiven). number_in g.answer) (sym (long_enough gateway_length bytes _ _ r))
      ∙ number_in_lem a.number a.length (gateway_number_lem (gateway_at bytes) content reply (fact supported) (fact pcp) message)
  gateway_number_is (GatewayCall.asked reply) r =
      let s : Sent = gateway.next_message_of (gateway_at bytes) content reply in
      ap (λ (a : Asked). number_in a.answer) (sym (long_enough gateway_length bytes _ _ r))
      ∙ number_in_lem s.number s.length (gateway_ask_number (gateway_at bytes) content reply)

-- ---- both

module _ (content : List ℕ) where
  pub still_fitting : (h : Hosts) (c : Call ℕ) → Fitting h → Fitting (next (hosts content) h c)
  unfolding next
  still_fitting h (at_device c) f = record { device = device_room h.device_end c f.device; gateway = f.gateway }
  still_fitting h (at_gateway c) f = record { device = f.device; gateway = gateway_room content h.gateway c f.gateway }

  pub one_call : (h : Hosts) (c : Call ℕ) → Fitting h → seen (next (hosts content) h c) ≡ next (records content) (seen h) (call_as fact c)
  unfolding next
  one_call h (at_device c) f =
      λ i. record {
        device_end = device_next_lem h.device_end c f.device i;
        gateway = gateway_at h.gateway;
        from_device = device_says_lem h.device_end c f.device i ++ h.from_device;
        from_gateway = h.from_gateway;
      }
  one_call h (at_gateway c) f =
      λ i. record {
        device_end = device_seen h.device_end;
        gateway = gateway_next_lem content h.gateway c f.gateway i;
        from_device = h.from_device;
        from_gateway = gateway_says_lem content h.gateway c f.gateway i ++ h.from_gateway;
      }

pub hosted_runs : HostedRuns
hosted_runs content h f calls =
    shown (next (hosts content)) (next (records content)) seen (call_as fact) Fitting (still_fitting content) (one_call content) calls h f

pub hosted_answers : HostedAnswers
hosted_answers content h f (at_device c) = device_number_is h.device_end c f.device
hosted_answers content h f (at_gateway c) = gateway_number_is content h.gateway c f.gateway
