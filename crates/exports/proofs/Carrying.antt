-- The record that a call left is the one that the next call finds. Assumes nothing.
use Prim.Native.Nat.{ℕ, ◌≤◌}
use mathlib.Core.Path.{◌≡◌, refl, sym, ◌∙◌, ap, subst}
use mathlib.Core.Bool.{Bool, true}
use mathlib.Core.List.{List}
use lib.Dec.{eqb, leb}
use lib.ListN.{length}
use borrow.Author.Tests.{eqb-true, eq-eqb}
use Rattle.basis.specs.Choice.{pick}
use Rattle.basis.specs.Bytes.{part}
use Rattle.basis.proofs.Choosing.{by_cases, pick_yes, and_left}
use Rattle.basis.proofs.Lists.{length_part, part_whole}
use Rattle.message.specs.Version.{good_version}
use Rattle.message.specs.Messages.{DeviceMessage, query, announce, fragment, download_reply, execute, result_reply}
use Rattle.message.specs.Messages.{Reading, found, refused, to_device}
use Rattle.message.specs.Messages.{device_row}
use Rattle.codec.specs.Codec.{read_of}
use Rattle.round_trips.proofs.RoundTrip.{device_round_trip}
use Rattle.device_record.specs.declared.Device.{Device}
use Rattle.device_record.specs.declared.Made.{Made}
use Rattle.device_record.specs.Record.{new_of}
use Rattle.device_rules.specs.declared.Finished.{Finished}
use Rattle.device_rules.specs.declared.DigestAnswer.{DigestAnswer}
use Rattle.device_rules.specs.Rules as device
use Rattle.gateway_record.specs.declared.Gateway.{Gateway}
use Rattle.gateway_record.specs.declared.Started.{Started}
use Rattle.gateway_record.specs.Record.{start_of}
use Rattle.gateway_rules.specs.Rules as gateway
use Rattle.gateway_rules.proofs.Views.{receive_keeps, receive_keeps_length}
use Rattle.layout_rules.specs.Layout.{device_at, device_length, gateway_at, gateway_length}
use Rattle.layout_rules.specs.Identity.{DeviceTexts, GatewayWhole}
use Rattle.layout_rules.proofs.Identity.{identity}
use Rattle.layout_rules.proofs.Layouts.{kept_new}
use Rattle.exports.specs.Exports.{fact, text_of, Left, DeviceGiven, GatewayGiven, device_new_of, device_receive_of, device_install_finished_of}
use Rattle.exports.specs.Exports.{device_give_digest_of, device_kept, gateway_kept, gateway_start_of, gateway_receive_of}
use Rattle.exports.specs.Boundary.{Carried}
use Rattle.exports.proofs.ExportLaws.{long_enough, device_no_digest}
use Rattle.exports.proofs.DigestLaws.{new_found, feed_found}

-- ---- version texts of 16 bytes stay so

good_length : (v : List ℕ) → good_version v ≡ true → length v ≡ 16
unfolding good_version
good_length v e = eqb-true (length v) 16 (and_left (eqb (length v) 16) _ e)

text_length : (v : List ℕ) → length (text_of v) ≡ 16
unfolding text_of
text_length v = by_cases (λ (l : List ℕ). length l ≡ 16) (λ _. length_part v 0 16) (λ _. refl)

abbrev Valid : Reading DeviceMessage → Type 0
Valid (found m) = to_device.valid m ≡ true
Valid (refused n) = Unit {0}

read_valid : (supported pcp : Bool) (bytes : List ℕ) → Valid (read_of to_device supported pcp bytes)
read_valid supported pcp bytes = at (read_of to_device supported pcp bytes) refl
  where
    at : (r : Reading DeviceMessage) → read_of to_device supported pcp bytes ≡ r → Valid r
    at (found m) e = device_round_trip.read_valid supported pcp bytes m e
    at (refused n) e = tt

module _ (d : Device) (image map reply : List ℕ) (s : DeviceTexts d) where
  P : device.After → Type 0
  P a = DeviceTexts a.device

  -- the same texts, and the same digest
  same : (e : Device) → e.running ≡ d.running → e.fields ≡ d.fields → e.expected ≡ d.expected → DeviceTexts e
  same e r f x = record { running = rw r s.running; target = rw f s.target; digest = rw x s.digest }

  handled-texts : (condition : ℕ) (r : Reading DeviceMessage) → Valid r → P (device.handle d image map reply condition r)
  unfolding P device.handle device.on_query device.on_announce device.begin device.on_fragment device.store device.on_download_reply device.on_execute
      device.on_result_reply device_row
  handled-texts condition (refused n) v = s
  handled-texts condition (found query) v = s
  handled-texts condition (found (announce f)) v =
      by_cases P
      (λ _. by_cases P (λ _. s)
      (λ _. record { running = s.running; target = good_length f.version (and_left (good_version f.version) _ v); digest = refl }))
      (λ _. s)
  handled-texts condition (found (fragment result index bytes)) v =
      by_cases P
      (λ _. by_cases P (λ _. same _ refl refl refl)
      (λ _. by_cases P (λ _. s)
      (λ _. by_cases P (λ _. same _ refl refl refl)
      (λ _. by_cases P (λ _. same _ refl refl refl) (λ _. s)))))
      (λ _. s)
  handled-texts condition (found (download_reply result)) v =
      by_cases P (λ _. same _ refl refl refl) (λ _. by_cases P (λ _. same _ refl refl refl) (λ _. s))
  handled-texts condition (found execute) v = by_cases DeviceTexts (λ _. same _ refl refl refl) (λ _. s)
  handled-texts condition (found (result_reply result)) v = by_cases P (λ _. same _ refl refl refl) (λ _. s)

  received-texts : (supported pcp : Bool) (condition : ℕ) (message : List ℕ)
      → DeviceTexts (device.receive_of d image map reply supported pcp condition message).device
  unfolding P device.receive_of
  received-texts supported pcp condition message =
      by_cases P (λ _. handled-texts condition (read_of to_device supported pcp message) (read_valid supported pcp message)) (λ _. s)

module _ (d : Device) where
  finished-texts : DeviceTexts d → (code : ℕ) → DeviceTexts (device.install_finished_of d code).device
  unfolding device.install_finished_of
  finished-texts s code =
      by_cases (λ (f : Finished). DeviceTexts f.device)
      (λ _. record { running = by_cases (λ (v : List ℕ). length v ≡ 16) (λ _. s.target) (λ _. s.running); target = s.target; digest = s.digest })
      (λ _. s)

  given-texts : DeviceTexts d → (digest : List ℕ) → length digest ≡ 16 → DeviceTexts (device.give_digest_of d digest).device
  unfolding device.give_digest_of
  given-texts s digest l =
      by_cases (λ (g : DigestAnswer). DeviceTexts g.device) (λ _. record { running = s.running; target = s.target; digest = l }) (λ _. s)

at_texts : (bytes : List ℕ) → DeviceTexts (device_at bytes)
unfolding device_at
at_texts bytes = record { running = length_part bytes 1 16; target = length_part bytes 17 16; digest = length_part bytes 45 16 }

-- ---- a record into its buffer and back

carried : (bytes : List ℕ) (e : Device) → device_length ≤ length bytes → DeviceTexts e → device_at (device_kept bytes e) ≡ e
carried bytes e room s = ap device_at (kept_new device_length _ bytes room) ∙ identity.device_kept e bytes s

gateway_carried : (bytes : List ℕ) (e : Gateway) → gateway_length ≤ length bytes → GatewayWhole e → gateway_at (gateway_kept bytes e) ≡ e
gateway_carried bytes e room w = ap gateway_at (kept_new gateway_length _ bytes room) ∙ identity.gateway_kept e bytes w

-- ---- the gateway's fields and length stay

received_whole : (g : Gateway) (content reply : List ℕ) → GatewayWhole g → (supported pcp : Bool) (message : List ℕ)
    → GatewayWhole (gateway.receive_of g content reply supported pcp message).gateway
received_whole g content reply w supported pcp message =
    let f = receive_keeps g content reply supported pcp message in
    let l = receive_keeps_length g content reply supported pcp message in
    record { target = rw f w.target; fields = rw (f, l) w.fields }

gateway_at_whole : (bytes : List ℕ) → GatewayWhole (gateway_at bytes)
unfolding gateway_at
gateway_at_whole bytes = record { target = length_part bytes 2 16; fields = refl }

-- ---- a digest of 16 bytes is taken whole

pub digest_whole : (digest : List ℕ) → length digest ≡ 16 → part digest 0 16 ≡ digest
digest_whole digest l = ap (part digest 0) (sym l) ∙ part_whole digest

-- ---- every call

made_texts : (version : List ℕ) → length version ≡ 16 → DeviceTexts (new_of version).device
unfolding new_of
made_texts version e =
    by_cases (λ (m : Made). DeviceTexts m.device) (λ _. record { running = e; target = e; digest = refl })
    (λ _. record { running = refl; target = refl; digest = refl })

started_whole : (version : List ℕ) (size : ℕ) (content : List ℕ) (checked : Bool) → length version ≡ 16
    → GatewayWhole (start_of version size content checked).gateway
unfolding start_of
started_whole version size content checked e =
    by_cases (λ (s : Started). GatewayWhole s.gateway) (λ _. record { target = e; fields = refl }) (λ _. record { target = refl; fields = refl })

-- where there is room, a call is not refused with 64
with_room : {A : Type 0} (P : A → Type 0) (need : ℕ) (bytes : List ℕ) (a b : A) → need ≤ length bytes → P a → P (pick (leb need (length bytes)) a b)
with_room P need bytes a b h p = subst P (long_enough need bytes a b h) p

pub records_carried : Carried
unfolding device_new_of device_receive_of device_install_finished_of device_give_digest_of gateway_start_of gateway_receive_of
records_carried =
    record {
      device_new = λ bytes version room e.
          with_room (λ (k : Left). device_at k.bytes ≡ (new_of (text_of version)).device) device_length bytes _ _ room
          (ap device_at (pick_yes _ _ bytes (eq-eqb _ 0 e)) ∙ carried bytes _ room (made_texts (text_of version) (text_length version)));
      device_receive = λ bytes image map reply supported pcp condition message room.
          with_room (λ (g : DeviceGiven). device_at g.bytes
          ≡ (device.receive_of (device_at bytes) image map reply (fact supported) (fact pcp) condition message).device) device_length bytes _ _ room
          (carried bytes _ room (received-texts (device_at bytes) image map reply (at_texts bytes) _ _ condition message));
      device_install_finished = λ bytes code room.
          with_room (λ (k : Left). device_at k.bytes ≡ (device.install_finished_of (device_at bytes) code).device) device_length bytes _ _ room
          (carried bytes _ room (finished-texts (device_at bytes) (at_texts bytes) code));
      device_give_digest = λ bytes digest room l.
          with_room (λ (k : Left). device_at k.bytes ≡ (device.give_digest_of (device_at bytes) digest).device) device_length bytes _ _ room
          (ap (λ (k : Left). device_at k.bytes) (pick_yes _ _ _ (eq-eqb _ 16 l))
          ∙ carried bytes _ room (given-texts (device_at bytes) (at_texts bytes) (part digest 0 16) (length_part digest 0 16))
          ∙ ap (λ (xs : List ℕ). (device.give_digest_of (device_at bytes) xs).device) (digest_whole digest l));
      device_no_digest = λ bytes digest room n. ap (λ (k : Left). device_at k.bytes) (sym (device_no_digest bytes room digest n));
      gateway_start = λ bytes version size content checked room e.
          with_room (λ (k : Left). gateway_at k.bytes ≡ (start_of (text_of version) size content (fact checked)).gateway) gateway_length bytes _ _ room
          (ap gateway_at (pick_yes _ _ bytes (eq-eqb _ 0 e)) ∙ gateway_carried bytes _ room
          (started_whole (text_of version) size content _ (text_length version)));
      gateway_receive = λ bytes content reply supported pcp message room.
          with_room (λ (g : GatewayGiven). gateway_at g.bytes
          ≡ (gateway.receive_of (gateway_at bytes) content reply (fact supported) (fact pcp) message).gateway) gateway_length bytes _ _ room
          (gateway_carried bytes _ room (received_whole (gateway_at bytes) content reply (gateway_at_whole bytes) _ _ message));
      md5_new = new_found;
      md5_feed = λ bytes piece room. feed_found bytes room piece;
    }
