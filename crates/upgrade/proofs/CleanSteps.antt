-- The exchanges of a clean run, one after the other, on records written out. Assumes nothing.
use Prim.Native.Nat.{ℕ, ◌+◌, ◌*◌, ◌≤◌, ◌<◌}
use native.Mathlib.Omega.{arith}
use mathlib.Core.Path.{◌≡◌, refl, ◌∙◌, ap}
use mathlib.Core.Bool.{Bool, true, false}
use mathlib.Core.List.{List, [], ◌∷◌}
use lib.Dec.{eqb}
use lib.ListN.{length}
use borrow.Author.Tests.{le-leb, lt-ltb, le-ltb, eq-eqb, ne_eqb, eqb-true, eqb-false}
use Rattle.basis.specs.Choice.{pick, refusal, one_of}
use Rattle.basis.specs.Bytes.{same, patched}
use Rattle.basis.proofs.Choosing.{by_cases, pick_no, and_both}
use Rattle.basis.proofs.Lists.{same_refl}
use Rattle.message.specs.Limits.{size_max, is_word}
use Rattle.message.specs.Messages.{announce, fragment, download_reply, execute, result_reply, fragment_ok, announce_reply, fragment_request}
use Rattle.message.specs.Messages.{download_report, execute_reply, result_report, install_code, found, refused, to_gateway, device_row, gateway_row}
use Rattle.message.specs.Messages.{to_device}
use Rattle.codec.specs.Codec.{said}
use Rattle.message.specs.declared.Fields.{Fields}
use Rattle.device_record.specs.declared.Device.{Device}
use Rattle.device_record.specs.declared.Expected.{Expected}
use Rattle.device_record.specs.Record as device
use Rattle.bitmap.specs.Bitmap.{mark}
use Rattle.device_rules.specs.declared.DigestAnswer.{DigestAnswer}
use Rattle.device_rules.specs.Rules as device-rules
use Rattle.device_rules.proofs.Tested.{new_one}
use Rattle.device_rules.proofs.Standing.{standing}
use Rattle.device_rules.proofs.Sound.{sound_record}
use Rattle.gateway_record.specs.Record as gateway
use Rattle.gateway_rules.specs.Decisions as decisions
use Rattle.gateway_rules.specs.Rules as gateway-rules
use Rattle.gateway_record.proofs.Package.{stretch_fits}
use Rattle.upgrade.specs.Calls.{finished, digest_given, at_device, next}
use Rattle.upgrade.specs.Records.{DeviceEnd, device_digest_answer, World, records, device_does}
use Rattle.upgrade.specs.Clean.{digests_given, asked_number}
use Rattle.upgrade.proofs.Count.{any, Fine}
use Rattle.upgrade.proofs.Ends.{device_number}
use Rattle.upgrade.proofs.CleanSetting.{Setting, total, fields, gateway_in, end_in, loading_at, begun_with, updated_in, some, size_most, total_fits}
use Rattle.upgrade.proofs.CleanSetting.{total_ok_lem}
use Rattle.upgrade.proofs.CleanCalls.{left, At, Spoke, aired_message, asks_gateway, device_takes, gateway_takes, device_number_lem, device_then_lem}
use Rattle.upgrade.proofs.CleanCalls.{device_exchange, gateway_exchange}
use Rattle.upgrade.proofs.CleanLoad.{Front, lowest, new, fragment_some, fragment_full, complete}

-- an Idle device with another version and room takes an announcement up
begins : (d : Device) (image map reply : List ℕ) (f : Fields) → d.phase ≡ device.idle → same f.version d.running ≡ false
    → f.size * f.total ≤ length image → device.map_bytes f.total ≤ length map
    → device-rules.on_announce d image map reply 0 f ≡ device-rules.begin d image map reply f
unfolding device-rules.on_announce device-rules.announce_result device-rules.resumes device.holding pick
begins d image map reply f idle another h k =
    rw (idle, another, le-ltb (length image) (f.size * f.total) h, le-ltb (length map) (device.map_bytes f.total) k)

module _ (s : Setting) where
  -- ---- the announcement

  taken-up : (reply : List ℕ) → device_takes s.first (announce (fields s)) reply
      ≡ device-rules.begin s.first.device s.first.image s.first.map reply (fields s)
  unfolding device-rules.handle
  taken-up reply = begins s.first.device s.first.image s.first.map reply (fields s) s.idle s.another s.image_room s.map_room

  pub announced : (w : World) → At w s.first (gateway_in s gateway.offer)
      → At (asks_gateway s w) (begun_with s device.no_digest) (gateway_in s gateway.serve)
  unfolding device-rules.begin gateway-rules.wanted gateway-rules.handle gateway-rules.on_announce_reply device_row gateway_row one_of pick
  announced w here =
      gateway_exchange s w s.first gateway.offer here refl (announce (fields s)) (announce_reply 0x00)
      refl (and_both s.version_good (and_both s.size_ok (and_both (total_ok_lem s) s.code_word))) (λ reply. ap left (taken-up reply))
      (λ reply. rw (taken-up reply) (aired_message to_gateway (announce_reply 0x00) reply)) refl (λ _. refl)

  -- ---- a digest given before the first fragment

  -- one of 16 bytes is expected from then on
  digest-taken : (x : Expected) (digest : List ℕ) → Fine (begun_with s x) → length digest ≡ 16
      → device_digest_answer (begun_with s x).device digest ≡ record { number = 0; device = (begun_with s (device.digest_set digest)).device }
  unfolding device-rules.give_digest_of refusal pick
  digest-taken x digest sound l =
      let e : DeviceEnd = begun_with s x in
      rw (eq-eqb (length digest) 16 l, sound_record (standing any) e.device e.image e.map sound)

  module _ (w : World) (x : Expected) (here : At w (begun_with s x) (gateway_in s gateway.serve)) (digest : List ℕ) where
    pub digest_number : length digest ≡ 16 → device_number w.device_end (digest_given digest) ≡ 0
    unfolding device_does
    digest_number l =
        ap (λ (e : DeviceEnd). device_number e (digest_given digest)) here.device_is
        ∙ ap (λ (g : DigestAnswer). g.number) (digest-taken x digest here.sound l)

    digest-leads : (y : Expected) → (device_digest_answer (begun_with s x).device digest).device ≡ (begun_with s y).device
        → At (next (records s.content) w (at_device (digest_given digest))) (begun_with s y) (gateway_in s gateway.serve)
    unfolding device_does
    digest-leads y e =
        device_then_lem s w here (digest_given digest) (ap (λ (d : Device). record {
          device = d;
          image = (begun_with s x).image;
          map = (begun_with s x).map;
        }) e)

    pub digest_expected : length digest ≡ 16
        → At (next (records s.content) w (at_device (digest_given digest))) (begun_with s (device.digest_set digest)) (gateway_in s gateway.serve)
    digest_expected l = digest-leads (device.digest_set digest) (ap (λ (g : DigestAnswer). g.device) (digest-taken x digest here.sound l))

  -- the device goes on to load, whichever digest is then expected
  abbrev pub Begun : World → Type 0
  Begun w = (x : Expected) × At w (begun_with s x) (gateway_in s gateway.serve)

  digest-begun : (w : World) (digest : List ℕ) → Begun w → Begun (next (records s.content) w (at_device (digest_given digest)))
  digest-begun w digest (x, here) = at (eqb (length digest) 16) refl
    where
      at : (t : Bool) → eqb (length digest) 16 ≡ t → Begun (next (records s.content) w (at_device (digest_given digest)))
      at true e = (device.digest_set digest, digest_expected w x here digest (eqb-true (length digest) 16 e))
      at false e = (x, digest-leads w x here digest x (ap (λ (g : DigestAnswer). g.device) (pick_no _ _ _ e)))

  pub digests_begun : (digests : List (List ℕ)) (w : World) → Begun w → Begun (digests_given (records s.content) w digests)
  unfolding digests_given
  digests_begun [] w g = g
  digests_begun (d ∷ ds) w g = digests_begun ds (next (records s.content) w (at_device (digest_given d))) (digest-begun w d g)

  -- ---- a fragment

  module _ (k : ℕ) (image map : List ℕ) (front : Front s.content s.size (some s) k image map) (more : k < total s) where
    abbrev bytes : List ℕ
    bytes = gateway.fragment_of s.content s.size k

    abbrev filled : List ℕ
    filled = patched (k * s.size) bytes image

    abbrev loading : DeviceEnd
    loading = loading_at s k image map

    abbrev storing : (reply : List ℕ) → device-rules.After
    storing reply = device-rules.store loading.device image map reply k bytes

    requests : device-rules.wanted loading.device map ≡ found (fragment_request s.version k)
    unfolding device-rules.wanted pick
    requests = rw (lowest s.content s.size (some s) k image map front more, lt-ltb k (total s) more)

    served : (reply : List ℕ) → gateway_takes s gateway.serve (fragment_request s.version k) reply
        ≡ gateway-rules.replied (gateway_in s gateway.serve) s.content reply (gateway_in s gateway.serve) (fragment 0x00 k bytes)
    unfolding gateway-rules.handle gateway-rules.on_fragment_request gateway-rules.fragment_reply decisions.fragment_result decisions.serving pick
    served reply = rw (same_refl s.version, lt-ltb k (total s) more)

    ranged : 1 ≤ length bytes
    ranged = fragment_some s.content s.size (some s) k image map front more

    long : device-rules.fragment_length (fields s) k (length bytes) ≡ true
    unfolding device-rules.fragment_length
    long =
        by_cases (λ (t : Bool). t ≡ true) (λ _. and_both (le-leb 1 (length bytes) ranged)
        (le-leb (length bytes) s.size (stretch_fits s.content s.size k)))
        (λ n. eq-eqb (length bytes) s.size (fragment_full s.content s.size (some s) k image map front more
        (omega (arith, eqb-false (k + 1) (total s) n))))

    -- neither past the last, nor of a wrong length, nor stored already
    tested : device-rules.fragment_refusal (fields s) loading.device.last k image map bytes ≡ 0
    tested = new_one (fields s) loading.device.last k image map bytes more long (new s.content s.size (some s) k image map front more)

    stored : (reply : List ℕ) → device_takes loading (fragment 0x00 k bytes) reply ≡ storing reply
    unfolding device-rules.handle device-rules.on_fragment pick
    stored reply = rw tested

    fragment-valid : to_device.valid (fragment 0x00 k bytes) ≡ true
    unfolding device_row fragment_ok is_word pick
    fragment-valid =
        and_both (lt-ltb k 65536 (omega (arith, total_fits s)))
        (and_both (le-leb 1 (length bytes) ranged) (le-leb (length bytes) size_max (omega (arith, stretch_fits s.content s.size k, size_most s))))

    module _ (w : World) (here : At w loading (gateway_in s gateway.serve)) where
      fetched : {d : DeviceEnd} → ((reply : List ℕ) → left (storing reply) ≡ d) → Spoke s w d (gateway_in s gateway.serve)
      unfolding gateway_row is_word
      fetched t =
          device_exchange s w loading gateway.serve here refl (fragment_request s.version k) (fragment 0x00 k bytes) requests
          (and_both s.version_good (lt-ltb k 65536 (omega (arith, total_fits s)))) served fragment-valid (λ reply. ap left (stored reply) ∙ t reply)

      -- one before the last, and the last
      pub fetched_one : k + 1 < total s → Spoke s w (loading_at s (k + 1) filled (mark k map)) (gateway_in s gateway.serve)
      unfolding device-rules.store device-rules.completion pick
      fetched_one h = fetched after
        where
          after : (reply : List ℕ) → left (storing reply) ≡ loading_at s (k + 1) filled (mark k map)
          after reply = rw (ne_eqb (k + 1) (total s) (λ e. omega arith))

      pub fetched_last : k + 1 ≡ total s → Spoke s w (end_in s device.loaded (k + 1) (length bytes) filled (mark k map)) (gateway_in s gateway.serve)
      unfolding device-rules.store device-rules.completion pick
      fetched_last h = fetched after
        where
          after : (reply : List ℕ) → left (storing reply) ≡ end_in s device.loaded (k + 1) (length bytes) filled (mark k map)
          after reply = rw (eq-eqb (k + 1) (total s) h, complete s.content s.size (some s) k image map front more h, s.passes)

  -- ---- from the last fragment to the end

  module _ (stored last : ℕ) (image map : List ℕ) (w : World) where
    pub quiet : At w (end_in s device.acked stored last image map) (gateway_in s gateway.run)
        → asked_number (records s.content) true s.device_reply s.gateway_reply w ≡ 9
    unfolding device-rules.wanted said pick
    quiet here = device_number_lem s w here (refused 9) refl

    pub reported : At w (end_in s device.loaded stored last image map) (gateway_in s gateway.serve)
        → Spoke s w (end_in s device.acked stored last image map) (gateway_in s gateway.run)
    unfolding device-rules.wanted device-rules.handle device-rules.on_download_reply gateway-rules.handle gateway-rules.on_download_report device_row
        gateway_row one_of pick
    reported here =
        device_exchange s w (end_in s device.loaded stored last image map) gateway.serve here refl (download_report 0x00) (download_reply 0x00) refl refl
        (λ _. refl) refl (λ _. refl)

    pub executed : At w (end_in s device.acked stored last image map) (gateway_in s gateway.run)
        → At (asks_gateway s w) (end_in s device.installing stored last image map) (gateway_in s gateway.run)
    unfolding gateway-rules.wanted gateway-rules.handle gateway-rules.on_execute_reply device-rules.handle device-rules.on_execute
        device-rules.execute_result device_row gateway_row one_of pick
    executed here =
        gateway_exchange s w (end_in s device.acked stored last image map) gateway.run here refl execute (execute_reply 0x00) refl refl (λ _. refl)
        (aired_message to_gateway (execute_reply 0x00)) refl (λ _. refl)

    pub ended : At w (end_in s device.installing stored last image map) (gateway_in s gateway.run)
        → At (next (records s.content) w (at_device (finished 0x00))) (updated_in s device.reporting stored last image map) (gateway_in s gateway.run)
    unfolding device_does device-rules.install_finished_of refusal install_code one_of pick
    ended here =
        let e : DeviceEnd = end_in s device.installing stored last image map in
        let good : device.record_ok e.device ≡ true = sound_record (standing any) e.device image map here.sound in
        device_then_lem s w here (finished 0x00) (rw good)

    pub succeeded : At w (updated_in s device.reporting stored last image map) (gateway_in s gateway.run)
        → Spoke s w (updated_in s device.idle stored last image map) (gateway_in s gateway.ended)
    unfolding device-rules.wanted device-rules.handle device-rules.on_result_reply gateway-rules.handle gateway-rules.on_result_report
        decisions.install_ending device_row gateway_row install_code one_of pick
    succeeded here =
        device_exchange s w (updated_in s device.reporting stored last image map) gateway.run here refl (result_report 0x00 s.version) (result_reply 0x00)
        refl s.version_good (λ _. rw (same_refl s.version)) refl (λ _. refl)
