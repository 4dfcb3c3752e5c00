-- The witnesses of demand 3's premises: all by computation. Assumes nothing.
use Prim.Native.Nat.{ℕ, ◌*◌}
use native.Mathlib.Omega.{arith}
use mathlib.Core.Path.{◌≡◌, refl, sym, ◌∙◌, ap}
use mathlib.Core.Bool.{true≢false}
use mathlib.Core.List.Memᴰ
use mathlib.Core.List.{List, [], ◌∷◌, Memᴰ}
use lib.ListN.{take, drop}
use Rattle.basis.specs.Choice.{pick, refusal, one_of}
use Rattle.basis.specs.Bytes.{part, same, over, patched}
use Rattle.checksum.specs.Check.{doubled, entry_of, step, register, check_of, zeroed, message_check}
use Rattle.message.specs.Limits.{size_ok, total_ok, is_word}
use Rattle.message.specs.Version.{version_character, front, all_zero, good_version}
use Rattle.message.specs.Recognition.{start_holds, version_byte_holds, code_holds, check_holds, length_holds, recognition}
use Rattle.message.specs.Messages.{execute, result_report, fragment_ok, device_fields, install_code, gateway_fields, device_row, gateway_row}
use Rattle.codec.specs.Codec.{sealed, frame, bytes_of, read_of, write_of, said}
use Rattle.bitmap.specs.Bitmap.{marked, mark, cleared, missing_from, lowest_missing}
use Rattle.device_record.specs.Record as device_record
use Rattle.device_rules.specs.Rules as device
use Rattle.gateway_record.specs.Record as gateway_record
use Rattle.gateway_rules.specs.Decisions as decisions
use Rattle.gateway_rules.specs.Rules as gateway
use Rattle.upgrade.specs.Calls.{finished, at_device, at_gateway, aired, next, May}
use Rattle.upgrade.specs.Records.{device_does, gateway_does}
use Rattle.upgrade.specs.Held.{held_by, held_next, held_after}
use Rattle.upgrade.specs.Witnesses.{new, told_device, asked_device, told_gateway, content, download, Witnesses}

-- the one fragment held is the package's
pub first_only : (index : ℕ) (bytes : List ℕ) → Memᴰ {A = ℕ × List ℕ} (index, bytes) ((0, take 32 content) ∷ []) → bytes
    ≡ gateway_record.fragment_of content 32 index
unfolding gateway_record.fragment_of
first_only index bytes m =
    let same-pair : ◌≡◌ {A = ℕ × List ℕ} (index, bytes) (0, take 32 content) = Memᴰ.eq_of_singleton m in
    ap (λ (p : ℕ × List ℕ). p.1) same-pair ∙ ap (λ (p : ℕ × List ℕ). take 32 (drop (p.0 * 32) content)) (sym same-pair)

-- what arrives was said last
heard : {m : List ℕ} {air : List (List ℕ)} → Memᴰ m (m ∷ air)
heard = Memᴰ.head refl

pub witnesses : Witnesses
unfolding pick refusal one_of part same over patched doubled entry_of step register check_of zeroed message_check size_ok total_ok is_word
    version_character front
    all_zero good_version start_holds version_byte_holds code_holds check_holds length_holds recognition device_row fragment_ok device_fields gateway_row
    install_code
    gateway_fields sealed frame bytes_of read_of write_of said marked mark cleared missing_from lowest_missing device_record.holding device_record.condition_ok
    device_record.new_of device_record.download_ok device_record.record_ok device_record.map_bytes device_record.memory_ok device.begin device.store
    device.on_query device.on_announce device.on_fragment device.on_download_reply device.on_execute device.on_result_reply device.handle device.receive_of
    device.wanted device.next_message_of device.install_finished_of device.announce_result device.same_fields device.resumes device.fragment_length
    device.repeat_refusal device.fragment_refusal device.check_passes device.digest_passes device.passes device.completion device.execute_result
    gateway_record.total_of gateway_record.length_ok gateway_record.fragment_of
    gateway_record.start_of gateway_record.record_ok decisions.after_query decisions.serving decisions.fragment_result decisions.install_ending
    gateway.fragment_reply gateway.on_query_reply gateway.on_announce_reply gateway.on_fragment_request gateway.on_download_report gateway.on_execute_reply
    gateway.on_result_report gateway.handle gateway.receive_of gateway.wanted gateway.next_message_of aired next May device_does gateway_does held_by held_next
    held_after
witnesses =
    record {
      clean = record {
        ready = record { device_made = refl; gateway_started = refl; offering = refl; held = λ _ _ index bytes m. absurd (Memᴰ.not-nil m) };
        device_idle = refl;
        other_version = refl;
        image_room = omega arith;
        map_room = omega arith;
        device_room = λ _. omega arith;
        gateway_room = λ _. omega arith;
      };
      ready = record { device_made = refl; gateway_started = refl; offering = refl; held = λ _ _ index bytes m. first_only index bytes m };
      held_loading = refl;
      held_offer = refl;
      held = refl;
      allowed = (tt, (heard, (heard, (tt, (heard, (heard, (tt, (heard, (tt, (heard, (tt, (tt, (heard, tt)))))))))))));
      success = (refl, refl);
      history = record {
        earlier = download;
        execution = at_device (told_device execute);
        between = [];
        installation = at_device (finished 0x00);
        since = at_device asked_device ∷ at_gateway (told_gateway (result_report 0x00 new)) ∷ [];
        split = refl;
        executed = (refl, refl);
        installed = (refl, refl);
        not_ended = λ e. let z : ◌≡◌ {A = ℕ} 3 4 = e in omega arith;
      };
      repeat_allowed = (tt, (heard, (heard, (tt, (heard, (heard, (heard, tt)))))));
      repeat_number = refl;
      crossed_number = refl;
      crossed_failed = refl;
      ready_failed = record { device_made = refl; gateway_started = refl; offering = refl; held = λ h. absurd (true≢false (sym h)) };
    }
