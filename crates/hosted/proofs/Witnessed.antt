-- The witnesses of the premises over hosts: all by computation. Assumes nothing.
use native.Mathlib.Omega.{arith}
use mathlib.Core.Path.{refl, sym}
use mathlib.Core.Bool.{true≢false}
use mathlib.Core.List.Memᴰ
use Rattle.basis.specs.Choice.{pick, refusal, one_of}
use Rattle.basis.specs.Bytes.{qword_at, qword_bytes, part, same, over, patched}
use Rattle.checksum.specs.Check.{doubled, entry_of, step, register, check_of, zeroed, message_check}
use Rattle.message.specs.Limits.{size_ok, total_ok, is_word}
use Rattle.message.specs.Version.{version_character, front, all_zero, good_version}
use Rattle.message.specs.Recognition.{start_holds, version_byte_holds, code_holds, check_holds, length_holds, recognition}
use Rattle.message.specs.Messages.{fragment_ok, device_fields, install_code, gateway_fields, device_row, gateway_row}
use Rattle.codec.specs.Codec.{sealed, frame, bytes_of, read_of, write_of, said}
use Rattle.bitmap.specs.Bitmap.{marked, mark, cleared, missing_from, lowest_missing}
use Rattle.device_record.specs.Record as device_record
use Rattle.device_rules.specs.Rules as device
use Rattle.gateway_record.specs.Record as gateway_record
use Rattle.gateway_rules.specs.Decisions as decisions
use Rattle.gateway_rules.specs.Rules as gateway
use Rattle.layout_rules.specs.Layout.{kept, front_bytes, device_bytes, device_at, gateway_bytes, gateway_at}
use Rattle.exports.specs.Exports.{text_of, device_new_of, device_receive_of, gateway_start_of, gateway_receive_of}
use Rattle.upgrade.specs.Records.{device_does, gateway_does}
use Rattle.upgrade.specs.Held.{held_by, held_next, held_after}
use Rattle.upgrade.proofs.Witnessed.{first_only}
use Rattle.hosted.specs.Hosts.{device_host_does, gateway_host_does}
use Rattle.hosted.specs.Witnesses.{HostedWitnesses}

pub hosted_witnesses : HostedWitnesses
unfolding pick refusal one_of qword_at qword_bytes part same over patched doubled entry_of step register check_of zeroed message_check size_ok total_ok is_word
    version_character front all_zero good_version start_holds version_byte_holds code_holds check_holds length_holds recognition device_row fragment_ok
    device_fields gateway_row install_code gateway_fields sealed frame bytes_of read_of write_of said marked mark cleared missing_from lowest_missing
    device_record.holding device_record.condition_ok device_record.new_of device_record.download_ok device_record.record_ok device_record.map_bytes
    device_record.memory_ok device.begin device.store device.on_query device.on_announce device.on_fragment device.on_download_reply device.on_execute
    device.on_result_reply device.handle device.receive_of device.wanted device.next_message_of device.install_finished_of device.announce_result
    device.same_fields device.resumes device.fragment_length device.repeat_refusal device.fragment_refusal device.check_passes device.digest_passes
    device.passes device.completion device.execute_result gateway_record.total_of gateway_record.length_ok gateway_record.fragment_of
    gateway_record.start_of gateway_record.record_ok decisions.after_query decisions.serving decisions.fragment_result decisions.install_ending
    gateway.fragment_reply gateway.on_query_reply gateway.on_announce_reply gateway.on_fragment_request gateway.on_download_report gateway.on_execute_reply
    gateway.on_result_report gateway.handle gateway.receive_of gateway.wanted gateway.next_message_of device_does gateway_does held_by held_next held_after
    device_new_of device_receive_of gateway_start_of gateway_receive_of text_of kept front_bytes device_bytes device_at gateway_bytes gateway_at
    device_host_does
    gateway_host_does
hosted_witnesses =
    record {
      clean = record {
        ready = record {
          device_made = record { fits = omega arith; made = refl };
          gateway_fits = omega arith;
          gateway_started = refl;
          offering = refl;
          held = λ _ _ index bytes m. absurd (Memᴰ.not-nil m);
        };
        device_idle = refl;
        other_version = refl;
        image_room = omega arith;
        map_room = omega arith;
        device_room = λ _. omega arith;
        gateway_room = λ _. omega arith;
      };
      ready = record {
        device_made = record { fits = omega arith; made = refl };
        gateway_fits = omega arith;
        gateway_started = refl;
        offering = refl;
        held = λ _ _ index bytes m. first_only index bytes m;
      };
      crossed_number = refl;
      crossed_failed = refl;
      ready_failed = record {
        device_made = record { fits = omega arith; made = refl };
        gateway_fits = omega arith;
        gateway_started = refl;
        offering = refl;
        held = λ h. absurd (true≢false (sym h));
      };
    }
