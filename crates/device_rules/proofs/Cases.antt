-- The cases of the device's calls, computed. Assumes nothing.
use mathlib.Core.Path.{refl}
use Rattle.basis.specs.Choice.{pick, refusal, one_of}
use Rattle.basis.specs.Bytes.{part, same, over, patched}
use Rattle.bitmap.specs.Bitmap.{marked, mark, cleared, missing_from, lowest_missing}
use Rattle.checksum.specs.Check.{doubled, entry_of, step, register, check_of, zeroed, message_check}
use Rattle.md5_rules.specs.Md5.{padding_of, padded, mix_f, mix_g, mix_h, mix_i, sines, block_word, step as md5-step, steps, rounds, increased}
use Rattle.md5_rules.specs.Md5.{compressed, blocks}
use Rattle.md5_rules.specs.Md5.{digest_of, md5_of}
use Rattle.message.specs.Limits.{size_ok, total_ok, is_word}
use Rattle.message.specs.Version.{version_character, front, all_zero, good_version}
use Rattle.message.specs.Recognition.{start_holds, version_byte_holds, code_holds, check_holds, length_holds, recognition}
use Rattle.message.specs.Messages.{device_fields, fragment_ok, install_code, device_row, gateway_row}
use Rattle.codec.specs.Codec.{sealed, frame, bytes_of, read_of, said}
use Rattle.device_record.specs.Record.{holding, condition_ok, download_ok, record_ok, map_bytes, memory_ok}
use Rattle.device_rules.specs.Rules.{announce_result, same_fields, resumes, fragment_length, repeat_refusal, fragment_refusal, check_passes, digest_passes}
use Rattle.device_rules.specs.Rules.{passes}
use Rattle.device_rules.specs.Rules.{completion, execute_result}
use Rattle.device_rules.specs.Rules.{begin, store, on_query, on_announce, on_fragment, on_download_reply, on_execute, on_result_reply, handle}
use Rattle.device_rules.specs.Rules.{receive_of, wanted, next_message_of, install_finished_of, give_digest_of}
use Rattle.device_rules.specs.Cases.{DeviceCases}

pub device_cases : DeviceCases
unfolding pick refusal one_of part same over patched marked mark cleared missing_from lowest_missing
    doubled entry_of step register check_of zeroed message_check size_ok total_ok is_word version_character front all_zero good_version
    start_holds version_byte_holds code_holds check_holds length_holds recognition
    device_row device_fields fragment_ok gateway_row install_code sealed frame bytes_of read_of said
    holding condition_ok download_ok record_ok map_bytes memory_ok
    announce_result same_fields resumes fragment_length repeat_refusal fragment_refusal check_passes digest_passes passes completion execute_result
    begin store on_query on_announce on_fragment on_download_reply on_execute on_result_reply handle
    receive_of wanted next_message_of install_finished_of give_digest_of
    padding_of padded mix_f mix_g mix_h mix_i sines block_word md5-step steps rounds increased compressed blocks digest_of md5_of
device_cases =
    record {
      step = refl;
      change = refl;
      answer = refl;
      ask = refl;
      digest = refl;
      complete = refl;
      digest_after = refl;
      finish = refl;
      give_order = refl;
      ask_order = refl;
    }
