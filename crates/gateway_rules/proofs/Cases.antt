-- The cases of the gateway's calls, computed. Assumes nothing.
use mathlib.Core.Path.{refl}
use Rattle.basis.specs.Choice.{pick, refusal, one_of}
use Rattle.basis.specs.Bytes.{part, same, over}
use Rattle.checksum.specs.Check.{doubled, entry_of, step, register, check_of, zeroed, message_check}
use Rattle.message.specs.Limits.{size_ok, total_ok, is_word}
use Rattle.message.specs.Version.{version_character, front, all_zero, good_version}
use Rattle.message.specs.Recognition.{start_holds, version_byte_holds, code_holds, check_holds, length_holds, recognition}
use Rattle.message.specs.Messages.{gateway_fields, install_code, device_row, gateway_row}
use Rattle.codec.specs.Codec.{sealed, frame, bytes_of, read_of, said}
use Rattle.gateway_record.specs.Record.{total_of, length_ok, fragment_of, record_ok}
use Rattle.gateway_rules.specs.Decisions.{after_query, serving, fragment_result, install_ending}
use Rattle.gateway_rules.specs.Rules.{fragment_reply, on_query_reply, on_announce_reply, on_fragment_request, on_download_report}
use Rattle.gateway_rules.specs.Rules.{on_execute_reply, on_result_report, handle, receive_of, wanted, next_message_of}
use Rattle.gateway_rules.specs.Cases.{GatewayCases}

pub gateway_cases : GatewayCases
unfolding pick refusal one_of part same over doubled entry_of step register check_of zeroed message_check
    size_ok total_ok is_word version_character front all_zero good_version start_holds version_byte_holds code_holds check_holds length_holds recognition
    device_row gateway_row gateway_fields install_code sealed frame bytes_of read_of said
    total_of length_ok fragment_of record_ok after_query serving fragment_result install_ending fragment_reply
    on_query_reply on_announce_reply on_fragment_request on_download_report on_execute_reply on_result_report handle receive_of wanted next_message_of
gateway_cases =
    record {
      step = refl;
      answer = refl;
      ask = refl;
      give_order = refl;
      ask_order = refl;
    }
