-- The cases of decode, computed. Assumes nothing.
use mathlib.Core.Path.{refl}
use Rattle.basis.specs.Choice.{pick, refusal, one_of}
use Rattle.basis.specs.Bytes.{part, same}
use Rattle.checksum.specs.Check.{doubled, entry_of, step, register, check_of, zeroed, message_check}
use Rattle.message.specs.Limits.{size_ok, total_ok, is_word}
use Rattle.message.specs.Version.{version_character, front, all_zero, good_version}
use Rattle.message.specs.Messages.{fragment_ok, device_row, device_fields, install_code, gateway_row, gateway_fields}
use Rattle.message.specs.Recognition.{start_holds, version_byte_holds, code_holds, check_holds, length_holds, recognition}
use Rattle.codec.specs.Codec.{read_of}
use Rattle.capture_rules.specs.Capture.{wrong_mark, item_at, goes_on}
use Rattle.text.specs.Text.{figures, number_text, hex_figure, hex}
use Rattle.decoding_rules.specs.Line.{optional, result_text, version_text, code_text, package_text, index_text, data_text, reason, reason_text}
use Rattle.decoding_rules.specs.Line.{device_text, gateway_text, read_text, message_text, record_text, fault_text}
use Rattle.decoding_rules.specs.Decode.{line_text, lines_from, decode_text}
use Rattle.decoding_rules.specs.Cases.{DecodingCases}

pub decoding_cases : DecodingCases
unfolding pick refusal one_of part same doubled entry_of step register check_of zeroed message_check
    size_ok total_ok is_word version_character front all_zero good_version
    fragment_ok device_row device_fields install_code gateway_row gateway_fields
    start_holds version_byte_holds code_holds check_holds length_holds recognition read_of
    wrong_mark item_at goes_on figures number_text hex_figure hex
    optional result_text version_text code_text package_text index_text data_text reason reason_text
    device_text gateway_text read_text message_text record_text fault_text line_text lines_from decode_text
decoding_cases = record { record_is = refl; text_is = refl; room_is = refl }
