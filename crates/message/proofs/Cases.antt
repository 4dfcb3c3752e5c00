-- The cases of 01's table, computed. Assumes nothing.
use mathlib.Core.Path.{refl}
use Rattle.basis.specs.Choice.{pick, refusal, one_of}
use Rattle.checksum.specs.Check.{doubled, entry_of, step, register, check_of, zeroed, message_check}
use Rattle.message.specs.Limits.{size_ok, total_ok, is_word}
use Rattle.message.specs.Version.{version_character, front, all_zero, good_version}
use Rattle.message.specs.Messages.{fragment_ok, install_code, device_row, gateway_row}
use Rattle.message.specs.Recognition.{start_holds, version_byte_holds, code_holds, check_holds, length_holds, recognition}
use Rattle.message.specs.Cases.{MessageCases}

pub message_cases : MessageCases
unfolding pick refusal one_of size_ok total_ok is_word version_character front all_zero good_version install_code
    device_row fragment_ok gateway_row
    doubled entry_of step register check_of zeroed message_check start_holds version_byte_holds code_holds check_holds length_holds recognition
message_cases =
    record { in_range = refl; text_is = refl; result_is = refl; room_is = refl; field_is = refl; device_data = refl; gateway_data = refl; number_is = refl }
