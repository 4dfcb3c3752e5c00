-- The cases of captures, computed. Assumes nothing.
use mathlib.Core.Path.{refl}
use Rattle.basis.specs.Choice.{pick, refusal}
use Rattle.basis.specs.Bytes.{patched}
use Rattle.checksum.specs.Check.{doubled, entry_of, step, register, check_of, zeroed, message_check}
use Rattle.message.specs.Recognition.{start_holds, version_byte_holds, code_holds, check_holds, length_holds, recognition}
use Rattle.capture_rules.specs.Capture.{record_bytes, wrong_mark, item_at}
use Rattle.capture_rules.specs.Reading.{ends_from, reads_to_end, records_from, records_of}
use Rattle.capture_rules.specs.Writing.{fits, write_at}
use Rattle.capture_rules.specs.Mending.{sound_item, first_sound, mended}
use Rattle.capture_rules.specs.Mended.{parts_from, parts_of, records_in, mended_bytes}
use Rattle.capture_rules.specs.Cases.{CaptureCases}

pub capture_cases : CaptureCases
unfolding pick refusal patched doubled entry_of step register check_of zeroed message_check
    start_holds version_byte_holds code_holds check_holds length_holds recognition
    record_bytes wrong_mark item_at ends_from reads_to_end records_from records_of fits write_at
    sound_item first_sound mended parts_from parts_of records_in mended_bytes
capture_cases =
    record {
      walk_is = refl;
      ends = refl;
      records_are = refl;
      write_is = refl;
      room_is = refl;
      mend_is = refl;
      parts_are = refl;
      mended_is = refl;
    }
