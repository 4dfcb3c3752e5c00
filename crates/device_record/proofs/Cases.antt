-- The cases of the device's record, computed. Assumes nothing.
use mathlib.Core.Path.{refl}
use Rattle.basis.specs.Choice.{pick, one_of}
use Rattle.message.specs.Limits.{size_ok, total_ok}
use Rattle.message.specs.Version.{version_character, front, all_zero, good_version}
use Rattle.message.specs.Messages.{install_code}
use Rattle.device_record.specs.Record.{holding, condition_ok, new_of, download_ok, record_ok, map_bytes, memory_ok}
use Rattle.device_record.specs.Cases.{RecordCases}

pub record_cases : RecordCases
unfolding pick one_of size_ok total_ok version_character front all_zero good_version install_code
    holding condition_ok new_of download_ok record_ok map_bytes memory_ok
record_cases = record { number_is = refl; made = refl; record_is = refl; flag_is = refl; map_needs = refl; room_is = refl }
