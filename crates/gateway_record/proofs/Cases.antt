-- The cases of the gateway's record, computed. Assumes nothing.
use mathlib.Core.Path.{refl}
use Rattle.basis.specs.Choice.{pick, refusal}
use Rattle.checksum.specs.Check.{doubled, entry_of, step, register, check_of}
use Rattle.message.specs.Limits.{size_ok}
use Rattle.message.specs.Version.{version_character, front, all_zero, good_version}
use Rattle.gateway_record.specs.Record.{total_of, length_ok, start_of, record_ok}
use Rattle.gateway_record.specs.Cases.{GatewayRecordCases}

pub gateway_record_cases : GatewayRecordCases
unfolding pick refusal doubled entry_of step register check_of size_ok version_character front all_zero good_version total_of length_ok start_of record_ok
gateway_record_cases = record { total = refl; length = refl; announces = refl; start = refl; record_is = refl }
