-- The cases of the device's decisions, computed. Assumes nothing.
use mathlib.Core.Path.{refl}
use Rattle.basis.specs.Choice.{pick, refusal, one_of}
use Rattle.basis.specs.Bytes.{same}
use Rattle.checksum.specs.Check.{doubled, entry_of, step, register, check_of}
use Rattle.bitmap.specs.Bitmap.{marked}
use Rattle.md5_rules.specs.Md5.{padding_of, padded, mix_f, mix_g, mix_h, mix_i, sines, block_word, step as md5-step, steps, rounds, increased}
use Rattle.md5_rules.specs.Md5.{compressed, blocks}
use Rattle.md5_rules.specs.Md5.{digest_of, md5_of}
use Rattle.device_record.specs.Record.{holding, map_bytes}
use Rattle.device_rules.specs.Decisions.{announce_result, same_fields, resumes, fragment_length, repeat_refusal, fragment_refusal}
use Rattle.device_rules.specs.Decisions.{check_passes, digest_passes, passes}
use Rattle.device_rules.specs.Decisions.{completion, execute_result}
use Rattle.device_rules.specs.DecisionCases.{DecisionCases}

pub decision_cases : DecisionCases
unfolding pick refusal one_of same doubled entry_of step register check_of marked holding map_bytes
    announce_result same_fields resumes fragment_length repeat_refusal fragment_refusal check_passes digest_passes passes completion execute_result
    padding_of padded mix_f mix_g mix_h mix_i sines block_word md5-step steps rounds increased compressed blocks digest_of md5_of
decision_cases = record { announce = refl; resume = refl; fragment = refl; test = refl; complete = refl; complete_with_digest = refl; execute = refl }
