-- The phase once a fragment is stored is one that the record may have with the count. Assumes nothing.
use Rattle.std.proofs.Common.{◌≡◌, true, ℕ, List, arith}
use Rattle.std.proofs.lemmas.Grind.{common_steps}
use Rattle.basis.specs.Choice.{pick}
use Rattle.message.specs.declared.Fields.{Fields}
use Rattle.device_record.specs.declared.Expected.{Expected}
use Rattle.device_record.specs.declared.phase.Phase.{Phase}
use Rattle.device_record.specs.declared.phase.Phase.TheVariants.{Idle, Loading, Loaded, Acked, Failed, Installing, Reporting}
use Rattle.device_record.specs.Phases.{code_of}
use Rattle.device_rules.specs.Decisions.{completion}
use Rattle.device.specs.Left.{completes}

pub completes_by_rule : (phase : Phase) (stored last : ℕ) (f : Fields) (expected : Expected) (image : List ℕ) →
    code_of phase ≡ completion stored last f expected image → completes phase stored f.total ≡ true
unfolding completion pick
completes_by_rule Idle stored last f expected image e = grind (arith, common_steps)
completes_by_rule Loading stored last f expected image e = grind (arith, common_steps)
completes_by_rule Loaded stored last f expected image e = grind (arith, common_steps)
completes_by_rule Acked stored last f expected image e = grind (arith, common_steps)
completes_by_rule Failed stored last f expected image e = grind (arith, common_steps)
completes_by_rule Installing stored last f expected image e = grind (arith, common_steps)
completes_by_rule Reporting stored last f expected image e = grind (arith, common_steps)
