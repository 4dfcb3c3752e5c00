use Rattle.device.proofs.Kept.{kept_by_rule}
use Rattle.device.proofs.sound.SoundDevice.receive.Goals as goal

pub returns-clause-err : goal.returns-clause-err
returns-clause-err c =
    kept_by_rule _ _ _ _ _ _ _ _ c.take.result c.take.new.self c.take.new.image c.take.new.map c.take.new.reply c.take.ensures
