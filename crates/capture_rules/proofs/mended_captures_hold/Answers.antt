use Rattle.capture_rules.proofs.MendedCaptures.{mended_capture}
use Rattle.capture_rules.proofs.mended_captures_hold.Goals as goal

pub returns : goal.returns
returns c = mended_capture
