use Rattle.exports.proofs.CaptureItems.{capture_items}
use Rattle.exports.proofs.capture_items_lie_within.Goals as goal

pub returns : goal.returns
returns c = capture_items
