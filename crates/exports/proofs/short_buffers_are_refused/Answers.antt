use Rattle.exports.proofs.Short.{short_refused}
use Rattle.exports.proofs.short_buffers_are_refused.Goals as goal

pub returns : goal.returns
returns c = short_refused
