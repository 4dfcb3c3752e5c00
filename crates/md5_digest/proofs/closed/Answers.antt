-- `md5_digest::closed` meets its contract: the padding, and the blocks of it. Assumes nothing.
use Rattle.std.proofs.Common.{◌∙◌}
use Rattle.md5_rules.proofs.Closing.{closed_is}
use Rattle.md5_digest.proofs.Low.{eight_low}
use Rattle.md5_digest.proofs.closed.Goals as goal

pub returns : goal.returns
returns c =
    closed_is c.args.w _ c.args.rest.now _ _ _ _ c.args.count c.requires.1 (c.to_le_bytes-field.ensures ∙ eight_low _) c.put.ensures c.put-2.ensures
    c.blocks-2.ensures c.output.ensures
