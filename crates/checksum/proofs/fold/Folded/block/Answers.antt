-- `checksum::fold::Folded::block` meets its contract. Assumes nothing.
use Rattle.std.proofs.Common.{◌∙◌, refl}
use Rattle.checksum.proofs.Words.{le_digits}
use Rattle.checksum.proofs.fold.Folded.block.Goals as goal

pub returns : goal.returns
returns c = rw (c.to_le_bytes-l.ensures ∙ le_digits c.args.self.low, c.to_le_bytes-h.ensures ∙ le_digits c.args.self.high) refl
