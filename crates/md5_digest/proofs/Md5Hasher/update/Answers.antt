-- `md5_digest::Md5Hasher::update` meets its contract: the block is made whole, and then none waits. Assumes nothing.
use Rattle.std.proofs.Common.{arith}
use Rattle.md5_rules.proofs.Feeding.{cut_at}
use Rattle.md5_digest.proofs.Md5Hasher.update.Goals as goal

pub returns : goal.returns
returns c = cut_at c.args.self.now _ _ c.args.piece.now _ (omega arith) c.fill.ensures c.take-2.ensures
