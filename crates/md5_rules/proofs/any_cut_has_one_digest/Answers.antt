use Rattle.md5_rules.proofs.Feeding.{any_cut}
use Rattle.md5_rules.proofs.any_cut_has_one_digest.Goals as goal

pub returns : goal.returns
returns c = any_cut
