-- `ToDevice::is_valid` meets its contract. Assumes nothing.
use Rattle.std.proofs.Common.{rules, ◌∙◌}
use Rattle.message.proofs.Allowed.{fragment_allowed}
use Rattle.message.proofs.ToDevice.is_valid.Goals as goal

pub returns-in-Announce : goal.returns-in-Announce
returns-in-Announce c = rw c.in-Announce.is c.fields_ok.ensures

pub returns-in-Fragment : goal.returns-in-Fragment
returns-in-Fragment c = rw c.in-Fragment.is (c.fragment_ok.ensures ∙ fragment_allowed _ _ _ (search rules))
