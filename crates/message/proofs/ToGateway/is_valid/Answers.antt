-- `ToGateway::is_valid` meets its contract. Assumes nothing.
use Rattle.std.proofs.Common.{rules, ◌∙◌}
use Rattle.message.proofs.Allowed.{request_allowed}
use Rattle.message.proofs.ToGateway.is_valid.Goals as goal

pub returns-in-FragmentRequest : goal.returns-in-FragmentRequest
returns-in-FragmentRequest c = rw c.in-FragmentRequest.is (c.good_version-in-FragmentRequest.ensures ∙ request_allowed _ _ (search rules))
