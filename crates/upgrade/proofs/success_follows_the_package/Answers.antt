use Rattle.upgrade.proofs.Demand3.{upgrade}
use Rattle.upgrade.proofs.success_follows_the_package.Goals as goal

pub returns : goal.returns
returns c = upgrade
