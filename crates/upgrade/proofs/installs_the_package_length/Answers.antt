use Rattle.upgrade.proofs.Demand3.{install_length}
use Rattle.upgrade.proofs.installs_the_package_length.Goals as goal

pub returns : goal.returns
returns c = install_length
