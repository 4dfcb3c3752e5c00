use Rattle.hosted.proofs.Demand3.{hosted_install_length}
use Rattle.hosted.proofs.hosts_install_the_package_length.Goals as goal

pub returns : goal.returns
returns c = hosted_install_length
