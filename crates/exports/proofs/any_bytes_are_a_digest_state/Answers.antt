use Rattle.exports.proofs.DigestLaws.{digests}
use Rattle.exports.proofs.any_bytes_are_a_digest_state.Goals as goal

pub returns : goal.returns
returns c = digests
