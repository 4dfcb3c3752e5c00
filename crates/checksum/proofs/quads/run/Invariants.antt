-- `checksum::quads::run` meets its contract: the bytes that are left take the register to the same end. Assumes nothing.
use Rattle.std.proofs.Common.{◌≡◌, ◌<◌, ◌*◌, drop}
use Rattle.checksum.specs.Check.{register}
use Rattle.checksum.proofs.quads.run.Given as goal

abbrev pub invariant-loop-a : goal.invariant-loop-a
invariant-loop-a l = record { fits : l.r < 65536; same : register l.r (drop (4 * l.a-index) l.bytes) ≡ register l.start l.bytes }

abbrev pub invariant-loop-b : goal.invariant-loop-b
invariant-loop-b l = record { fits : l.r < 65536; same : register l.r (drop l.b-index l.rest) ≡ register l.start l.bytes }
