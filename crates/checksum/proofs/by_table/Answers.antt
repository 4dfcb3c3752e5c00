-- `checksum::by_table` meets its contract: the bytes that are left take the register to the same end. Assumes nothing.
use Rattle.std.proofs.Common.{◌/◌, ap}
use lib.Bits.{bit_xor}
use Rattle.checksum.specs.Check.{step}
use Rattle.checksum.proofs.Register.{single_turn, ended}
use Rattle.checksum.proofs.by_table.Goals as goal

pub loop-b-preserved : goal.loop-b-preserved
unfolding step
loop-b-preserved c =
    let held = c.loop-b.invariant in
    let new = ap (bit_xor (c.loop-b.r / 256)) c.entry.ensures in
    let all = single_turn c.args.bytes.now _ c.loop-b.r _ c.loop-b.b-index held.fits c.loop-b-test.true new held.same in
    record { fits = all.0; same = all.1 }

pub returns : goal.returns
returns c = ended c.args.bytes.now _ c.loop-b.r c.loop-b.b-index c.loop-b-test.false c.loop-b.invariant.same
