-- `checksum::quads::run` meets its contract: the bytes that are left take the register to the same end. Assumes nothing.
use Rattle.std.proofs.Common.{◌≡◌, ◌<◌, ◌+◌, ◌*◌, ◌/◌, ◌∙◌, ℕ, List, [], get_or, length, ap, rules, arith}
use Rattle.checksum.proofs.Chunks.{chunk_at}
use Rattle.checksum.proofs.Register.{single_turn, ended, narrowed}
use Rattle.checksum.proofs.Words.{quad_turn}
use Rattle.checksum.proofs.quads.run.Goals as goal

pub loop-a-preserved : goal.loop-a-preserved
loop-a-preserved c =
    let held = c.loop-a.invariant in
    let low : c.loop-a.a-index < length c.args.bytes.now / 4 = omega (arith, c.loop-a-test.true, c.as_chunks.ensures.front_len) in
    let at : (j : ℕ) → j < 4 → get_or (get_or c.as_chunks.result.0.now c.loop-a.a-index []) j 0 ≡ get_or c.args.bytes.now (4 * c.loop-a.a-index + j) 0 =
    λ j l. ap (λ (fs : List (List ℕ)). get_or (get_or fs c.loop-a.a-index []) j 0) c.as_chunks.ensures.front
    ∙ chunk_at 4 (length c.args.bytes.now / 4) c.loop-a.a-index j c.args.bytes.now [] low l in
    let place : 4 * c.loop-a.a-index + 0 ≡ 4 * c.loop-a.a-index = omega arith in
    let new = rw (at 0 (omega arith), at 1 (omega arith), at 2 (omega arith), at 3 (omega arith), place) at c.quad-r.ensures in
    let all = quad_turn c.args.bytes.now (4 * c.loop-a.a-index) _ c.loop-a.r c.quad-r.result held.fits (omega arith) (omega arith) new held.same in
    let next : 4 * (c.loop-a.a-index + 1) ≡ 4 * c.loop-a.a-index + 4 = omega arith in
    record { fits = all.1; same = rw next all.2 }

pub loop-b-preserved : goal.loop-b-preserved
loop-b-preserved c =
    let held = c.loop-b.invariant in
    let all = single_turn c.as_chunks.result.1.now _ c.loop-b.r _ c.loop-b.b-index held.fits c.loop-b-test.true c.single-r.ensures held.same in
    record { fits = all.0; same = all.1 }

pub returns : goal.returns
returns c =
    narrowed c.args.bytes.now c.args.start _ (search rules)
    (ended c.as_chunks.result.1.now _ c.loop-b.r c.loop-b.b-index c.loop-b-test.false c.loop-b.invariant.same)
