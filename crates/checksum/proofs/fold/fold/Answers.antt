-- `checksum::fold::fold` meets its contract: runs of thirteen bytes, one over the other. Assumes nothing.
use Rattle.std.proofs.Common.{◌≡◌, ◌<◌, ◌+◌, ◌-◌, ◌*◌, ◌/◌, ◌≤◌, ◌∙◌, ℕ, List, [], ap, length, take, drop, get_or, length-take, length-drop, rules, arith}
use Rattle.checksum.proofs.Chunks.{run_part}
use Rattle.checksum.proofs.Words.{first, turn}
use Rattle.checksum.proofs.fold.fold.Goals as goal

pub loop-run-init : goal.loop-run-init
loop-run-init c = first c.args.start c.args.bytes.now c.eight.result c.eight-high.result (search rules) c.requires c.eight.ensures c.eight-high.ensures

pub loop-run-preserved : goal.loop-run-preserved
loop-run-preserved c =
    let len : length (take (length c.args.bytes.now - 1 - 13) (drop 13 c.args.bytes.now)) ≡ length c.args.bytes.now - 1 - 13 =
    simp (length-take, length-drop) (omega arith) in
    let low : c.loop-run.run-index < length (take (length c.args.bytes.now - 1 - 13) (drop 13 c.args.bytes.now)) / 13 =
    omega (arith, c.loop-run-test.true, c.as_chunks.ensures.front_len) in
    let part : (k : ℕ) → k ≤ 5
    → take 8 (drop k (get_or c.as_chunks.result.0.now c.loop-run.run-index [])) ≡ take 8 (drop (13 + 13 * c.loop-run.run-index + k) c.args.bytes.now) =
    λ k h. ap (λ (rs : List (List ℕ)). take 8 (drop k (get_or rs c.loop-run.run-index []))) c.as_chunks.ensures.front
    ∙ run_part c.args.bytes.now [] (length c.args.bytes.now - 1 - 13)
    (length (take (length c.args.bytes.now - 1 - 13) (drop 13 c.args.bytes.now)) / 13) c.loop-run.run-index k (omega (arith, len)) low h in
    let place : 13 + 13 * c.loop-run.run-index + 0 ≡ 13 + 13 * c.loop-run.run-index = omega arith in
    let next : 13 + 13 * (c.loop-run.run-index + 1) ≡ 13 + 13 * c.loop-run.run-index + 13 = omega arith in
    rw next
    (turn c.args.start c.args.bytes.now c.loop-run.low c.loop-run.high (13 + 13 * c.loop-run.run-index) c.loop-run.invariant
    c.eight-low.result c.eight-high-in-loop-run.result
    (omega (arith, len, low)) (c.eight-low.ensures ∙ part 0 (omega arith) ∙ ap (λ (k : ℕ). take 8 (drop k c.args.bytes.now)) place)
    (c.eight-high-in-loop-run.ensures ∙ part 5 (omega arith)))
