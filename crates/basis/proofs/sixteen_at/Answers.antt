-- `basis::sixteen_at` meets its contract: what is there of the part is copied into zeros. Assumes nothing.
use native.Mathlib.Omega.{arith}
use mathlib.Core.Path.{sym, ◌∙◌, ap}
use mathlib.Core.List.{List}
use Prim.Native.Nat.{ℕ}
use lib.ListN.{replicate, length-take}
use Rattle.basis.specs.Bytes.{over}
use Rattle.basis.proofs.Lists.{patched_front, part_filled}
use Rattle.basis.proofs.sixteen_at.Goals as goal

pub put-requires : goal.put-requires
put-requires c = rw (c.part_of-there.ensures.bytes, length-take) (omega arith)

pub returns : goal.returns
returns c =
    c.put.ensures ∙ patched_front _ _ ∙ ap (λ (there : List ℕ). over there (replicate 16 0)) c.part_of-there.ensures.bytes
    ∙ sym (part_filled c.args.bytes.now c.args.at 16)
