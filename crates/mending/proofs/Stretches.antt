-- The length of a stretch's line. Assumes nothing.
use Prim.Native.Nat.{ℕ, ◌≤◌}
use native.Mathlib.Omega.{arith}
use lib.ListN.{length, length-append}
use Rattle.text.specs.Text.{space, newline}
use Rattle.text.proofs.Figures.{length_number}
use Rattle.mending.specs.Account.{stretch_text, stretch_most}

pub length_stretch : (start count : ℕ) → length (stretch_text start count) ≤ stretch_most
unfolding stretch_text
length_stretch start count = simp length-append (omega (arith, length_number start space, length_number count newline))
