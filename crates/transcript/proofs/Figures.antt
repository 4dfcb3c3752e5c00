-- The lengths of a line and its pieces. Assumes nothing.
use Prim.Native.Nat.{ℕ, ◌≤◌}
use native.Mathlib.Omega.{arith}
use mathlib.Core.List.{List, [], ◌∷◌}
use lib.ListN.{length, length-append}
use Rattle.text.specs.Text.{space, newline, number_text}
use Rattle.text.proofs.Figures.{length_number}
use Rattle.text.proofs.HexFigures.{length_hex}
use Rattle.transcript.specs.Line.{reply_text, line_text}
use Rattle.transcript.specs.Transcript.{reply_length, line_most}

length_reply : (reply : List ℕ) → length reply ≤ reply_length → length (reply_text reply) ≤ 52
unfolding reply_text
length_reply [] h = omega arith
length_reply (b ∷ bs) h = omega (arith, length_hex (b ∷ bs))

pub length_fault : (n : ℕ) → length (number_text n newline) ≤ line_most
length_fault n = omega (arith, length_number n newline)

pub length_line : (number outcome phase : ℕ) (reply : List ℕ) → length reply ≤ reply_length → length (line_text number outcome phase reply) ≤ line_most
unfolding line_text
length_line number outcome phase reply h =
    simp length-append (omega (arith, length_number number space, length_number outcome space, length_number phase space, length_reply reply h))
