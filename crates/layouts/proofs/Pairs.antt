-- One value behind another, and the buffer after it. Assumes nothing.
use Rattle.std.proofs.Common.{◌≡◌, ℕ, ◌+◌, ◌≤◌, ◌<◌, List, ◌++◌, length, leb, ◌∙◌, ap, sym, arith, take, drop, replicate, length-take}
use borrow.Author.Tests.{le-leb, lt-leb}
use Rattle.basis.specs.Bytes.{part, patched, over}
use Rattle.basis.specs.Choice.{pick}
use Rattle.basis.proofs.Choosing.{pick_yes, pick_no}
use Rattle.basis.proofs.Lists.{patched_patched, patched_front, part_filled}

pub pair_put : (at next n : ℕ) (a b o o₁ o₂ : List ℕ) → at + n ≤ length o → length a ≡ n → next ≡ at + n → o₁ ≡ patched at a o → o₂ ≡ patched next b o₁
    → o₂ ≡ patched at (a ++ b) o
pair_put at next n a b o o₁ o₂ room len e p q =
    q ∙ ap (patched next b) p ∙ patched_patched at next a b o (omega arith) (ap (λ (k : ℕ). at + k) len ∙ sym e)

pub kept_short : (room : ℕ) (new buffer : List ℕ) → length buffer < room → buffer ≡ pick (leb room (length buffer)) new buffer
kept_short room new buffer h = sym (pick_no _ _ _ (lt-leb room (length buffer) h))

pub kept_new : (room : ℕ) (new o buffer : List ℕ) → room ≤ length buffer
    → o ≡ patched 0 new buffer → o ≡ pick (leb room (length buffer)) (over new buffer) buffer
kept_new room new o buffer h e = e ∙ patched_front new buffer ∙ sym (pick_yes _ _ _ (le-leb room (length buffer) h))

-- an array of zeros, with what is there of a part at its front
pub there_fits : (n k : ℕ) (there xs : List ℕ) → there ≡ take n (drop k xs) → length there ≤ n
there_fits n k there xs e = omega (arith, ap length e, length-take n (drop k xs))

pub filled : (n k : ℕ) (there xs found : List ℕ) → there ≡ take n (drop k xs) → found ≡ patched 0 there (replicate n 0) → found ≡ part xs k n
filled n k there xs found e f = f ∙ patched_front there (replicate n 0) ∙ ap (λ (t : List ℕ). over t (replicate n 0)) e ∙ sym (part_filled xs k n)
