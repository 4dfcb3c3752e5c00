-- What the check cannot see: a change by 0A and C3 in two bytes next to each other, if neither is in the check field (01, "The message
-- and its check"). Assumes nothing.
use Prim.Native.Nat.{ℕ, zero, suc, ◌<◌}
use native.Mathlib.Nat.{le_of_suc-le-suc, not-suc-le-zero}
use native.Mathlib.Numerals.{add-one}
use native.Mathlib.Omega.{arith}
use mathlib.Core.Logic.{◌≢◌}
use mathlib.Core.Path.{◌≡◌, sym, ◌∙◌, ap}
use mathlib.Core.List.{List, [], ◌∷◌}
use lib.Bits.{bit_xor, xor_zero_r}
use lib.ListN.{length, get_or, set, length-set}
use lib.Seq.{set_comm, get_or-set_other}
use Rattle.checksum.specs.Check.{doubled, entry_of, step, register, check_of, zeroed, message_check}
use Rattle.unseen.specs.Neighbours.{AnyNeighbours, Neighbours}
use Rattle.basis.specs.Choice.{pick}
use Rattle.checksum.proofs.Linear.{step_linear}

-- the first byte's change reaches the register as A14A, and the second's takes that away: A1 xor A1
neighbours : (r a b : ℕ) → step (step r (bit_xor a 0x0A)) (bit_xor b 0xC3) ≡ step (step r a) b
unfolding step entry_of doubled pick
neighbours r a b =
    let first : step r (bit_xor a 0x0A) ≡ bit_xor (step r a) 0xA14A = ap (λ (z : ℕ). step z (bit_xor a 0x0A)) (sym (xor_zero_r r)) ∙ step_linear r 0 a 0x0A in
    ap (λ (x : ℕ). step x (bit_xor b 0xC3)) first ∙ step_linear (step r a) 0xA14A b 0xC3 ∙ xor_zero_r (step (step r a) b)

-- the list with such a change at i and the place behind it
abbrev changed : List ℕ → ℕ → List ℕ
changed m i = set (set m i (bit_xor (get_or m i 0) 0x0A)) (suc i) (bit_xor (get_or m (suc i) 0) 0xC3)

register_neighbours : (m : List ℕ) (i r : ℕ) → suc i < length m → register r (changed m i) ≡ register r m
unfolding register
register_neighbours [] i r h = absurd (not-suc-le-zero h)
register_neighbours (a ∷ []) i r h = absurd (not-suc-le-zero (le_of_suc-le-suc h))
register_neighbours (a ∷ b ∷ m) zero r h = ap (λ (x : ℕ). register x m) (neighbours r a b)
register_neighbours (a ∷ b ∷ m) (suc i) r h = register_neighbours (b ∷ m) i (step r a) (le_of_suc-le-suc h)

pub length_zeroed : (m : List ℕ) → length (zeroed m) ≡ length m
unfolding zeroed
length_zeroed m = length-set (set m 4 0) 5 0 ∙ length-set m 4 0

-- a place outside the check field
module _ (m : List ℕ) (i : ℕ) (p : i ≢ 4) (q : i ≢ 5) where
  pub zeroed_set : (x : ℕ) → zeroed (set m i x) ≡ set (zeroed m) i x
  unfolding zeroed
  zeroed_set x = rw (set_comm m i 4 x 0, set_comm (set m 4 0) i 5 x 0)

  pub zeroed_get_d : get_or (zeroed m) i 0 ≡ get_or m i 0
  unfolding zeroed
  zeroed_get_d = rw (get_or-set_other (set m 4 0) 5 i 0 0, get_or-set_other m 4 i 0 0)

pub any_neighbours : AnyNeighbours 0x0A 0xC3
unfolding check_of
any_neighbours m i h = rw add-one (register_neighbours m i 0 (omega arith))

pub message_neighbours : Neighbours 0x0A 0xC3
unfolding message_check check_of
message_neighbours m i h n₃ n₄ n₅ =
    let s₄ : suc i ≢ 4 = omega arith in
    let s₅ : suc i ≢ 5 = omega arith in
    rw (
      add-one,
      zeroed_set (set m i (bit_xor (get_or m i 0) 0x0A)) (suc i) s₄ s₅,
      zeroed_set m i n₄ n₅,
      ← zeroed_get_d m i n₄ n₅,
      ← zeroed_get_d m (suc i) s₄ s₅,
    )
    (register_neighbours (zeroed m) i 0 (simp length_zeroed (omega arith)))
