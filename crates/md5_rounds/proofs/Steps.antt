-- Laws of the rounds: a step's sum in another order, the second round's function as a sum, and blocks by what is left of the bytes. Assumes
-- nothing.
use Rattle.std.proofs.Common.{◌≡◌, ℕ, zero, suc, ◌+◌, ◌-◌, ◌*◌, ◌/◌, ◌%◌, ◌^◌, ◌<◌, ◌≤◌, min}
use Rattle.std.proofs.Common.{List, [], ◌∷◌, ◌++◌, length, take, drop, refl, ap, sym, ◌∙◌, ap₂, arith, length-append}
use Rattle.std.proofs.Math.Seq.{take-append_seam, drop-append_seam}
use Rattle.std.specs.Int.{w32, rotate_left}
use lib.Bits.{bit_and, bit_or, and_step, and_zero_r, and_le_r, and_mod, and_shr, or_disjoint}
use Rattle.md5_rules.specs.declared.Words.{Words}
use Rattle.md5_rules.specs.Md5.{◌⊕◌, ◌⋘◌, complement, mix_g, sine, block_word, step, steps, compressed, blocks}
use Rattle.md5_rounds.specs.Rows.{Turn}

-- what waits for the step before is added last
late_last : (a early late mixed x t : ℕ) → early + late ≡ mixed
    → ((((a + early) % 4294967296 + x) % 4294967296 + t) % 4294967296 + late) % 4294967296 ≡ a ⊕ mixed ⊕ x ⊕ t
late_last a early late mixed x t e = omega arith

rotated : (n s : ℕ) → Turn s → rotate_left w32 n s ≡ n ⋘ s
rotated n s h =
    let low : s % 32 ≡ s = omega arith in
    let rest : (32 - s) % 32 ≡ 32 - s = omega arith in
    ap (λ (k : ℕ). bit_or (n * 2 ^ k % 4294967296) (n / 2 ^ ((32 - k) % 32))) low ∙ ap (λ (k : ℕ). bit_or (n * 2 ^ s % 4294967296) (n / 2 ^ k)) rest

-- the words change places
pub stepped : (mix : ℕ → ℕ → ℕ → ℕ) (w : Words) (x s t early late turn : ℕ) → Turn s → early + late ≡ mix w.b w.c w.d
    → turn ≡ rotate_left w32 (((((w.a + early) % 4294967296 + x) % 4294967296 + t) % 4294967296 + late) % 4294967296) s
    → ◌≡◌ {A = Words} (record { a = w.d; b = w.b ⊕ turn; c = w.b; d = w.c }) (step mix w x s t)
unfolding step
stepped mix w x s t early late turn h sum e =
    ap (λ (b : ℕ). record { a = w.d; b = w.b ⊕ b; c = w.b; d = w.c })
    (e ∙ rotated _ s h ∙ ap (λ (n : ℕ). n ⋘ s) (late_last w.a early late (mix w.b w.c w.d) x t sum))

-- what is in one word, and what is in its complement, have no bit in common
disjoint : (n b c d : ℕ) → d < 2 ^ n → bit_and (bit_and b d) (bit_and c (2 ^ n - 1 - d)) ≡ 0
disjoint zero b c d h =
    let none : 2 ^ 0 - 1 - d ≡ 0 = omega arith in
    ap (λ (e : ℕ). bit_and (bit_and b d) (bit_and c e)) none ∙ ap (bit_and (bit_and b d)) (and_zero_r c) ∙ and_zero_r (bit_and b d)
disjoint (suc n) b c d h =
    let e : ℕ = 2 ^ suc n - 1 - d in
    let half : e / 2 ≡ 2 ^ n - 1 - d / 2 = omega arith in
    let odd : e % 2 ≡ 1 - d % 2 = omega arith in
    let first : bit_and b d % 2 ≤ d % 2 = rw (and_mod b d 1) (and_le_r (b % 2) (d % 2)) in
    let second : bit_and c e % 2 ≤ e % 2 = rw (and_mod c e 1) (and_le_r (c % 2) (e % 2)) in
    let digit : min (bit_and b d % 2) (bit_and c e % 2) ≡ 0 = omega arith in
    and_step (bit_and b d) (bit_and c e)
    ∙ ap₂ (λ (x y : ℕ). x * 2 + y)
    (ap₂ bit_and (and_shr b d 1) (and_shr c e 1 ∙ ap (bit_and (c / 2)) half) ∙ disjoint n (b / 2) (c / 2) (d / 2) (omega arith)) digit

pub mix_g_sum : (b c d : ℕ) → d < 4294967296 → bit_and c (complement d) + bit_and b d ≡ mix_g b c d
unfolding mix_g
mix_g_sum b c d h =
    let e = or_disjoint (bit_and b d) (bit_and c (complement d)) (disjoint 32 b c d h) in
    let turned : bit_and c (complement d) + bit_and b d ≡ bit_and b d + bit_and c (complement d) = omega arith in
    turned ∙ sym e

-- rows of steps one behind the other
module _ (mix : ℕ → ℕ → ℕ → ℕ) (block : List ℕ) where
  pub steps_append : (w : Words) (xs ys : List (ℕ × ℕ × ℕ)) → steps mix block w (xs ++ ys) ≡ steps mix block (steps mix block w xs) ys
  unfolding steps
  steps_append w [] ys = refl
  steps_append w (x ∷ xs) ys = steps_append (step mix w (block_word block x.0) x.1 (sine x.2)) xs ys

-- a block more, of what is left
pub blocks_turn : (w : Words) (rest block next : List ℕ) → rest ≡ block ++ next → length block ≡ 64
    → blocks (length rest / 64) w rest ≡ blocks (length next / 64) (compressed w block) next
unfolding blocks
blocks_turn w rest block next e n =
    let len : length rest ≡ length block + length next = ap length e ∙ length-append block next in
    let count : length rest / 64 ≡ suc (length next / 64) = omega arith in
    let first : take 64 rest ≡ block = rw (e, ← n) (take-append_seam block next) in
    let after : drop 64 rest ≡ next = rw (e, ← n) (drop-append_seam block next) in
    ap (λ (k : ℕ). blocks k w rest) count ∙ ap₂ (λ (b m : List ℕ). blocks (length next / 64) (compressed w b) m) first after

pub blocks_ended : (w : Words) (rest : List ℕ) → length rest < 64 → blocks (length rest / 64) w rest ≡ w
unfolding blocks
blocks_ended w rest h =
    let none : length rest / 64 ≡ 0 = omega arith in
    ap (λ (k : ℕ). blocks k w rest) none
