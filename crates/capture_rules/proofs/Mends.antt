-- Where mending goes on, and what it finds. Assumes nothing.
use Prim.Native.Nat.{ℕ, zero, suc, ◌+◌, ◌-◌, ◌≤◌, ◌<◌}
use native.Mathlib.Omega.{arith}
use mathlib.Core.Path.{◌≡◌, sym, ◌∙◌, ap}
use mathlib.Core.Bool.{true, false}
use mathlib.Core.List.{List}
use lib.ListN.{length}
use borrow.Author.Tests.{leb-false}
use Rattle.basis.proofs.Choosing.{pick_yes, pick_no, by_cases}
use Rattle.capture_rules.specs.Capture.{Item, item_at}
use Rattle.capture_rules.specs.Mending.{sound, first_sound}

-- ---- the search, from what is left of it

module _ (capture : List ℕ) where
  pub sound_here : (at end : ℕ) → at < length capture → true ≡ sound capture at → first_sound capture (length capture - at) at ≡ end → at ≡ end
  unfolding first_sound
  sound_here at end h s e =
      let n : length capture - at ≡ suc (length capture - (at + 1)) = omega arith in
      sym (ap (λ (k : ℕ). first_sound capture k at) n ∙ pick_yes _ _ _ (sym s)) ∙ e

  pub sound_later : (at end : ℕ) → at < length capture → false ≡ sound capture at → first_sound capture (length capture - at) at ≡ end
      → first_sound capture (length capture - (at + 1)) (at + 1) ≡ end
  unfolding first_sound
  sound_later at end h s e =
      let n : length capture - at ≡ suc (length capture - (at + 1)) = omega arith in
      sym (ap (λ (k : ℕ). first_sound capture k at) n ∙ pick_no _ _ _ (sym s)) ∙ e

  pub sound_none : (at end : ℕ) → length capture ≤ at → first_sound capture (length capture - at) at ≡ end → at ≡ end
  unfolding first_sound
  sound_none at end h e =
      let n : length capture - at ≡ 0 = omega arith in
      sym (ap (λ (k : ℕ). first_sound capture k at) n) ∙ e

  pub first_above : (most at : ℕ) → at ≤ first_sound capture most at
  unfolding first_sound
  first_above zero at = omega arith
  first_above (suc most) at =
      by_cases (λ (x : ℕ). at ≤ x) (λ _. omega arith) (λ _. omega (arith, first_above most (at + 1)))

-- ---- what mending finds, from what stands there

module _ (capture : List ℕ) (at : ℕ) where
  -- 20 and 21 are given before the end
  pub fault_within : {number : ℕ} → Item.fault number ≡ item_at capture at → at < length capture
  unfolding item_at
  fault_within {number} =
      by_cases P (λ _ e. let z : ◌≡◌ {A = ℕ} 0 1 = cc in absurd (omega arith)) (λ some e. leb-false _ _ some)
    where
      P : Item → Type 0
      P item = Item.fault number ≡ item → at < length capture
