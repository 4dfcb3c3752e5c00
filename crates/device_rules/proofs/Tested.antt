-- What the tests of a fragment tell. Assumes nothing.
use Prim.Native.Nat.{ℕ, ◌+◌, ◌≤◌, ◌<◌}
use native.Mathlib.Omega.{arith}
use mathlib.Core.Path.{◌≡◌, ◌∙◌}
use mathlib.Core.Bool.{Bool, true, false, not}
use mathlib.Core.List.{List, [], ◌∷◌}
use lib.Dec.{ltb}
use lib.ListN.{length}
use borrow.Author.Tests.{eqb-true, ltb-true, lt-ltb, not-true, not-false}
use Rattle.basis.specs.Choice.{refusal}
use Rattle.basis.specs.Numbers.{bad_index, bad_fragment_length, repeat_differs}
use Rattle.basis.specs.Bytes.{same}
use Rattle.basis.proofs.Choosing.{by_cases, passes, fails}
use Rattle.bitmap.specs.Bitmap.{marked}
use Rattle.message.specs.declared.Fields.{Fields}
use Rattle.device_record.proofs.Ranges.{between}
use Rattle.device_rules.specs.Decisions.{fragment_length, stored_bytes, repeat_refusal, fragment_refusal}

-- a fragment's length: at most size; size itself for all but the last
pub fragment_fits : (f : Fields) (index n : ℕ) → fragment_length f index n ≡ true → n ≤ f.size
unfolding fragment_length
fragment_fits f index n =
    by_cases (λ (t : Bool). t ≡ true → n ≤ f.size)
    (λ last e. (between 1 f.size n e).1)
    (λ other e. omega (arith, eqb-true n f.size e))

pub fragment_whole : (f : Fields) (index n : ℕ) → fragment_length f index n ≡ true → (index + 1 ≡ f.total → ⊥) → n ≡ f.size
unfolding fragment_length
fragment_whole f index n =
    by_cases (λ (t : Bool). t ≡ true → (index + 1 ≡ f.total → ⊥) → n ≡ f.size)
    (λ last e other. absurd (other (eqb-true (index + 1) f.total last)))
    (λ other e o. eqb-true n f.size e)

pub fragment_some : (f : Fields) (index n : ℕ) → fragment_length f index n ≡ true → 1 ≤ f.size → 1 ≤ n
unfolding fragment_length
fragment_some f index n =
    by_cases (λ (t : Bool). t ≡ true → 1 ≤ f.size → 1 ≤ n)
    (λ last e s. (between 1 f.size n e).0)
    (λ other e s. omega (arith, eqb-true n f.size e))

-- ---- the numbers 10, 11, and 12 or 23, in order

module _ (f : Fields) (last index : ℕ) (image map bytes : List ℕ) where
  abbrev number : ℕ
  number = fragment_refusal f last index image map bytes

  module _ (below : index < f.total) where
    within : number
        ≡ refusal ((bad_fragment_length, fragment_length f index (length bytes)) ∷ (repeat_refusal f last index image bytes, not (marked map index)) ∷ [])
    unfolding fragment_refusal
    within = passes bad_index (ltb index f.total) _ (lt-ltb index f.total below)

    module _ (long : fragment_length f index (length bytes) ≡ true) where
      whole : number ≡ refusal ((repeat_refusal f last index image bytes, not (marked map index)) ∷ [])
      whole = within ∙ passes bad_fragment_length _ _ long

      none : marked map index ≡ false → refusal ((repeat_refusal f last index image bytes, not (marked map index)) ∷ []) ≡ 0
      unfolding refusal
      none e = passes (repeat_refusal f last index image bytes) (not (marked map index)) [] (rw e)

      pub new_one : marked map index ≡ false → number ≡ 0
      new_one e = whole ∙ none e

      pub repeated : marked map index ≡ true → number ≡ repeat_refusal f last index image bytes
      repeated e = whole ∙ fails (repeat_refusal f last index image bytes) (not (marked map index)) [] (rw e)

  -- a repeat is 12 or 23, and 23 where the bytes are others
  pub repeat_some : repeat_refusal f last index image bytes ≡ 0 → ⊥
  unfolding repeat_refusal
  repeat_some = by_cases (λ (n : ℕ). n ≡ 0 → ⊥) (λ _ z. omega arith) (λ _ z. omega arith)

  repeat-differs : repeat_refusal f last index image bytes ≡ repeat_differs → same bytes (stored_bytes f last index image) ≡ false
  unfolding repeat_refusal
  repeat-differs = by_cases (λ (n : ℕ). n ≡ repeat_differs → same bytes (stored_bytes f last index image) ≡ false) (λ _ z. absurd (omega arith)) (λ t _. t)

  -- what is known where none of them arises
  pub record Passed : Type 0 where
    pub below : index < f.total
    pub long : fragment_length f index (length bytes) ≡ true
    pub new : marked map index ≡ false

  -- what is known where 23 does
  pub record Differs : Type 0 where
    pub below : index < f.total
    pub long : fragment_length f index (length bytes) ≡ true
    pub stored : marked map index ≡ true
    pub other : same bytes (stored_bytes f last index image) ≡ false

  pub fragment_passed : number ≡ 0 → Passed
  unfolding fragment_refusal refusal
  fragment_passed =
      by_cases (λ (n : ℕ). n ≡ 0 → Passed)
      (λ below. by_cases (λ (n : ℕ). n ≡ 0 → Passed)
      (λ long. by_cases (λ (n : ℕ). n ≡ 0 → Passed)
      (λ new _. record { below = ltb-true index f.total below; long = long; new = not-true _ new })
      (λ _ z. absurd (repeat_some z)))
      (λ _ z. absurd (omega arith)))
      (λ _ z. absurd (omega arith))

  pub fragment_differs : number ≡ repeat_differs → Differs
  unfolding fragment_refusal refusal
  fragment_differs =
      by_cases (λ (n : ℕ). n ≡ repeat_differs → Differs)
      (λ below. by_cases (λ (n : ℕ). n ≡ repeat_differs → Differs)
      (λ long. by_cases (λ (n : ℕ). n ≡ repeat_differs → Differs)
      (λ _ z. absurd (omega arith))
      (λ old z. record { below = ltb-true index f.total below; long = long; stored = not-false _ old; other = repeat-differs z }))
      (λ _ z. absurd (omega arith)))
      (λ _ z. absurd (omega arith))
