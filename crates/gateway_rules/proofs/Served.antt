-- What the result of a request for a fragment tells. Assumes nothing.
use Prim.Native.Nat.{ℕ, ◌<◌}
use native.Mathlib.Omega.{arith}
use mathlib.Core.Path.{◌≡◌, ◌∙◌}
use mathlib.Core.Bool.{true}
use mathlib.Core.List.{List}
use mathlib.Core.Logic.{◌⊎◌, inl, inr}
use lib.Dec.{eqb}
use borrow.Author.Tests.{eqb-true, ltb-true, lt-ltb}
use Rattle.basis.specs.Bytes.{same}
use Rattle.basis.proofs.Choosing.{by_cases, pick_yes, and_left, and_both, or_either}
use Rattle.message.specs.declared.Fields.{Fields}
use Rattle.gateway_record.specs.Record.{serve, run}
use Rattle.gateway_rules.specs.Decisions.{serving, fragment_result}

serving_phase : (phase : ℕ) → serving phase ≡ true → (phase ≡ serve) ⊎ (phase ≡ run)
unfolding serving
serving_phase phase e = or (or_either (eqb phase serve) _ e)
  where
    or : (eqb phase serve ≡ true) ⊎ (eqb phase run ≡ true) → (phase ≡ serve) ⊎ (phase ≡ run)
    or (inl e) = inl (eqb-true _ _ e)
    or (inr e) = inr (eqb-true _ _ e)

module _ (phase : ℕ) (f : Fields) (version : List ℕ) (index : ℕ) where
  -- 00: fragments are given in this phase, and the index is below the total
  pub given_tells : fragment_result phase f version index ≡ 0x00 → ((phase ≡ serve) ⊎ (phase ≡ run)) × (index < f.total)
  unfolding fragment_result
  given_tells =
      by_cases (λ (r : ℕ). r ≡ 0x00 → ((phase ≡ serve) ⊎ (phase ≡ run)) × (index < f.total))
      (λ t. by_cases (λ (r : ℕ). r ≡ 0x00 → ((phase ≡ serve) ⊎ (phase ≡ run)) × (index < f.total))
      (λ b _. (serving_phase phase (and_left _ (same version f.version) t), ltb-true _ _ b)) (λ _ z. absurd (omega (arith, z))))
      (λ _ z. absurd (omega (arith, z)))

  pub given : serving phase ≡ true → same version f.version ≡ true → index < f.total → fragment_result phase f version index ≡ 0x00
  unfolding fragment_result
  given s v l = pick_yes _ _ _ (and_both s v) ∙ pick_yes _ _ _ (lt-ltb _ _ l)
