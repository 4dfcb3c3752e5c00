-- Laws of the two layouts: how a record is put into a buffer part by part. Assumes nothing.
use Prim.Native.Nat.{ℕ, ◌+◌, ◌≤◌, ◌<◌}
use native.Mathlib.Omega.{arith}
use mathlib.Core.Path.{◌≡◌, ◌∙◌, ap}
use mathlib.Core.List.{List, ◌++◌, append_assoc}
use lib.ListN.{length, length-append}
use borrow.Author.Tests.{le-leb, lt-leb}
use Rattle.basis.specs.Bytes.{over, patched}
use Rattle.basis.proofs.Choosing.{pick_yes, pick_no}
use Rattle.basis.proofs.Lists.{patched_front, put_behind}
use Rattle.device_record.specs.declared.Device.{Device}
use Rattle.layout_rules.specs.Layout.{front_bytes, front_length, kept}

-- ---- a record put into a buffer, part by part

module _ (o : List ℕ) where
  front : (xs o₁ : List ℕ) → o₁ ≡ patched 0 xs o → o₁ ≡ over xs o
  front xs o₁ e = e ∙ patched_front xs o

  -- three parts, and four
  three : (a b c o₁ o₂ o₃ : List ℕ) (j k : ℕ) → length a ≡ j → j + length b ≡ k
      → o₁ ≡ patched 0 a o → o₂ ≡ patched j b o₁ → o₃ ≡ patched k c o₂ → o₃ ≡ over (a ++ (b ++ c)) o
  three a b c o₁ o₂ o₃ j k h i e f g =
      put_behind (a ++ b) c o o₂ o₃ k (put_behind a b o o₁ o₂ j (front a o₁ e) h f) (length-append a b ∙ omega arith) g
      ∙ ap (λ (p : List ℕ). over p o) (append_assoc a b c)

  four : (a b c d o₁ o₂ o₃ o₄ : List ℕ) (j k l : ℕ) → length a ≡ j → j + length b ≡ k → k + length c ≡ l
      → o₁ ≡ patched 0 a o → o₂ ≡ patched j b o₁ → o₃ ≡ patched k c o₂ → o₄ ≡ patched l d o₃ → o₄ ≡ over (a ++ (b ++ (c ++ d))) o
  four a b c d o₁ o₂ o₃ o₄ j k l h i m e f g q =
      put_behind (a ++ (b ++ c)) d o o₃ o₄ l (three a b c o₁ o₂ o₃ j k h i e f g) (simp length-append (omega arith)) q
      ∙ ap (λ (p : List ℕ). over p o) (append_assoc a (b ++ c) d ∙ ap (λ (t : List ℕ). a ++ t) (append_assoc b c d))

-- ---- the two records

pub front_length_lem : (d : Device) → length d.running ≡ 16 → length d.fields.version ≡ 16 → length (front_bytes d) ≡ front_length
unfolding front_bytes
front_length_lem d r v = simp (length-append, r, v) (omega arith)

-- ---- the buffer after a call

module _ (room : ℕ) (new buffer : List ℕ) where
  pub kept_short : length buffer < room → kept room new buffer ≡ buffer
  unfolding kept
  kept_short h = pick_no _ _ _ (lt-leb room (length buffer) h)

  pub kept_new : room ≤ length buffer → kept room new buffer ≡ over new buffer
  unfolding kept
  kept_new h = pick_yes _ _ _ (le-leb room (length buffer) h)
