-- What mend answers lies within the buffers. Assumes nothing.
use Prim.Native.Nat.{ℕ, ◌≤◌}
use native.Mathlib.Omega.{arith}
use mathlib.Core.Path.{◌≡◌}
use mathlib.Core.List.{List}
use lib.ListN.{length, drop, length-append}
use Rattle.basis.specs.Bytes.{over}
use Rattle.basis.proofs.Choosing.{by_cases}
use Rattle.capture_rules.specs.Mended.{mended_bytes}
use Rattle.text.specs.Text.{newline, number_text}
use Rattle.text.proofs.Fronting.{text_within}
use Rattle.mending.specs.Account.{Account, told_text, mend_of}

-- what is answered as written lies within the buffers
pub record Within (a : Account) : Type 0 where
  pub records : a.length ≤ length a.out
  pub lines : a.told ≤ length a.lines

over_within : (p o : List ℕ) → length p ≤ length (over p o)
unfolding over
over_within p o = omega (arith, length-append p (drop (length p) o))

pub account_within : (capture out told : List ℕ) {a : Account} → a ≡ mend_of capture out told → Within a
unfolding mend_of
account_within capture out told e =
    rw e (by_cases Within (λ _. record { records = omega arith; lines = text_within (number_text 21 newline) told 0 (omega arith) }) (λ _.
    by_cases Within (λ _. record { records = omega arith; lines = omega arith }) (λ _.
    record { records = over_within (mended_bytes capture) out; lines = over_within (told_text capture) told })))
