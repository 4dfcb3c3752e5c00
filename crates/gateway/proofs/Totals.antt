-- The total of a package whose length is in range.
use Rattle.std.proofs.Common.{◌≡◌, true, ℕ, [], ◌+◌, ◌-◌, ◌*◌, ◌<◌, ◌≤◌, List, length, arith, length-drop}
use Rattle.std.proofs.Math.Nat.{le-div_iff_mul-le, div-lt_iff_lt-mul}
use Rattle.std.proofs.lemmas.Grind.{common_steps}
use Rattle.message.specs.Limits.{total_ok}
use Rattle.message.specs.Messages.{fragment_ok}
use Rattle.gateway_record.specs.Record.{total_of, fragment_of}
use Rattle.basis.specs.Choice.{pick, one_of}
use Rattle.message.specs.declared.Fields.{Fields}
use Rattle.gateway_rules.specs.Decisions.{fragment_result}

module _ (n size : ℕ) (h : 0 < size) where
  at_least_one : 1 ≤ n → 1 ≤ total_of n size
  unfolding total_of
  at_least_one k = (le-div_iff_mul-le h).1 (omega arith)

  at_most : n ≤ 65535 * size → total_of n size < 65536
  unfolding total_of
  at_most k = (div-lt_iff_lt-mul h).1 (omega arith)

  pub below_total : (index : ℕ) → index < total_of n size → index * size < n
  unfolding total_of
  below_total index l =
      let covered : (index + 1) * size ≤ n + (size - 1) = (le-div_iff_mul-le h).0 (omega arith) in
      grind (arith, common_steps, covered)

pub announced_total_ok : (n size : ℕ) → 32 ≤ size → 1 ≤ n → n ≤ 65535 * size → total_ok (total_of n size) ≡ true
unfolding total_ok
announced_total_ok n size h k l = grind (arith, common_steps, at_least_one n size (omega arith) k, at_most n size (omega arith) l)

-- a fragment that is there is one that may be sent
pub fragment_there : (content : List ℕ) (size index : ℕ) → 32 ≤ size → size ≤ 1024 → index < total_of (length content) size →
    fragment_ok 0 (fragment_of content size index) ≡ true
unfolding fragment_ok fragment_of pick
fragment_there content size index h k l =
    grind (arith, common_steps, below_total (length content) size (omega arith) index l, length-drop (index * size) content)

-- and the two results that carry none
pub no_fragment : (phase : ℕ) (f : Fields) (version : List ℕ) (index : ℕ) → (fragment_result phase f version index ≡ 0 → ⊥) →
    fragment_ok (fragment_result phase f version index) [] ≡ true
unfolding fragment_ok fragment_result pick one_of
no_fragment phase f version index h = grind (arith, common_steps)
