-- Numbers as bytes, low-order byte first, and blocks out of bytes. Assumes nothing.
use Rattle.std.proofs.Common.{◌≡◌, ℕ, ◌+◌, ◌-◌, ◌/◌, ◌%◌, ◌≤◌}
use Rattle.std.proofs.Common.{List, ◌∷◌, ◌++◌, length, take, drop, replicate, ap, ap₂, sym, ◌∙◌, refl, arith, take-append-drop, length-take-le}
use Rattle.std.specs.Int.{to_le_bytes, w32, w64}
use Rattle.md5_rules.specs.declared.Words.{Words}
use Rattle.md5_rules.specs.declared.Md5.{Md5}
use Rattle.md5_rules.specs.Md5.{low_first, blocks}
use Rattle.md5_rules.specs.Stream.{state, feed_of}
use Rattle.md5_rules.proofs.Feeding.{feed_all, feed_append}

pub four_low : (n : ℕ) → to_le_bytes w32 n ≡ low_first 4 n
four_low n = ap₂ ◌∷◌ (omega arith) (ap₂ ◌∷◌ (omega arith) (ap₂ ◌∷◌ (omega arith) (ap₂ ◌∷◌ (omega arith) refl)))

pub eight_low : (n : ℕ) → to_le_bytes w64 n ≡ low_first 8 n
eight_low n =
    ap₂ ◌∷◌ (omega arith) (ap₂ ◌∷◌ (omega arith) (ap₂ ◌∷◌ (omega arith) (ap₂ ◌∷◌ (omega arith)
    (ap₂ ◌∷◌ (omega arith) (ap₂ ◌∷◌ (omega arith) (ap₂ ◌∷◌ (omega arith) (ap₂ ◌∷◌ (omega arith) refl)))))))

-- whole blocks, and what is left of the bytes
pub taken : (s end : Md5) (bytes front rest : List ℕ) (w : Words) (k : ℕ) → length s.block ≡ 64 → s.count % 64 ≡ 0 → 64 ≤ length bytes
    → k ≡ length bytes - length bytes % 64 → front ≡ take k bytes → rest ≡ drop k bytes → w ≡ blocks (length front / 64) s.words front
    → end ≡ feed_of (state w ((s.count + length front) % 18446744073709551616) (replicate 64 0)) rest → end ≡ feed_of s bytes
taken s end bytes front rest w k whole none long place f r b e =
    let len : length front ≡ k = ap length f ∙ length-take-le k bytes (omega arith) in
    e ∙ ap (λ (z : Words). feed_of (state z ((s.count + length front) % 18446744073709551616) (replicate 64 0)) rest) b
    ∙ ap (λ (z : Md5). feed_of z rest) (sym (feed_all s front whole none (omega arith) (omega arith)))
    ∙ sym (feed_append s front rest) ∙ ap (feed_of s) (ap₂ ◌++◌ f r ∙ take-append-drop k bytes)
