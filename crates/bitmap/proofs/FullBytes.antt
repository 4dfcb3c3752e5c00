-- Full bytes and the lowest missing index: the index is found by passing over full bytes and taking the lowest clear bit of the byte
-- that follows. Assumes nothing.
use Prim.Native.Nat.{ℕ, zero, suc, ◌+◌, ◌*◌, ◌/◌, ◌%◌, ◌-◌, ◌^◌, ◌≤◌, ◌<◌, min}
use native.Mathlib.Nat.{not-suc-le-zero, one-mul}
use native.Mathlib.Decide.{dec_lt}
use native.Mathlib.Omega.{arith}
use mathlib.Core.Path.{◌≡◌, refl, sym, ◌∙◌, ap}
use mathlib.Core.Bool.{Bool, true, false, ◌&&◌, ◌||◌}
use mathlib.Core.Logic.{⊎_elim}
use mathlib.Core.List.{List, [], ◌∷◌, ◌++◌}
use lib.Count.{count_trailing_zeros}
use lib.Dec.{eqb, ltb}
use lib.ListN.{length, take, drop, get_or, replicate, length-take, length-drop, take-append-drop, get_or-eq_default}
use lib.Pointwise.{pointwise}
use lib.Pow.{shl_exact}
use lib.Seq.{get_or-take, drop-drop}
use borrow.Author.Tests.{eqb-true, eqb-false, ltb-true}
use Rattle.basis.specs.Choice.{pick}
use Rattle.basis.proofs.Choosing.{and_left, and_right, or_either}
use Rattle.bitmap.specs.Bitmap.{marked, missing_from, lowest_missing}
use Rattle.std.proofs.lemmas.List.{take_all}
use Rattle.std.specs.Cmp.Lexicographic.{same_text}
use Rattle.std.specs.List.{prefix_len}
use Rattle.std.specs.Simd.{first_chunks}
use Rattle.std.proofs.lemmas.List.Sums.{prefix_len-le-length, prefix_len_passes, prefix_len_stops}
use Rattle.std.proofs.Common.{inl, inr}
use Rattle.std.proofs.lemmas.Bool.{cases_Bool}
use Rattle.bitmap.proofs.Bitmaps.{below_suc, lowest_le, lowest_below, lowest_missing_lem, lowest_unique}

-- ---- full bytes: the test of a byte, and of eight

abbrev byte_full : ℕ → Bool
byte_full b = eqb b 255

abbrev eight_full : List ℕ → Bool
eight_full eight = pointwise eqb eight (replicate 8 255)

-- eight full bytes passed, and those behind them
eight_more : (bytes : List ℕ) → take 8 bytes ≡ replicate 8 255 → prefix_len byte_full bytes ≡ 8 + prefix_len byte_full (drop 8 bytes)
eight_more bytes e =
    let whole : bytes ≡ replicate 8 255 ++ drop 8 bytes = sym (take-append-drop 8 bytes) ∙ ap (λ (xs : List ℕ). xs ++ drop 8 bytes) e in
    ap (prefix_len byte_full) whole ∙ omega arith

eights_passed : (t : List ℕ → Bool) → ((xs : List ℕ) → t xs ≡ true → xs ≡ replicate 8 255) → (n : ℕ) (bytes : List ℕ) →
    let m : ℕ = prefix_len t (first_chunks 8 n bytes) in
    prefix_len byte_full bytes ≡ 8 * m + prefix_len byte_full (drop (8 * m) bytes)
eights_passed t h zero bytes = omega arith
eights_passed t h (suc n) bytes = elim (cases_Bool (t (take 8 bytes))) [
  | inl all ↦
      let m : ℕ = prefix_len t (first_chunks 8 n (drop 8 bytes)) in
      let later = eights_passed t h n (drop 8 bytes) in
      let rest : drop (8 * m) (drop 8 bytes) ≡ drop (8 * (1 + m)) bytes =
      drop-drop (8 * m) 8 bytes ∙ ap (λ (k : ℕ). drop k bytes) (omega arith) in
      rw all (eight_more bytes (h (take 8 bytes) all) ∙ rw (← rest) (omega (arith, later)))
  | inr none ↦ rw none (omega arith)
]

ones_are : (xs : List ℕ) → eight_full xs ≡ true → xs ≡ replicate 8 255
ones_are xs e = same_text xs (replicate 8 255) (sym e)

pub eights_and_rest : (bytes : List ℕ) (m n : ℕ) → m ≡ prefix_len eight_full (first_chunks 8 (length bytes / 8) bytes)
    → n ≡ prefix_len byte_full (take (length bytes - 8 * m) (drop (8 * m) bytes)) → 8 * m + n ≡ prefix_len byte_full bytes
eights_and_rest bytes m n e f =
    let all : take (length bytes - 8 * m) (drop (8 * m) bytes) ≡ drop (8 * m) bytes =
    take_all (length bytes - 8 * m) (drop (8 * m) bytes) (omega (arith, length-drop (8 * m) bytes)) in
    rw (f, all, e) (sym (eights_passed eight_full ones_are (length bytes / 8) bytes))

-- neither is longer than the bytes
pub eights_fit : (bytes : List ℕ) (eights : List (List ℕ)) (m : ℕ) → length eights ≡ length bytes / 8 → m ≡ prefix_len eight_full eights
    → 8 * m ≤ length bytes
eights_fit bytes eights m e f = omega (arith, e, f, prefix_len-le-length eight_full eights)

-- those behind them, as the code slices them
pub rest_fit : (bytes : List ℕ) (k n : ℕ) → n ≡ prefix_len byte_full (take (length bytes - k) (drop k bytes)) → n ≤ length bytes - k
rest_fit bytes k n e =
    omega (arith, e, prefix_len-le-length byte_full (take (length bytes - k) (drop k bytes)), length-take (length bytes - k) (drop k bytes))

-- ---- the weight of a bit

pub weight_lem : (index : ℕ) → 1 * 2 ^ (index % 8) % 256 ≡ 2 ^ (index % 8)
weight_lem index = shl_exact 1 (index % 8) 8 (omega arith) (omega arith) ∙ one-mul (2 ^ (index % 8))

-- ---- one byte: 256 values, tested by computation

tested : (ℕ → Bool) → ℕ → Bool
tested p zero = true
tested p (suc n) = p n && tested p n

tested_at : (p : ℕ → Bool) (n : ℕ) → tested p n ≡ true → (k : ℕ) → k < n → p k ≡ true
unfolding tested
tested_at p zero e = λ k l. absurd (not-suc-le-zero l)
tested_at p (suc n) e = below_suc (λ (k : ℕ). p k ≡ true) (tested_at p n (and_right (p n) (tested p n) e)) (and_left (p n) (tested p n) e)

clear_as_counted : ℕ → Bool
clear_as_counted b = eqb (count_trailing_zeros 8 (255 - b)) (lowest_missing (b ∷ []) 8)

full_or_clear : ℕ → Bool
full_or_clear b = eqb b 255 || ltb (lowest_missing (b ∷ []) 8) 8

all_as_counted : tested clear_as_counted 256 ≡ true
unfolding tested clear_as_counted count_trailing_zeros lowest_missing missing_from marked pick
all_as_counted = refl

all_full_or_clear : tested full_or_clear 256 ≡ true
unfolding tested full_or_clear lowest_missing missing_from marked pick
all_full_or_clear = refl

pub lowest_clear : (b : ℕ) → b < 256 → count_trailing_zeros 8 (255 - b) ≡ lowest_missing (b ∷ []) 8
unfolding clear_as_counted
lowest_clear b l = eqb-true (count_trailing_zeros 8 (255 - b)) (lowest_missing (b ∷ []) 8) (tested_at clear_as_counted 256 all_as_counted b l)

clear_below_8 : (b : ℕ) → b < 256 → (b ≡ 255 → ⊥) → lowest_missing (b ∷ []) 8 < 8
unfolding full_or_clear
clear_below_8 b l h =
    ⊎_elim (λ e. absurd (h (eqb-true b 255 e))) (λ e. ltb-true (lowest_missing (b ∷ []) 8) 8 e)
    (or_either (eqb b 255) (ltb (lowest_missing (b ∷ []) 8) 8) (tested_at full_or_clear 256 all_full_or_clear b l))

full_has_8 : lowest_missing (255 ∷ []) 8 ≡ 8
unfolding lowest_missing missing_from marked pick
full_has_8 = refl

-- ---- the whole map

-- an index's bit in its byte alone
marked_in_byte : (map : List ℕ) (j : ℕ) → marked map j ≡ marked (get_or map (j / 8) 0 ∷ []) (j % 8)
unfolding marked
marked_in_byte map j =
    let first : j % 8 / 8 ≡ 0 = omega arith in
    let same : j % 8 % 8 ≡ j % 8 = omega arith in
    rw (first, same)

-- below the lowest clear bit of its byte, an index is marked
marked_below_clear : (map : List ℕ) (j : ℕ) → j % 8 < lowest_missing (get_or map (j / 8) 0 ∷ []) 8 → marked map j ≡ true
marked_below_clear map j l = marked_in_byte map j ∙ lowest_below (get_or map (j / 8) 0 ∷ []) 8 (j % 8) l

module _ (map : List ℕ) (total end at : ℕ) (ends : end ≡ min (total / 8) (length map))
    (stop : at ≡ prefix_len byte_full (take end map)) where
  within : at ≤ end
  within = rw stop (omega (arith, prefix_len-le-length byte_full (take end map), length-take end map))

  passed-full : (k : ℕ) → k < at → get_or map k 0 ≡ 255
  passed-full k l =
      sym (get_or-take end map k 0 (omega (arith, within))) ∙ eqb-true _ 255 (prefix_len_passes byte_full (take end map) k 0 (rw stop at l))

  stopped : at < end → eqb (get_or map at 0) 255 ≡ false
  stopped l =
      let long : length (take end map) ≡ end = length-take end map ∙ omega arith in
      let none = prefix_len_stops byte_full (take end map) 0 (rw (← stop, long) l) in
      rw (← stop, get_or-take end map at 0 l) at none

  -- it stopped at a byte that is not full, behind the map's end, or at the byte that total ends in
  stopped-clear : get_or map at 0 < 256 → lowest_missing (get_or map at 0 ∷ []) 8 < total - 8 * at → lowest_missing (get_or map at 0 ∷ []) 8 < 8
  stopped-clear byte l = place (dec_lt at (length map)) (dec_lt at (total / 8))
    where
      place : Dec (at < length map) → Dec (at < total / 8) → lowest_missing (get_or map at 0 ∷ []) 8 < 8
      place (yes h) (yes k) = clear_below_8 (get_or map at 0) byte (eqb-false (get_or map at 0) 255 (stopped (omega arith)))
      place (yes h) (no k) = omega arith
      place (no h) k =
          let none : get_or map at 0 ≡ 0 = get_or-eq_default map 0 {n = at} (omega arith) in
          clear_below_8 (get_or map at 0) byte (λ e. omega arith)

  pub lowest_found : get_or map at 0 < 256
      → 8 * at + min (lowest_missing (get_or map at 0 ∷ []) 8) (total - 8 * at) ≡ lowest_missing map total
  lowest_found byte = lowest_unique map total found (omega (arith, within)) below here
    where
      bit : ℕ
      bit = lowest_missing (get_or map at 0 ∷ []) 8

      found : ℕ
      found = 8 * at + min bit (total - 8 * at)

      below : (j : ℕ) → j < found → marked map j ≡ true
      below j l = marked_below_clear map j (inside (dec_lt (j / 8) at))
        where
          inside : Dec (j / 8 < at) → j % 8 < lowest_missing (get_or map (j / 8) 0 ∷ []) 8
          inside (yes h) = rw (passed-full (j / 8) h, full_has_8) (omega arith)
          inside (no h) =
              let most : bit ≤ 8 = lowest_le (get_or map at 0 ∷ []) 8 in
              let same : j / 8 ≡ at = omega arith in
              rw same (omega arith)

      here : found < total → marked map found ≡ false
      here l =
          let clear : bit < 8 = stopped-clear byte (omega arith) in
          let byte_at : found / 8 ≡ at = omega arith in
          let bit_at : found % 8 ≡ bit = omega arith in
          marked_in_byte map found ∙ rw (byte_at, bit_at) (lowest_missing_lem (get_or map at 0 ∷ []) 8 clear)
