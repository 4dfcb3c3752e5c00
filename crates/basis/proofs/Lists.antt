-- Laws of lists as buffers: parts, WORDs, and what is written over a buffer. Assumes nothing.
use Prim.Native.Nat.{ℕ, zero, suc, ◌+◌, ◌*◌, ◌/◌, ◌%◌, ◌-◌, ◌≤◌, ◌<◌}
use native.Mathlib.Nat.{zero-add, add-zero, add-suc, suc-add}
use native.Mathlib.Numerals.{add-one}
use native.Mathlib.Decide.{dec_le}
use native.Mathlib.Omega.{arith}
use mathlib.Core.Path.{◌≡◌, refl, sym, ◌∙◌, ap, ap₂}
use mathlib.Core.Bool.{Bool, true, false, false≢true, true≢false}
use mathlib.Core.List.{List, [], ◌∷◌, ◌++◌, append_assoc, append-nil}
use lib.Dec.{eqb}
use lib.ListN.{length, take, drop, get_or, length-append, length-take, length-drop, take-append-drop, drop_of_length-le, replicate}
use lib.ListN.{get_or-eq_default}
use lib.Seq.{drop-cons, take_at, drop_at, drop-append-add, drop-drop, take_all, length-take-le, get_or-drop, take-length}
use borrow.Author.Tests.{eqb-true, eq-eqb, ne_eqb}
use Rattle.basis.specs.Choice.{one_of}
use Rattle.basis.specs.Bytes.{Bytes, word_at, word_bytes, dword_at, dword_bytes, qword_at, qword_bytes, part, same, over, patched}
use Rattle.basis.proofs.Choosing.{and_left, and_right, and_both}

-- ---- numbers

-- ---- the same list

pub same_true : (xs ys : List ℕ) → same xs ys ≡ true → xs ≡ ys
unfolding same
same_true [] [] e = refl
same_true [] (y ∷ ys) e = absurd (false≢true e)
same_true (x ∷ xs) [] e = absurd (false≢true e)
same_true (x ∷ xs) (y ∷ ys) e = ap₂ ◌∷◌ (eqb-true x y (and_left (eqb x y) (same xs ys) e)) (same_true xs ys (and_right (eqb x y) (same xs ys) e))

pub same_refl : (xs : List ℕ) → same xs xs ≡ true
unfolding same
same_refl [] = refl
same_refl (x ∷ xs) = and_both (eq-eqb x x refl) (same_refl xs)

pub same_eq : (xs ys : List ℕ) → xs ≡ ys → same xs ys ≡ true
same_eq xs ys e = rw (← e) (same_refl xs)

pub same_swap : (xs ys : List ℕ) → same xs ys ≡ false → same ys xs ≡ false
same_swap xs ys e = at (same ys xs) refl
  where
    at : (t : Bool) → same ys xs ≡ t → same ys xs ≡ false
    at true t = absurd (true≢false (sym (same_eq xs ys (sym (same_true ys xs t))) ∙ e))
    at false t = t

-- ---- parts

pub length_part : (xs : List ℕ) (at n : ℕ) → length (part xs at n) ≡ n
unfolding part
length_part xs at zero = refl
length_part xs at (suc n) = ap suc (length_part xs (suc at) n)

pub part_within : (xs : List ℕ) (at n : ℕ) → at + n ≤ length xs → part xs at n ≡ take n (drop at xs)
unfolding part
part_within xs at zero h = refl
part_within xs at (suc n) h =
    let k : at < length xs = omega (arith, add-suc at n) in
    rw (drop-cons xs at 0) (ap (λ (l : List ℕ). get_or xs at 0 ∷ l) (part_within xs (suc at) n (omega (arith, add-suc at n, suc-add at n))))

pub part_none : (xs : List ℕ) (at n : ℕ) → length xs ≤ at → part xs at n ≡ replicate n 0
unfolding part
part_none xs at zero h = refl
part_none xs at (suc n) h =
    let k : length xs ≤ suc at = omega arith in
    ap₂ ◌∷◌ (get_or-eq_default xs 0 {n = at} h) (part_none xs (suc at) n k)

-- a part is what is there, filled up with zeros
pub part_filled : (xs : List ℕ) (at n : ℕ) → part xs at n ≡ over (take n (drop at xs)) (replicate n 0)
unfolding part over
part_filled xs at zero = refl
part_filled xs at (suc n) = go (dec_le (length xs) at) (part_filled xs (suc at) n)
  where
    go : Dec (length xs ≤ at) → part xs (suc at) n ≡ over (take n (drop (suc at) xs)) (replicate n 0)
        → part xs at (suc n) ≡ over (take (suc n) (drop at xs)) (replicate (suc n) 0)
    go (yes h) rest = rw (drop_of_length-le xs h) (part_none xs at (suc n) h)
    go (no h) rest =
        let k : at < length xs = omega arith in
        rw (drop-cons xs at 0) (ap (λ (l : List ℕ). get_or xs at 0 ∷ l) rest)

-- two parts, one behind the other, and one element more
pub part_add : (xs : List ℕ) (at n k : ℕ) → part xs at (n + k) ≡ part xs at n ++ part xs (at + n) k
unfolding part
part_add xs at zero k = rw (zero-add k, add-zero at)
part_add xs at (suc n) k = rw (suc-add n k) (ap (λ (l : List ℕ). get_or xs at 0 ∷ l) (part_add xs (suc at) n k ∙ rw (suc-add at n, add-suc at n)))

pub part_more : (xs : List ℕ) (at n : ℕ) → part xs at (n + 1) ≡ part xs at n ++ (get_or xs (at + n) 0 ∷ [])
unfolding part
part_more xs at n = part_add xs at n 1

-- from a later place on
pub part_drop : (k : ℕ) (xs : List ℕ) (at n : ℕ) → part (drop k xs) at n ≡ part xs (k + at) n
unfolding part
part_drop k xs at zero = refl
part_drop k xs at (suc n) = ap₂ ◌∷◌ (get_or-drop k xs at 0) (part_drop k xs (suc at) n ∙ rw (add-suc k at))

-- what stands at the front, and the whole
pub part_front : (xs ys : List ℕ) (n : ℕ) → length xs ≡ n → part (xs ++ ys) 0 n ≡ xs
part_front xs ys n e = part_within (xs ++ ys) 0 n (simp length-append (omega arith)) ∙ take_at xs ys n e

pub part_whole : (xs : List ℕ) → part xs 0 (length xs) ≡ xs
part_whole xs = part_within xs 0 (length xs) (omega arith) ∙ take-length xs

-- what is left from a place on is a part
pub part_rest : (xs : List ℕ) (k : ℕ) → part xs k (length (drop k xs)) ≡ drop k xs
part_rest xs k = ap (λ (at : ℕ). part xs at (length (drop k xs))) (sym (add-zero k)) ∙ sym (part_drop k xs 0 (length (drop k xs))) ∙ part_whole (drop k xs)

-- a list that is a part of another from its start is the same as it where the lengths are
pub same_part : (xs d : List ℕ) → xs ≡ part d 0 (length xs) → same xs d ≡ eqb (length xs) (length d)
same_part xs d e = go (same xs d) refl
  where
    go : (b : Bool) → same xs d ≡ b → b ≡ eqb (length xs) (length d)
    go true p = sym (eq-eqb (length xs) (length d) (ap length (same_true xs d p)))
    go false p =
        sym
        (ne_eqb (length xs) (length d)
        (λ q. false≢true (sym p ∙ same_eq xs d (e ∙ ap (part d 0) q ∙ part_whole d))))

-- ---- WORDs, DWORDs, QWORDs

-- past the end
pub word_none : (xs : List ℕ) (at : ℕ) → length xs ≤ at → word_at xs at ≡ 0
word_none xs at h =
    let k : length xs ≤ at + 1 = omega arith in
    rw (get_or-eq_default xs 0 {n = at} h, get_or-eq_default xs 0 {n = at + 1} k)

pub dword_none : (xs : List ℕ) (at : ℕ) → length xs ≤ at → dword_at xs at ≡ 0
dword_none xs at h =
    let k : length xs ≤ at + 2 = omega arith in
    rw (word_none xs at h, word_none xs (at + 2) k)

pub qword_none : (xs : List ℕ) (at : ℕ) → length xs ≤ at → qword_at xs at ≡ 0
unfolding qword_at
qword_none xs at h =
    let k : length xs ≤ at + 4 = omega arith in
    rw (dword_none xs at h, dword_none xs (at + 4) k)

module _ (xs : List ℕ) (at : ℕ) (h : Bytes xs) where
  pub word_high : word_at xs at / 256 ≡ get_or xs at 0
  unfolding Bytes
  word_high =
      let q : get_or xs (at + 1) 0 < 256 = h (at + 1) in
      omega arith

  pub word_low : word_at xs at % 256 ≡ get_or xs (at + 1) 0
  unfolding Bytes
  word_low =
      let q : get_or xs (at + 1) 0 < 256 = h (at + 1) in
      omega arith

-- every number of some bytes: its range, and the bytes that it stands for
module _ (xs : List ℕ) (h : Bytes xs) where
  pub word_below : (at : ℕ) → word_at xs at < 65536
  unfolding Bytes
  word_below at =
      let high : get_or xs at 0 < 256 = h at in
      let low : get_or xs (at + 1) 0 < 256 = h (at + 1) in
      omega arith

  pub word_part : (at : ℕ) → word_bytes (word_at xs at) ≡ part xs at 2
  unfolding part
  word_part at =
      ap₂ (λ (x y : ℕ). x ∷ y ∷ []) (word_high xs at h) (word_low xs at h ∙ ap (λ (i : ℕ). get_or xs i 0) (add-one at))

  pub dword_below : (at : ℕ) → dword_at xs at < 4294967296
  dword_below at =
      let high : word_at xs at < 65536 = word_below at in
      let low : word_at xs (at + 2) < 65536 = word_below (at + 2) in
      omega arith

  pub dword_part : (at : ℕ) → dword_bytes (dword_at xs at) ≡ part xs at 4
  dword_part at =
      let low : word_at xs (at + 2) < 65536 = word_below (at + 2) in
      let p : dword_at xs at / 65536 ≡ word_at xs at = omega arith in
      let q : dword_at xs at % 65536 ≡ word_at xs (at + 2) = omega arith in
      (λ i. word_bytes (p i) ++ word_bytes (q i)) ∙ (λ i. word_part at i ++ word_part (at + 2) i) ∙ sym (part_add xs at 2 2)

  pub qword_below : (at : ℕ) → qword_at xs at < 18446744073709551616
  unfolding qword_at
  qword_below at =
      let high : dword_at xs at < 4294967296 = dword_below at in
      let low : dword_at xs (at + 4) < 4294967296 = dword_below (at + 4) in
      omega arith

  pub qword_part : (at : ℕ) → qword_bytes (qword_at xs at) ≡ part xs at 8
  unfolding qword_at qword_bytes
  qword_part at =
      let low : dword_at xs (at + 4) < 4294967296 = dword_below (at + 4) in
      let p : qword_at xs at / 4294967296 ≡ dword_at xs at = omega arith in
      let q : qword_at xs at % 4294967296 ≡ dword_at xs (at + 4) = omega arith in
      (λ i. dword_bytes (p i) ++ dword_bytes (q i)) ∙ (λ i. dword_part at i ++ dword_part (at + 4) i) ∙ sym (part_add xs at 4 4)

-- a number's bytes are read as that number, whatever stands behind them
pub word_back : (n : ℕ) → word_at (word_bytes n) 0 ≡ n
word_back n = omega arith

pub dword_back : (n : ℕ) → dword_at (dword_bytes n) 0 ≡ n
dword_back n = omega arith

pub qword_back : (n : ℕ) (rest : List ℕ) → qword_at (qword_bytes n ++ rest) 0 ≡ n
unfolding qword_at qword_bytes
qword_back n rest =
    let both : n / 4294967296 * 4294967296 + n % 4294967296 ≡ n = omega arith in
    (λ i. dword_back (n / 4294967296) i * 4294967296 + dword_back (n % 4294967296) i) ∙ both

-- from a later place on, and behind some elements
pub word_drop : (k : ℕ) (xs : List ℕ) (at : ℕ) → word_at (drop k xs) at ≡ word_at xs (k + at)
word_drop k xs at =
    ap₂ (λ (x y : ℕ). x * 256 + y) (get_or-drop k xs at 0) (get_or-drop k xs (at + 1) 0 ∙ ap (λ (i : ℕ). get_or xs i 0) (omega arith))

dword_drop : (k : ℕ) (xs : List ℕ) (at : ℕ) → dword_at (drop k xs) at ≡ dword_at xs (k + at)
dword_drop k xs at =
    ap₂ (λ (x y : ℕ). x * 65536 + y) (word_drop k xs at) (word_drop k xs (at + 2) ∙ ap (λ (i : ℕ). word_at xs i) (omega arith))

pub qword_drop : (k : ℕ) (xs : List ℕ) (at : ℕ) → qword_at (drop k xs) at ≡ qword_at xs (k + at)
unfolding qword_at
qword_drop k xs at =
    ap₂ (λ (x y : ℕ). x * 4294967296 + y) (dword_drop k xs at) (dword_drop k xs (at + 4) ∙ ap (λ (i : ℕ). dword_at xs i) (omega arith))

pub word_behind : (p q : List ℕ) (n k : ℕ) → length p ≡ n → word_at (p ++ q) (n + k) ≡ word_at q k
word_behind p q n k e = sym (word_drop n (p ++ q) k) ∙ ap (λ (l : List ℕ). word_at l k) (drop_at p q n e)

-- ---- what is written over a buffer

pub patched_over : (p xs o : List ℕ) (at : ℕ) → length p ≡ at → patched at xs (over p o) ≡ over (p ++ xs) o
unfolding patched over
patched_over p xs o at e =
    rw (
      take_at p (drop (length p) o) at e,
      ← e,
      drop-append-add p (drop (length p) o) (length xs),
      drop-drop (length xs) (length p) o,
      length-append p xs,
      append_assoc,
    )

pub patched_front : (xs o : List ℕ) → patched 0 xs o ≡ over xs o
unfolding patched over
patched_front xs o = rw zero-add

-- one part more, behind those that were put
pub put_behind : (p xs o o₁ o₂ : List ℕ) (at : ℕ) → o₁ ≡ over p o → length p ≡ at → o₂ ≡ patched at xs o₁ → o₂ ≡ over (p ++ xs) o
put_behind p xs o o₁ o₂ at e l f = f ∙ ap (patched at xs) e ∙ patched_over p xs o at l

-- what fills a buffer is all that stands in it
pub filled : (xs o : List ℕ) → length o ≤ length xs → patched 0 xs o ≡ xs
unfolding over
filled xs o h = patched_front xs o ∙ ap (◌++◌ xs) (drop_of_length-le o h) ∙ append-nil xs

-- a patch is a longer front
pub patched_is_over : (at : ℕ) (xs o : List ℕ) → at ≤ length o → patched at xs o ≡ over (take at o ++ xs) o
unfolding patched over
patched_is_over at xs o h = rw (length-append, length-take-le at o h, append_assoc)

-- a patch behind a patch
pub patched_patched : (at next : ℕ) (xs ys o : List ℕ) → at ≤ length o → at + length xs ≡ next → patched next ys (patched at xs o) ≡ patched at (xs ++ ys) o
patched_patched at next xs ys o h e =
    let front : length (take at o ++ xs) ≡ next = simp length-append (omega (arith, length-take-le at o h)) in
    ap (patched next ys) (patched_is_over at xs o h) ∙ patched_over (take at o ++ xs) ys o next front
    ∙ ap (λ (p : List ℕ). over p o) (append_assoc (take at o) xs ys)
    ∙ sym (patched_is_over at (xs ++ ys) o h)

-- the buffer's own front changes nothing, and an element of a front is set in it
pub over_take : (n : ℕ) (o : List ℕ) → n ≤ length o → over (take n o) o ≡ o
unfolding over
over_take n o h = rw (length-take-le n o h) (take-append-drop n o)

pub length_patched : (at : ℕ) (xs o : List ℕ) → at + length xs ≤ length o → length (patched at xs o) ≡ length o
unfolding patched
length_patched at xs o h = simp (length-append, length-take, length-drop) (omega arith)

pub length_over : (p o : List ℕ) → length p ≤ length o → length (over p o) ≡ length o
unfolding over
length_over p o h = simp (length-append, length-drop) (omega arith)

pub take_over : (p o : List ℕ) → take (length p) (over p o) ≡ p
unfolding over
take_over p o = take_at p (drop (length p) o) (length p) refl

-- the part of a list from a place to its end, as the code's `&s[at..]` has it
pub rest_is : (at : ℕ) (o : List ℕ) → take (length o - at) (drop at o) ≡ drop at o
rest_is at o = take_all (length o - at) (drop at o) (simp length-drop (omega arith))

-- ---- one of a list, by what is left of it from a place on

pub one_of_none : (b : ℕ) (l : List ℕ) (i : ℕ) → length l ≤ i → one_of b (drop i l) ≡ false
unfolding one_of
one_of_none b l i h = rw (drop_of_length-le l h)
