-- Laws of fragments at their places in the image: storing one leaves the places of the others, and the package's stretches at all places
-- make up the package. Assumes nothing.
use Prim.Native.Nat.{ℕ, zero, suc, ◌+◌, ◌*◌, ◌-◌, ◌≤◌, ◌<◌}
use native.Mathlib.Nat.{mul-le-mul_right, mul_comm, suc-mul, zero-mul, zero-add}
use native.Mathlib.Decide.{dec_le, dec_lt}
use native.Mathlib.Omega.{arith}
use mathlib.Core.Path.{◌≡◌, refl, sym, ◌∙◌, ap}
use mathlib.Core.List.{List, ◌++◌, append-nil, append_assoc}
use lib.ListN.{length, take, drop, length-append, length-drop, take-append-drop, drop_of_length-le}
use lib.Seq.{take-nil, take_at, drop_at, take_all, take-add, drop-drop, take-append-le, drop-append-le, drop-append-add, length-take-le}
use Rattle.basis.specs.Bytes.{over, patched}

-- ---- parts of a buffer that was written over

-- the bytes stand in the buffer from a place on
abbrev pub Stands : List ℕ → ℕ → List ℕ → Type 0
Stands image at bytes = take (length bytes) (drop at image) ≡ bytes

pub part_of_front : (p q : List ℕ) (k n : ℕ) → k + n ≤ length p → take n (drop k (p ++ q)) ≡ take n (drop k p)
part_of_front p q k n h = rw (drop-append-le k p q (omega arith), take-append-le n (drop k p) q (simp length-drop (omega arith)))

pub drop_over : (p o : List ℕ) (k : ℕ) → length p ≤ k → drop k (over p o) ≡ drop k o
unfolding over
drop_over p o k h =
    let past : k ≡ length p + (k - length p) = omega arith in
    rw past (rw (drop-append-add p (drop (length p) o) (k - length p), drop-drop))

module _ (at : ℕ) (xs image : List ℕ) (room : at + length xs ≤ length image) where
  front_length_lem : length (take at image) ≡ at
  front_length_lem = length-take-le at image (omega arith)

  pub patched_stands : Stands (patched at xs image) at xs
  unfolding patched
  patched_stands =
      rw (drop_at (take at image) (xs ++ drop (at + length xs) image) at front_length_lem) (take_at xs (drop (at + length xs) image) (length xs) refl)

  pub before_patched : (k n : ℕ) → k + n ≤ at → take n (drop k (patched at xs image)) ≡ take n (drop k image)
  unfolding patched
  before_patched k n h =
      part_of_front (take at image) (xs ++ drop (at + length xs) image) k n (omega (arith, front_length_lem))
      ∙ sym (part_of_front (take at image) (drop at image) k n (omega (arith, front_length_lem)))
      ∙ ap (λ (l : List ℕ). take n (drop k l)) (take-append-drop at image)

  pub drop_patched : (k : ℕ) → at + length xs ≤ k → drop k (patched at xs image) ≡ drop k image
  unfolding patched over
  drop_patched k h =
      let front : length (take at image ++ xs) ≡ at + length xs = simp (length-append, front_length_lem) in
      ap (drop k)
      (sym (append_assoc (take at image) xs (drop (at + length xs) image)) ∙ ap (λ (n : ℕ). take at image ++ xs ++ drop n image) (sym front))
      ∙ drop_over (take at image ++ xs) image k (omega arith)

-- ---- places of fragments: the one of an index starts at index times size

pub place_within : (size total index n : ℕ) → index < total → n ≤ size → index * size + n ≤ size * total
place_within size total index n l h = omega (arith, mul-le-mul_right size l, suc-mul index size, mul_comm size total)

module _ (size index : ℕ) (xs image : List ℕ) (fits : length xs ≤ size) (room : index * size + length xs ≤ length image) where
  pub other_place : (j n : ℕ) → (j ≡ index → ⊥) → n ≤ size
      → take n (drop (j * size) (patched (index * size) xs image)) ≡ take n (drop (j * size) image)
  other_place j n d h = side (dec_lt j index)
    where
      side : Dec (j < index) → take n (drop (j * size) (patched (index * size) xs image)) ≡ take n (drop (j * size) image)
      side (yes l) = before_patched (index * size) xs image room (j * size) n (omega (arith, mul-le-mul_right size l, suc-mul j size))
      side (no l) =
          let after : index < j = omega arith in
          ap (take n) (drop_patched (index * size) xs image room (j * size) (omega (arith, mul-le-mul_right size after, suc-mul index size)))

-- ---- the package from its stretches

pub stands_append : (image : List ℕ) (at : ℕ) (p q : List ℕ) → Stands image at p → Stands image (at + length p) q → Stands image at (p ++ q)
stands_append image at p q e f =
    rw (length-append p q, take-add (length p) (length q) (drop at image), e, drop-drop (length p) at image, f)

module _ (size : ℕ) (content image : List ℕ) where
  -- the stretches at the first n places make up the package's front
  front-joined : (n : ℕ) → ((i : ℕ) → i < n → Stands image (i * size) (take size (drop (i * size) content)))
      → Stands image 0 (take (n * size) content)
  front-joined zero h = rw zero-mul
  front-joined (suc n) h =
      rw (suc-mul n size, take-add (n * size) size content) (next (front-joined n (λ i l. h i (omega arith))) (dec_le (n * size) (length content)))
    where
      next : Stands image 0 (take (n * size) content) → Dec (n * size ≤ length content)
          → Stands image 0 (take (n * size) content ++ take size (drop (n * size) content))
      next front (yes l) =
          stands_append image 0 (take (n * size) content) (take size (drop (n * size) content)) front
          (rw (length-take-le (n * size) content l, zero-add) (h n (omega arith)))
      next front (no l) = rw (drop_of_length-le content {i = n * size} (omega arith), take-nil {A = ℕ} size, append-nil) front

  pub joined : (total : ℕ) → length content ≤ size * total → ((i : ℕ) → i < total → Stands image (i * size) (take size (drop (i * size) content)))
      → take (length content) image ≡ content
  joined total l h = rw (take_all (total * size) content (omega (arith, mul_comm size total))) at (front-joined total h)
