-- Pieces of a list, all of one length, as `as_chunks` has them, and what the loops read of them. Assumes nothing.
use Rattle.std.proofs.Common.{◌≡◌, ℕ, zero, suc, ◌+◌, ◌-◌, ◌*◌, ◌≤◌, ◌<◌, List, [], ◌∷◌, take, drop, get_or, refl, ap, ◌∙◌, arith, drop-drop}
use lib.Seq.{get_or-take, get_or-drop}
use Rattle.std.proofs.lemmas.List.{drop-take}
use Rattle.std.specs.Simd.{first_chunks}

pub chunk_is : (m n i : ℕ) (xs d : List ℕ) → i < n → get_or (first_chunks m n xs) i d ≡ take m (drop (m * i) xs)
chunk_is m zero i xs d h = absurd (omega arith)
chunk_is m (suc n) zero xs d h = let none : m * 0 ≡ 0 = omega arith in rw none refl
chunk_is m (suc n) (suc i) xs d h =
    let place : m * i + m ≡ m * suc i = grind arith in
    chunk_is m n i (drop m xs) d (omega arith) ∙ ap (take m) (drop-drop (m * i) m xs ∙ ap (λ (k : ℕ). drop k xs) (grind (arith, place)))

-- byte j of piece i
pub chunk_at : (m n i j : ℕ) (xs d : List ℕ) → i < n → j < m → get_or (get_or (first_chunks m n xs) i d) j 0 ≡ get_or xs (m * i + j) 0
chunk_at m n i j xs d h k = ap (λ (z : List ℕ). get_or z j 0) (chunk_is m n i xs d h) ∙ get_or-take m (drop (m * i) xs) j 0 k ∙ get_or-drop (m * i) xs j 0

take_of_take : (a b : ℕ) (xs : List ℕ) → a ≤ b → take a (take b xs) ≡ take a xs
take_of_take zero b xs h = refl
take_of_take (suc a) zero xs h = absurd (omega arith)
take_of_take (suc a) (suc b) [] h = refl
take_of_take (suc a) (suc b) (x ∷ xs) h = ap (◌∷◌ x) (take_of_take a b xs (omega arith))

-- eight bytes within a stretch of a list
within_stretch : (k m : ℕ) (xs : List ℕ) → k + 8 ≤ m → take 8 (drop k (take m xs)) ≡ take 8 (drop k xs)
within_stretch k m xs h =
    let parts : m ≡ k + (m - k) = omega arith in
    ap (λ (z : ℕ). take 8 (drop k (take z xs))) parts ∙ ap (take 8) (drop-take k (m - k) xs) ∙ take_of_take 8 (m - k) (drop k xs) (omega arith)

-- eight bytes of run i, from byte k of it on
pub run_part : (bytes d : List ℕ) (room n i k : ℕ) → 13 * n ≤ room → i < n → k ≤ 5
    → take 8 (drop k (get_or (first_chunks 13 n (take room (drop 13 bytes))) i d)) ≡ take 8 (drop (13 + 13 * i + k) bytes)
run_part bytes d room n i k e h low =
    ap (λ (z : List ℕ). take 8 (drop k z)) (chunk_is 13 n i (take room (drop 13 bytes)) d h)
    ∙ within_stretch k 13 (drop (13 * i) (take room (drop 13 bytes))) (omega arith)
    ∙ ap (take 8) (drop-drop k (13 * i) (take room (drop 13 bytes)))
    ∙ ap (λ (z : ℕ). take 8 (drop z (take room (drop 13 bytes)))) (omega arith)
    ∙ within_stretch (13 * i + k) room (drop 13 bytes) (omega arith)
    ∙ ap (take 8) (drop-drop (13 * i + k) 13 bytes ∙ ap (λ (z : ℕ). drop z bytes) (omega arith))
