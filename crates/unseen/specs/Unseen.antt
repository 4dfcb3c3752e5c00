-- What the check cannot see at a distance (02, 2026-11): thirteen bytes 00 change nothing that an earlier byte left in the register, once one
-- more byte has followed that one. Each claim asks for a byte behind all that changes. Assumes nothing.
use Rattle.std.specs.Prelude.{ℕ, suc, ◌+◌, ◌*◌, ◌≤◌, ◌<◌, ◌≢◌, ◌≡◌, List, [], ◌∷◌, ◌++◌, length, take, drop, get_or, set, replicate}
use Rattle.std.specs.Int.Bits.{bit_xor}
use Rattle.checksum.specs.Check.{check_of, message_check}

-- bytes so far apart, or a multiple of it, are laid over each other
abbrev pub period : ℕ
period = 13

-- the bytes at two places exchanged
abbrev pub exchanged : List ℕ → (i j : ℕ) → List ℕ
exchanged m i j = set (set m i (get_or m j 0)) j (get_or m i 0)

-- one number xored into both
abbrev pub xored : List ℕ → (i j value : ℕ) → List ℕ
xored m i j value = set (set m i (bit_xor (get_or m i 0) value)) j (bit_xor (get_or m j 0) value)

-- fragments of an image, from an index on
abbrev pub fragments : (image : List ℕ) (size index count : ℕ) → List ℕ
fragments image size index count = take (count * size) (drop (index * size) image)

-- the fragment at an index and that behind so many others exchanged
abbrev pub fragments_exchanged : (image : List ℕ) (size index others : ℕ) → List ℕ
fragments_exchanged image size index others =
    let second : ℕ = suc (index + others) in
    take (index * size) image
    ++ (fragments image size second 1
    ++ (fragments image size (suc index) others
    ++ (fragments image size index 1 ++ drop (suc second * size) image)))

-- a block that can be put in or left out
abbrev pub Blank : List ℕ → Type 0
Blank block = (length block ≡ period) × (check_of (block ++ (0 ∷ [])) ≡ 0)

pub record Unseen : Type 0 where
  -- two bytes exchanged whose places differ by a multiple of the period
  pub bytes_exchanged : (m : List ℕ) (i k : ℕ) → let j : ℕ = i + period * suc k in
      j + 1 < length m → check_of (exchanged m i j) ≡ check_of m
  -- one number xored into both
  pub bytes_xored : (m : List ℕ) (i k value : ℕ) → let j : ℕ = i + period * suc k in
      j + 1 < length m → check_of (xored m i j value) ≡ check_of m
  -- two blocks of one length exchanged, at such a distance
  pub blocks_exchanged : (before first between second rest : List ℕ) (b k : ℕ) → length first ≡ length second
      → length first + length between ≡ period * k
      → check_of (before ++ (second ++ (between ++ (first ++ (b ∷ rest))))) ≡ check_of (before ++ (first ++ (between ++ (second ++ (b ∷ rest)))))
  -- two fragments of an image exchanged, where their indexes' distance times the size is a multiple of the period
  pub fragments_exchanged : (image : List ℕ) (size index others k : ℕ) → suc others * size ≡ period * k
      → suc (suc (index + others)) * size < length image → check_of (fragments_exchanged image size index others) ≡ check_of image
  -- a blank block put in or left out; thirteen bytes 00 are one, thirteen bytes FF too
  pub blank_left_out : (before block rest : List ℕ) (b : ℕ) → Blank block → check_of (before ++ (block ++ (b ∷ rest))) ≡ check_of (before ++ (b ∷ rest))
  pub zeros_blank : Blank (replicate period 0)
  pub ones_blank : Blank (replicate period 0xFF)
  -- of a message, two bytes of which the first is outside the check field, as the second then is; and a block behind the field
  pub message_exchanged : (m : List ℕ) (i k : ℕ) → let j : ℕ = i + period * suc k in
      i ≢ 4 → i ≢ 5 → j + 1 < length m → message_check (exchanged m i j) ≡ message_check m
  pub message_xored : (m : List ℕ) (i k value : ℕ) → let j : ℕ = i + period * suc k in
      i ≢ 4 → i ≢ 5 → j + 1 < length m → message_check (xored m i j value) ≡ message_check m
  pub message_blank_left_out : (before block rest : List ℕ) (b : ℕ) → 6 ≤ length before → Blank block
      → message_check (before ++ (block ++ (b ∷ rest))) ≡ message_check (before ++ (b ∷ rest))
