-- Bytes, numbers and buffers as lists. Assumes nothing.
use Rattle.std.specs.Prelude.{ℕ, zero, suc, ◌+◌, ◌*◌, ◌/◌, ◌%◌, ◌<◌, Bool, true, false, ◌&&◌, List, [], ◌∷◌, ◌++◌, eqb, length, take, drop, get_or}

-- every element is a byte
unfoldable pub Bytes : List ℕ → Type 0
Bytes xs = (i : ℕ) → get_or xs i 0 < 256

-- a WORD, high byte first: at a place of a list, where a byte that is not there counts as 0, and as its two bytes
abbrev pub word_at : List ℕ → ℕ → ℕ
word_at xs at = get_or xs at 0 * 256 + get_or xs (at + 1) 0

abbrev pub word_bytes : ℕ → List ℕ
word_bytes n = n / 256 ∷ n % 256 ∷ []

-- a DWORD: two WORDs, the high one first
abbrev pub dword_at : List ℕ → ℕ → ℕ
dword_at xs at = word_at xs at * 65536 + word_at xs (at + 2)

abbrev pub dword_bytes : ℕ → List ℕ
dword_bytes n = word_bytes (n / 65536) ++ word_bytes (n % 65536)

-- a QWORD: two DWORDs, the high one first
unfoldable pub qword_at : List ℕ → ℕ → ℕ
qword_at xs at = dword_at xs at * 4294967296 + dword_at xs (at + 4)

unfoldable pub qword_bytes : ℕ → List ℕ
qword_bytes n = dword_bytes (n / 4294967296) ++ dword_bytes (n % 4294967296)

-- n elements from a place on, 0 for each that is not there
unfoldable pub part : List ℕ → ℕ → ℕ → List ℕ
part xs at zero = []
part xs at (suc n) = get_or xs at 0 ∷ part xs (suc at) n

-- the two lists are the same
unfoldable pub same : List ℕ → List ℕ → Bool
same [] [] = true
same [] (y ∷ ys) = false
same (x ∷ xs) [] = false
same (x ∷ xs) (y ∷ ys) = eqb x y && same xs ys

-- the buffer with p at its front, and the rest as it was
unfoldable pub over : List ℕ → List ℕ → List ℕ
over p buffer = p ++ drop (length p) buffer

-- the buffer with xs from a place on, and the rest as it was
unfoldable pub patched : ℕ → List ℕ → List ℕ → List ℕ
patched at xs buffer = take at buffer ++ (xs ++ drop (at + length xs) buffer)
