-- MD5 by the steps of RFC 1321, to be read beside it; the sections are its own. Assumes nothing.
use Rattle.std.specs.Prelude.{ℕ, zero, suc, ◌+◌, ◌-◌, ◌*◌, ◌/◌, ◌%◌, ◌^◌, List, [], ◌∷◌, ◌++◌, length, take, drop, get_or, replicate}
use Rattle.std.specs.Int.Bits.{bit_and, bit_or, bit_xor}
use Rattle.md5_rules.specs.declared.Words.{Words}

-- ---- section 2: words

-- X + Y: addition modulo 4,294,967,296 (2)
infixl 65 ◌⊕◌
abbrev pub ◌⊕◌ : ℕ → ℕ → ℕ
x ⊕ y = (x + y) % 4294967296

-- X <<< s: the word rotated left by s bits, s from 1 to 31 (2)
infixl 60 ◌⋘◌
abbrev pub ◌⋘◌ : ℕ → ℕ → ℕ
x ⋘ s = bit_or (x * 2 ^ s % 4294967296) (x / 2 ^ (32 - s))

-- not(X): the complement of each bit (2)
abbrev pub complement : ℕ → ℕ
complement x = 4294967295 - x

-- so many bytes of a number, low-order byte first (2)
abbrev pub low_first : ℕ → ℕ → List ℕ
low_first zero n = []
low_first (suc k) n = n % 256 ∷ low_first k (n / 256)

-- ---- sections 3.1 and 3.2: padding and length

-- the length field behind n bytes (3.2): their number of bits modulo 2^64
abbrev pub length_field : ℕ → List ℕ
length_field n = low_first 8 (n * 8 % 18446744073709551616)

-- what is appended to n bytes: a bit 1 and bits 0 until the length in bytes is 56 modulo 64 (3.1), then the length field (3.2)
unfoldable pub padding_of : ℕ → List ℕ
padding_of n = (0x80 ∷ replicate ((119 - n % 64) % 64) 0x00) ++ length_field n

-- the message with its padding: a multiple of 64 bytes (3.1, 3.2)
unfoldable pub padded : List ℕ → List ℕ
padded m = m ++ padding_of (length m)

-- ---- section 3.3: the four words at the start

-- A, B, C and D: the bytes 01 23 45 67, 89 AB CD EF, FE DC BA 98, 76 54 32 10, low-order byte first (3.3)
abbrev pub start_words : Words
start_words = record { a = 0x67452301; b = 0xefcdab89; c = 0x98badcfe; d = 0x10325476 }

-- ---- section 3.4: a block of sixteen words

-- F(X, Y, Z) = XY v not(X) Z (3.4)
unfoldable pub mix_f : ℕ → ℕ → ℕ → ℕ
mix_f x y z = bit_or (bit_and x y) (bit_and (complement x) z)

-- G(X, Y, Z) = XZ v Y not(Z) (3.4)
unfoldable pub mix_g : ℕ → ℕ → ℕ → ℕ
mix_g x y z = bit_or (bit_and x z) (bit_and y (complement z))

-- H(X, Y, Z) = X xor Y xor Z (3.4)
unfoldable pub mix_h : ℕ → ℕ → ℕ → ℕ
mix_h x y z = bit_xor (bit_xor x y) z

-- I(X, Y, Z) = Y xor (X v not(Z)) (3.4)
unfoldable pub mix_i : ℕ → ℕ → ℕ → ℕ
mix_i x y z = bit_xor y (bit_or x (complement z))

-- the table T: element i, from 1 to 64, is the integer part of 4,294,967,296 times abs(sin(i)), i in radians (3.4)
unfoldable pub sines : List ℕ
sines =
    0xd76aa478 ∷ 0xe8c7b756 ∷ 0x242070db ∷ 0xc1bdceee ∷
    0xf57c0faf ∷ 0x4787c62a ∷ 0xa8304613 ∷ 0xfd469501 ∷
    0x698098d8 ∷ 0x8b44f7af ∷ 0xffff5bb1 ∷ 0x895cd7be ∷
    0x6b901122 ∷ 0xfd987193 ∷ 0xa679438e ∷ 0x49b40821 ∷
    0xf61e2562 ∷ 0xc040b340 ∷ 0x265e5a51 ∷ 0xe9b6c7aa ∷
    0xd62f105d ∷ 0x02441453 ∷ 0xd8a1e681 ∷ 0xe7d3fbc8 ∷
    0x21e1cde6 ∷ 0xc33707d6 ∷ 0xf4d50d87 ∷ 0x455a14ed ∷
    0xa9e3e905 ∷ 0xfcefa3f8 ∷ 0x676f02d9 ∷ 0x8d2a4c8a ∷
    0xfffa3942 ∷ 0x8771f681 ∷ 0x6d9d6122 ∷ 0xfde5380c ∷
    0xa4beea44 ∷ 0x4bdecfa9 ∷ 0xf6bb4b60 ∷ 0xbebfbc70 ∷
    0x289b7ec6 ∷ 0xeaa127fa ∷ 0xd4ef3085 ∷ 0x04881d05 ∷
    0xd9d4d039 ∷ 0xe6db99e5 ∷ 0x1fa27cf8 ∷ 0xc4ac5665 ∷
    0xf4292244 ∷ 0x432aff97 ∷ 0xab9423a7 ∷ 0xfc93a039 ∷
    0x655b59c3 ∷ 0x8f0ccc92 ∷ 0xffeff47d ∷ 0x85845dd1 ∷
    0x6fa87e4f ∷ 0xfe2ce6e0 ∷ 0xa3014314 ∷ 0x4e0811a1 ∷
    0xf7537e82 ∷ 0xbd3af235 ∷ 0x2ad7d2bb ∷ 0xeb86d391 ∷
    []

-- T[i] (3.4)
abbrev pub sine : ℕ → ℕ
sine i = get_or sines (i - 1) 0

-- X[k]: word k of a block, low-order byte first (2, 3.4)
unfoldable pub block_word : List ℕ → ℕ → ℕ
block_word block k =
    get_or block (k * 4) 0 + get_or block (k * 4 + 1) 0 * 256 + get_or block (k * 4 + 2) 0 * 65536 + get_or block (k * 4 + 3) 0 * 16777216

-- a = b + ((a + mix(b, c, d) + x + t) <<< s); then the words in the order of the next step, dabc (3.4)
unfoldable pub step : (ℕ → ℕ → ℕ → ℕ) → Words → (x s t : ℕ) → Words
step mix w x s t = record { a = w.d; b = w.b ⊕ ((w.a ⊕ mix w.b w.c w.d ⊕ x ⊕ t) ⋘ s); c = w.b; d = w.c }

-- steps [abcd k s i], each with X[k] and T[i] (3.4)
unfoldable pub steps : (ℕ → ℕ → ℕ → ℕ) → List ℕ → Words → List (ℕ × ℕ × ℕ) → Words
steps mix block w [] = w
steps mix block w (r ∷ rows) = steps mix block (step mix w (block_word block r.0) r.1 (sine r.2)) rows

-- round 1: its rows k s i (3.4)
abbrev pub first_round : List (ℕ × ℕ × ℕ)
first_round =
    (0, 7, 1) ∷ (1, 12, 2) ∷ (2, 17, 3) ∷ (3, 22, 4) ∷
    (4, 7, 5) ∷ (5, 12, 6) ∷ (6, 17, 7) ∷ (7, 22, 8) ∷
    (8, 7, 9) ∷ (9, 12, 10) ∷ (10, 17, 11) ∷ (11, 22, 12) ∷
    (12, 7, 13) ∷ (13, 12, 14) ∷ (14, 17, 15) ∷ (15, 22, 16) ∷
    []

-- round 2 (3.4)
abbrev pub second_round : List (ℕ × ℕ × ℕ)
second_round =
    (1, 5, 17) ∷ (6, 9, 18) ∷ (11, 14, 19) ∷ (0, 20, 20) ∷
    (5, 5, 21) ∷ (10, 9, 22) ∷ (15, 14, 23) ∷ (4, 20, 24) ∷
    (9, 5, 25) ∷ (14, 9, 26) ∷ (3, 14, 27) ∷ (8, 20, 28) ∷
    (13, 5, 29) ∷ (2, 9, 30) ∷ (7, 14, 31) ∷ (12, 20, 32) ∷
    []

-- round 3 (3.4)
abbrev pub third_round : List (ℕ × ℕ × ℕ)
third_round =
    (5, 4, 33) ∷ (8, 11, 34) ∷ (11, 16, 35) ∷ (14, 23, 36) ∷
    (1, 4, 37) ∷ (4, 11, 38) ∷ (7, 16, 39) ∷ (10, 23, 40) ∷
    (13, 4, 41) ∷ (0, 11, 42) ∷ (3, 16, 43) ∷ (6, 23, 44) ∷
    (9, 4, 45) ∷ (12, 11, 46) ∷ (15, 16, 47) ∷ (2, 23, 48) ∷
    []

-- round 4 (3.4)
abbrev pub fourth_round : List (ℕ × ℕ × ℕ)
fourth_round =
    (0, 6, 49) ∷ (7, 10, 50) ∷ (14, 15, 51) ∷ (5, 21, 52) ∷
    (12, 6, 53) ∷ (3, 10, 54) ∷ (10, 15, 55) ∷ (1, 21, 56) ∷
    (8, 6, 57) ∷ (15, 10, 58) ∷ (6, 15, 59) ∷ (13, 21, 60) ∷
    (4, 6, 61) ∷ (11, 10, 62) ∷ (2, 15, 63) ∷ (9, 21, 64) ∷
    []

-- the four rounds, with F, G, H and I (3.4)
unfoldable pub rounds : List ℕ → Words → Words
rounds block w = steps mix_i block (steps mix_h block (steps mix_g block (steps mix_f block w first_round) second_round) third_round) fourth_round

-- each word increased by what it was before the block (3.4)
unfoldable pub increased : Words → Words → Words
increased w end = record { a = end.a ⊕ w.a; b = end.b ⊕ w.b; c = end.c ⊕ w.c; d = end.d ⊕ w.d }

-- the words after a block (3.4)
unfoldable pub compressed : Words → List ℕ → Words
compressed w block = increased w (rounds block w)

-- the words after so many blocks of 64 bytes (3.4)
unfoldable pub blocks : ℕ → Words → List ℕ → Words
blocks zero w m = w
blocks (suc n) w m = blocks n (compressed w (take 64 m)) (drop 64 m)

-- ---- section 3.5: output

-- A, B, C, D, each low-order byte first (3.5)
unfoldable pub digest_of : Words → List ℕ
digest_of w = low_first 4 w.a ++ (low_first 4 w.b ++ (low_first 4 w.c ++ low_first 4 w.d))

-- the digest of a message
unfoldable pub md5_of : List ℕ → List ℕ
md5_of m = digest_of (blocks (length (padded m) / 64) start_words (padded m))
