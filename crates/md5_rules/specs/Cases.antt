-- RFC 1321 in computed cases: the length field, padding, words, the four functions, the table T, and digests, those of
-- the RFC's test suite (A.5) first. What a row says is written from the RFC, or worked out by other means. Assumes nothing.
use Rattle.std.specs.Prelude.{ℕ, zero, suc, ◌+◌, ◌-◌, ◌*◌, ◌/◌, ◌^◌, List, [], ◌∷◌, ◌++◌, length}
use Rattle.basis.specs.Cases.{Agree}
use Rattle.md5_rules.specs.Md5.{◌⊕◌, ◌⋘◌, length_field, padding_of, mix_f, mix_g, mix_h, mix_i, sine, block_word, md5_of}

-- a number of bytes, and its length field: 0, 1, the last that does without the high word and the first that needs it, 4 GiB and 5 bytes,
-- the last whose bits are below 2^64, and two behind it
abbrev pub lengths : List (ℕ × List ℕ)
lengths =
    (0, 0x00 ∷ 0x00 ∷ 0x00 ∷ 0x00 ∷ 0x00 ∷ 0x00 ∷ 0x00 ∷ 0x00 ∷ []) ∷
    (1, 0x08 ∷ 0x00 ∷ 0x00 ∷ 0x00 ∷ 0x00 ∷ 0x00 ∷ 0x00 ∷ 0x00 ∷ []) ∷
    (536870911, 0xF8 ∷ 0xFF ∷ 0xFF ∷ 0xFF ∷ 0x00 ∷ 0x00 ∷ 0x00 ∷ 0x00 ∷ []) ∷
    (536870912, 0x00 ∷ 0x00 ∷ 0x00 ∷ 0x00 ∷ 0x01 ∷ 0x00 ∷ 0x00 ∷ 0x00 ∷ []) ∷
    (4294967301, 0x28 ∷ 0x00 ∷ 0x00 ∷ 0x00 ∷ 0x08 ∷ 0x00 ∷ 0x00 ∷ 0x00 ∷ []) ∷
    (2305843009213693951, 0xF8 ∷ 0xFF ∷ 0xFF ∷ 0xFF ∷ 0xFF ∷ 0xFF ∷ 0xFF ∷ 0xFF ∷ []) ∷
    (2305843009213693952, 0x00 ∷ 0x00 ∷ 0x00 ∷ 0x00 ∷ 0x00 ∷ 0x00 ∷ 0x00 ∷ 0x00 ∷ []) ∷
    (18446744073709551617, 0x08 ∷ 0x00 ∷ 0x00 ∷ 0x00 ∷ 0x00 ∷ 0x00 ∷ 0x00 ∷ 0x00 ∷ []) ∷
    []

-- a number of bytes, and that of its padding
abbrev pub paddings : List (ℕ × ℕ)
paddings = (0, 64) ∷ (55, 9) ∷ (56, 72) ∷ (63, 65) ∷ (64, 64) ∷ (119, 9) ∷ (120, 72) ∷ []

-- sums, rotations and words; F, G, H and I where each place of three words is one of the eight cases
abbrev pub words : List (ℕ × ℕ)
words =
    (0xFFFFFFFF ⊕ 0x00000002, 0x00000001) ∷
    (0x12345678 ⋘ 8, 0x34567812) ∷
    (0x80000001 ⋘ 1, 0x00000003) ∷
    (0x00000003 ⋘ 31, 0x80000001) ∷
    (block_word (0x01 ∷ 0x02 ∷ 0x03 ∷ 0x04 ∷ 0x05 ∷ 0x06 ∷ 0x07 ∷ 0x08 ∷ []) 1, 0x08070605) ∷
    (mix_f 0xF0F0F0F0 0xCCCCCCCC 0xAAAAAAAA, 0xCACACACA) ∷
    (mix_g 0xF0F0F0F0 0xCCCCCCCC 0xAAAAAAAA, 0xE4E4E4E4) ∷
    (mix_h 0xF0F0F0F0 0xCCCCCCCC 0xAAAAAAAA, 0x96969696) ∷
    (mix_i 0xF0F0F0F0 0xCCCCCCCC 0xAAAAAAAA, 0x39393939) ∷
    []

-- n numbers, from i on
abbrev pub from : (i n : ℕ) → List ℕ
from i zero = []
from i (suc n) = i ∷ from (suc i) n

-- sums of a sine's series: the terms from term on, the one behind the j-th power next, with those to be added and those to be taken away
-- exchanged at each
abbrev pub series : (n i j term sum taken : ℕ) → ℕ × ℕ
series zero i j term sum taken = (sum, taken)
series (suc n) i j term sum taken = series n i (j + 2) (term * i * i / ((j + 1) * (j + 2))) taken (sum + term)

-- the distance of two numbers
abbrev pub apart : ℕ × ℕ → ℕ
apart p = (p.0 - p.1) + (p.1 - p.0)

-- T[i] by the series i - i^3/3! + i^5/5! - .., 128 terms with 128 binary places, of which 32 are kept
abbrev pub sine_of : ℕ → ℕ
sine_of i = apart (series 128 i 1 (i * 2 ^ 128) 0 0) / 2 ^ 96

-- a digest as the RFC prints it: its bytes as digits of one number, the first highest
abbrev pub printed : (bytes : List ℕ) (before : ℕ) → ℕ
printed [] before = before
printed (b ∷ bs) before = printed bs (before * 256 + b)

-- the text 1234567890, so many times
abbrev pub ten_times : ℕ → List ℕ
ten_times zero = []
ten_times (suc n) = from 0x31 9 ++ (0x30 ∷ ten_times n)

-- the seven texts of the test suite, and their digests
abbrev pub suite : List (List ℕ × ℕ)
suite =
    ([], 0xd41d8cd98f00b204e9800998ecf8427e) ∷
    (0x61 ∷ [], 0x0cc175b9c0f1b6a831c399e269772661) ∷
    (0x61 ∷ 0x62 ∷ 0x63 ∷ [], 0x900150983cd24fb0d6963f7d28e17f72) ∷
    (0x6D ∷ 0x65 ∷ 0x73 ∷ 0x73 ∷ 0x61 ∷ 0x67 ∷ 0x65 ∷ 0x20 ∷ 0x64 ∷ 0x69 ∷ 0x67 ∷ 0x65 ∷ 0x73 ∷ 0x74 ∷ [], 0xf96b697d7cb7938d525a2f31aaf161d0) ∷
    (from 0x61 26, 0xc3fcd3d76192e4007dfb496cca67e13b) ∷
    (from 0x41 26 ++ (from 0x61 26 ++ from 0x30 10), 0xd174ab98d277d9f5a5611c2c9f419d9f) ∷
    (ten_times 8, 0x57edf4a22be3c955ac49da2e2107b67a) ∷
    []

-- the bytes 00, 01, 02 and so on, as many as leave the padding in the last block or need one more; their digests are another program's
abbrev pub edges : List (List ℕ × ℕ)
edges =
    (from 0 55, 0x6912ee65fff2d9f9ce2508cddf8bcda0) ∷
    (from 0 56, 0x51fdd1acda72405dfdfa03fcb85896d7) ∷
    (from 0 63, 0x48a6295221902e8e0938f773a7185e72) ∷
    (from 0 64, 0xb2d3f56bc197fd985d5965079b5e7148) ∷
    (from 0 119, 0x1c772251899a7ff007400b888d6b2042) ∷
    (from 0 120, 0xb7ba1efc6022e9ed272f00b8831e26e6) ∷
    []

pub record Md5Cases : Type 0 where
  pub length_is : Agree (λ (r : ℕ × List ℕ). length_field r.0) (λ r. r.1) lengths
  pub padding_is : Agree (λ (r : ℕ × ℕ). length (padding_of r.0)) (λ r. r.1) paddings
  pub word_is : Agree (λ (r : ℕ × ℕ). r.0) (λ r. r.1) words
  pub sine_is : Agree sine sine_of (from 1 64)
  pub suite_is : Agree (λ (r : List ℕ × ℕ). printed (md5_of r.0) 0) (λ r. r.1) suite
  pub edge_is : Agree (λ (r : List ℕ × ℕ). printed (md5_of r.0) 0) (λ r. r.1) edges
