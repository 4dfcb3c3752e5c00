-- MD5 of bytes that come in pieces (02, 2026-05): the state between them, and that it does not matter how they are cut. Assumes nothing.
use Rattle.std.specs.Prelude.{ℕ, ◌+◌, ◌%◌, ◌≡◌, List, [], ◌∷◌, ◌++◌, eqb, set, replicate}
use Rattle.basis.specs.Choice.{pick}
use Rattle.md5_rules.specs.declared.Words.{Words}
use Rattle.md5_rules.specs.declared.Md5.{Md5}
use Rattle.md5_rules.specs.Md5.{start_words, padding_of, compressed, digest_of, md5_of}

-- the state: the words after the whole blocks so far, the number of bytes so far modulo 2^64, and the block whose first bytes, that number
-- modulo 64 of them, wait for it to be whole
abbrev pub state : Words → ℕ → List ℕ → Md5
state words count block = record { words = words; count = count; block = block }

-- no byte so far
abbrev pub new_of : Md5
new_of = state start_words 0 (replicate 64 0x00)

-- one byte more: at its place in the block; with the 64th the block is compressed, and zeroed
unfoldable pub fed_byte : Md5 → ℕ → Md5
fed_byte s b =
    let block : List ℕ = set s.block (s.count % 64) b in
    let count : ℕ = (s.count + 1) % 18446744073709551616 in
    pick (eqb (s.count % 64) 63) (state (compressed s.words block) count (replicate 64 0x00)) (state s.words count block)

-- a piece more
unfoldable pub feed_of : Md5 → List ℕ → Md5
feed_of s [] = s
feed_of s (b ∷ bs) = feed_of (fed_byte s b) bs

-- the digest: the padding is fed (3.1, 3.2), and the words are put out (3.5)
unfoldable pub finish_of : Md5 → List ℕ
finish_of s = digest_of (feed_of s (padding_of s.count)).words

-- pieces, one after the other
abbrev pub fed_pieces : Md5 → List (List ℕ) → Md5
fed_pieces s [] = s
fed_pieces s (p ∷ ps) = fed_pieces (feed_of s p) ps

-- the whole that they are cut from
abbrev pub joined : List (List ℕ) → List ℕ
joined [] = []
joined (p ∷ ps) = p ++ joined ps

-- whatever the pieces are, their digest is that of what they are joined to; and from any state on, two pieces are one
pub record AnyCut : Type 0 where
  pub any_cut : (pieces : List (List ℕ)) → finish_of (fed_pieces new_of pieces) ≡ md5_of (joined pieces)
  pub two_pieces : (s : Md5) (first second : List ℕ) → feed_of s (first ++ second) ≡ feed_of (feed_of s first) second
