-- Serves a function that the others share; no promise of other crates rests on it. Assumes nothing.
use Rattle.std.specs.Prelude.{ℕ, ◌/◌, List, ◌++◌, length}
use Rattle.md5_rules.specs.declared.Words.{Words}
use Rattle.md5_rules.specs.Md5.{padding_of, blocks, digest_of}

-- the digest from the words after the whole blocks on: of the bytes behind those, and of the padding for the number of all bytes
unfoldable pub closed_of : Words → (rest : List ℕ) (count : ℕ) → List ℕ
closed_of w rest count =
    let tail : List ℕ = rest ++ padding_of count in
    digest_of (blocks (length tail / 64) w tail)
