-- MD5 through bytes (02, 2026-05): the digest of one slice, and that of pieces, with the state between them in a buffer that the host lends
-- (`bytes`). Assumes nothing.
use Rattle.std.specs.Prelude.{ℕ, ◌≤◌, ◌≡◌, List, [], ◌∷◌, eqb, leb, length}
use Rattle.basis.specs.Choice.{pick}
use Rattle.basis.specs.Numbers.{handled, short_record}
use Rattle.md5_rules.specs.Md5.{md5_of}
use Rattle.md5_rules.specs.Stream.{new_of, feed_of, finish_of, joined}
use Rattle.md5_layout.specs.Layout.{state_at, state_length, Kept, state_kept}
use Rattle.exports.specs.Exports.{Left}

-- ---- what a call leaves: its answer, and the buffer that was lent for writing

abbrev pub digest_length : ℕ
digest_length = 16

-- a state in its buffer (`state_kept`); one that is too short is refused as such a record is
abbrev pub left : Kept → Left
left k = record { answer = k.number; bytes = k.buffer }

-- a digest in its buffer, which has its length; any other is refused likewise
abbrev pub digest_written : (digest new : List ℕ) → Left
digest_written digest new =
    pick (eqb (length digest) digest_length) (record { answer = handled; bytes = new }) (record { answer = short_record; bytes = digest })

-- the digest of some bytes
unfoldable pub md5_digest_of : (bytes digest : List ℕ) → Left
md5_digest_of bytes digest = digest_written digest (md5_of bytes)

-- a state before any byte
unfoldable pub md5_new_of : (bytes : List ℕ) → Left
md5_new_of bytes = left (state_kept bytes new_of)

-- a piece more
unfoldable pub md5_feed_of : (bytes piece : List ℕ) → Left
md5_feed_of bytes piece = left (state_kept bytes (feed_of (state_at bytes) piece))

-- the digest of the pieces so far; the state is only read
unfoldable pub md5_finish_of : (bytes digest : List ℕ) → Left
md5_finish_of bytes digest =
    pick (leb state_length (length bytes)) (digest_written digest (finish_of (state_at bytes))) (record { answer = short_record; bytes = digest })

-- ---- what a host makes of the calls

-- the state's buffer after pieces, each fed to what the call before left
unfoldable pub fed_through : (bytes : List ℕ) (pieces : List (List ℕ)) → List ℕ
fed_through bytes [] = bytes
fed_through bytes (p ∷ ps) = fed_through (md5_feed_of bytes p).bytes ps

pub record Digests : Type 0 where
  -- any bytes are a state: where there is room for one, each call is answered 0, and the buffer has the same length after it
  pub made : (bytes : List ℕ) → state_length ≤ length bytes → (md5_new_of bytes).answer ≡ handled
  pub fed : (bytes piece : List ℕ) → state_length ≤ length bytes → (md5_feed_of bytes piece).answer ≡ handled
  pub finished : (bytes digest : List ℕ) → state_length ≤ length bytes → length digest ≡ digest_length → (md5_finish_of bytes digest).answer ≡ handled
  pub made_length : (bytes : List ℕ) → length (md5_new_of bytes).bytes ≡ length bytes
  pub fed_length : (bytes piece : List ℕ) → length (md5_feed_of bytes piece).bytes ≡ length bytes
  -- new, pieces in any number and of any lengths, then finish: the digest of the whole, whatever stood in the buffers
  pub in_pieces : (bytes digest : List ℕ) (pieces : List (List ℕ)) → state_length ≤ length bytes → length digest ≡ digest_length
      → md5_finish_of (fed_through (md5_new_of bytes).bytes pieces) digest ≡ record { answer = handled; bytes = md5_of (joined pieces) }
  -- which is what one call over the whole gives, or refuses
  pub as_one : (bytes digest : List ℕ) (pieces : List (List ℕ)) → state_length ≤ length bytes
      → md5_finish_of (fed_through (md5_new_of bytes).bytes pieces) digest ≡ md5_digest_of (joined pieces) digest
