-- The exports of MD5 meet their definitions, and what holds of them: the state that a call left is the one that the next call finds, so that
-- pieces give the digest of the whole. Assumes nothing.
use Prim.Native.Nat.{ℕ, ◌≤◌}
use native.Mathlib.Omega.{arith}
use mathlib.Core.Path.{◌≡◌, refl, sym, ◌∙◌, ap, subst}
use mathlib.Core.List.{List, [], ◌∷◌}
use lib.ListN.{length}
use borrow.Author.Tests.{eq-eqb, leb-true}
use Rattle.basis.specs.Numbers.{handled}
use Rattle.basis.proofs.Choosing.{by_cases, pick_yes}
use Rattle.basis.proofs.Lists.{length_part, length_over}
use Rattle.md5_rules.specs.Md5.{md5_of}
use Rattle.md5_rules.specs.declared.Md5.{Md5}
use Rattle.md5_rules.specs.Stream.{new_of, feed_of, finish_of, fed_pieces, joined}
use Rattle.md5_rules.proofs.Feeding.{any_cut}
use Rattle.md5_layout.specs.Layout.{state_at, state_bytes, state_length, Kept, state_kept}
use Rattle.md5_layout.proofs.Identity.{state_identity, feed_block}
use Rattle.exports.specs.Exports.{Left}
use Rattle.exports.specs.Digests.{digest_length, digest_written, md5_digest_of, md5_new_of, md5_feed_of, md5_finish_of, fed_through, Digests}
use Rattle.exports.proofs.ExportLaws.{long_enough}

-- ---- what the functions leave

-- ---- the state that a call left is the one that the next call finds

read_block : (bytes : List ℕ) → length (state_at bytes).block ≡ 64
unfolding state_at
read_block bytes = length_part bytes 24 64

fed_block : (bytes piece : List ℕ) → length (feed_of (state_at bytes) piece).block ≡ 64
fed_block bytes piece = feed_block (state_at bytes) piece (read_block bytes)

module _ (bytes : List ℕ) (room : state_length ≤ length bytes) where
  found : (s : Md5) → length s.block ≡ 64 → state_at (state_kept bytes s).buffer ≡ s
  found s whole = subst (λ (k : Kept). state_at k.buffer ≡ s) (long_enough state_length bytes _ _ room) (state_identity.kept s bytes whole)

  pub new_found : state_at (md5_new_of bytes).bytes ≡ new_of
  unfolding md5_new_of
  new_found = found new_of refl

  pub feed_found : (piece : List ℕ) → state_at (md5_feed_of bytes piece).bytes ≡ feed_of (state_at bytes) piece
  unfolding md5_feed_of
  feed_found piece = found (feed_of (state_at bytes) piece) (fed_block bytes piece)

  -- and each call is answered 0
  taken : (s : Md5) → (state_kept bytes s).number ≡ handled
  taken s = subst (λ (k : Kept). k.number ≡ handled) (long_enough state_length bytes _ _ room) refl

  finish-is : (digest : List ℕ) → digest_written digest (finish_of (state_at bytes)) ≡ md5_finish_of bytes digest
  unfolding md5_finish_of
  finish-is digest = long_enough state_length bytes _ _ room

-- the buffer keeps its length, also where there is no room for a state
same_length : (bytes : List ℕ) (s : Md5) → length s.block ≡ 64 → length (state_kept bytes s).buffer ≡ length bytes
same_length bytes s whole =
    by_cases (λ (k : Kept). length k.buffer ≡ length bytes)
    (λ t. length_over (state_bytes s) bytes (omega (arith, state_identity.byte_count s whole, leb-true state_length (length bytes) t))) (λ _. refl)

new_length : (bytes : List ℕ) → length (md5_new_of bytes).bytes ≡ length bytes
unfolding md5_new_of
new_length bytes = same_length bytes new_of refl

feed_length : (bytes piece : List ℕ) → length (md5_feed_of bytes piece).bytes ≡ length bytes
unfolding md5_feed_of
feed_length bytes piece = same_length bytes (feed_of (state_at bytes) piece) (fed_block bytes piece)

-- ---- pieces

fed_through_lem : (bytes : List ℕ) (pieces : List (List ℕ)) → state_length ≤ length bytes
    → (state_length ≤ length (fed_through bytes pieces)) × (state_at (fed_through bytes pieces) ≡ fed_pieces (state_at bytes) pieces)
unfolding fed_through
fed_through_lem bytes [] room = (room, refl)
fed_through_lem bytes (p ∷ ps) room =
    let after : List ℕ = (md5_feed_of bytes p).bytes in
    let rest = fed_through_lem after ps (omega (arith, feed_length bytes p)) in
    (rest.0, rest.1 ∙ ap (λ (s : Md5). fed_pieces s ps) (feed_found bytes room p))

as_one : (bytes digest : List ℕ) (pieces : List (List ℕ)) → state_length ≤ length bytes
    → md5_finish_of (fed_through (md5_new_of bytes).bytes pieces) digest ≡ md5_digest_of (joined pieces) digest
unfolding md5_digest_of
as_one bytes digest pieces room =
    let first : List ℕ = (md5_new_of bytes).bytes in
    let all = fed_through_lem first pieces (omega (arith, new_length bytes)) in
    sym (finish-is (fed_through first pieces) all.0 digest)
    ∙ ap (λ (s : Md5). digest_written digest (finish_of s)) (all.1 ∙ ap (λ (s : Md5). fed_pieces s pieces) (new_found bytes room))
    ∙ ap (digest_written digest) (any_cut.any_cut pieces)

given : (digest new : List ℕ) → length digest ≡ digest_length → digest_written digest new ≡ record { answer = handled; bytes = new }
given digest new l = pick_yes _ _ _ (eq-eqb _ 16 l)

pub digests : Digests
unfolding md5_digest_of md5_new_of md5_feed_of
digests =
    record {
      made = λ bytes room. taken bytes room new_of;
      fed = λ bytes piece room. taken bytes room (feed_of (state_at bytes) piece);
      finished = λ bytes digest room l. ap (λ (k : Left). k.answer) (sym (finish-is bytes room digest) ∙ given digest _ l);
      made_length = new_length;
      fed_length = feed_length;
      in_pieces = λ bytes digest pieces room l. as_one bytes digest pieces room ∙ given digest (md5_of (joined pieces)) l;
      as_one = as_one;
    }
