-- The fragments of a clean run: where a device has stored the first k of them, the next one that it asks for is the k-th. Assumes nothing.
use Prim.Native.Nat.{ℕ, ◌+◌, ◌*◌, ◌-◌, ◌≤◌, ◌<◌}
use native.Mathlib.Nat.{suc-mul, mul_comm, zero-mul}
use native.Mathlib.Numerals.{add-one}
use native.Mathlib.Decide.{ℕ_discrete}
use native.Mathlib.Omega.{arith}
use mathlib.Core.Path.{◌≡◌, sym, ◌∙◌, ap}
use mathlib.Core.Bool.{true, false}
use mathlib.Core.List.{List, ◌++◌, append_assoc}
use lib.ListN.{length, take, drop, length-append}
use lib.Seq.{take_at, take-add, take_all, length-take-le}
use Rattle.basis.specs.Bytes.{patched}
use Rattle.basis.proofs.Lists.{length_patched}
use Rattle.device_record.specs.Record.{map_bytes}
use Rattle.bitmap.specs.Bitmap.{marked, mark, cleared, lowest_missing}
use Rattle.bitmap.proofs.Bitmaps.{mark_same, mark_other, length_mark, cleared_none, length_cleared, lowest_unique}
use Rattle.device_record.proofs.Maps.{map_bytes_cover, byte_within}
use Rattle.device_rules.proofs.Images.{place_within}
use Rattle.gateway_record.specs.Record.{total_of, fragment_of}
use Rattle.gateway_record.proofs.Package.{total_covers, below_total, stretch_fits, stretch_some, length_fragment}

place_more : (k size : ℕ) → (k + 1) * size ≡ k * size + size
place_more k size = rw add-one (suc-mul k size)

module _ (content : List ℕ) (size : ℕ) (some : 1 ≤ size) where
  abbrev total : ℕ
  total = total_of (length content) size

  -- the first k fragments, and no other, stand in the image and are marked
  pub record Front (k : ℕ) (image map : List ℕ) : Type 0 where
    pub image_room : size * total_of (length content) size ≤ length image
    pub map_room : map_bytes (total_of (length content) size) ≤ length map
    pub stands : take (k * size) image ≡ take (k * size) content
    pub below : (i : ℕ) → i < k → marked map i ≡ true
    pub above : (i : ℕ) → k ≤ i → i < total_of (length content) size → marked map i ≡ false

  pub front_none : (image map : List ℕ) → size * total ≤ length image → map_bytes total ≤ length map → Front 0 image (cleared (map_bytes total) map)
  front_none image map h k =
      record {
        image_room = h;
        map_room = rw (length_cleared (map_bytes total) map k) k;
        stands = rw zero-mul;
        below = λ i l. absurd (omega arith);
        above = λ i _ l. cleared_none (map_bytes total) i map (omega (arith, map_bytes_cover total));
      }

  module _ (k : ℕ) (image map : List ℕ) (front : Front k image map) (more : k < total) where
    pub lowest : lowest_missing map total ≡ k
    lowest = sym (lowest_unique map total k (omega arith) front.below (λ _. front.above k (omega arith) more))

    pub new : marked map k ≡ false
    new = front.above k (omega arith) more

    abbrev bytes : List ℕ
    bytes = fragment_of content size k

    pub fragment_some : 1 ≤ length bytes
    fragment_some = stretch_some content size k some more

    -- all but the last are size long
    pub fragment_full : k + 1 < total → length bytes ≡ size
    fragment_full h = omega (arith, length_fragment content size k, below_total (length content) size some (k + 1) h, place_more k size)

    place : k * size + length bytes ≤ length image
    place = omega (arith, front.image_room, place_within size total k (length bytes) more (stretch_fits content size k))

    -- the image up to the fragment's end is the package up to there
    filled : take (k * size + length bytes) (patched (k * size) bytes image) ≡ take (k * size + size) content
    unfolding patched fragment_of
    filled =
        let whole : length (take (k * size) image ++ bytes) ≡ k * size + length bytes =
        length-append (take (k * size) image) bytes ∙ ap (λ (n : ℕ). n + length bytes) (length-take-le (k * size) image (omega (arith, place))) in
        rw (← append_assoc (take (k * size) image) bytes (drop (k * size + length bytes) image))
        (take_at (take (k * size) image ++ bytes) (drop (k * size + length bytes) image) (k * size + length bytes) whole
        ∙ ap (λ (l : List ℕ). l ++ bytes) front.stands ∙ sym (take-add (k * size) size content))

    pub front_more : k + 1 < total → Front (k + 1) (patched (k * size) bytes image) (mark k map)
    front_more h =
        record {
          image_room = rw (length_patched (k * size) bytes image place) front.image_room;
          map_room = rw (length_mark k map) front.map_room;
          stands = rw place_more (rw (fragment_full h) at filled);
          below = λ i l. at i l (ℕ_discrete i k);
          above = λ i l h. mark_other k i map (λ e. omega arith) ∙ front.above i (omega arith) h;
        }
      where
        at : (i : ℕ) → i < k + 1 → Dec (i ≡ k) → marked (mark k map) i ≡ true
        at i l (yes e) = rw e (mark_same k map (byte_within k total map more front.map_room))
        at i l (no e) = mark_other k i map e ∙ front.below i (omega arith)

    -- after the last one: the completed bytes are the package
    pub complete : k + 1 ≡ total → take (size * (total - 1) + length bytes) (patched (k * size) bytes image) ≡ content
    complete h =
        let before : size * (total - 1) ≡ k * size = mul_comm size (total - 1) ∙ ap (λ (n : ℕ). n * size) (omega arith) in
        rw before (filled ∙ take_all (k * size + size) content
        (omega (arith, total_covers (length content) size some, place_more k size, ap (λ (n : ℕ). n * size) h)))
