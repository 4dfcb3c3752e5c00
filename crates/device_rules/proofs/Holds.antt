-- What stands in the image for every index that the map marks, over plain buffers: no device and no phase is in it. Assumes nothing.
use Prim.Native.Nat.{ℕ, ◌+◌, ◌*◌, ◌≤◌, ◌<◌}
use native.Mathlib.Decide.{ℕ_discrete}
use native.Mathlib.Nat.{le_refl}
use native.Mathlib.Omega.{arith}
use mathlib.Core.Path.{◌≡◌, sym, ◌∙◌}
use mathlib.Core.Bool.{true, true≢false}
use mathlib.Core.List.{List}
use lib.Dec.{eqb}
use lib.ListN.{length, take, drop}
use borrow.Author.Tests.{ne_eqb}
use Rattle.basis.specs.Bytes.{patched}
use Rattle.basis.proofs.Choosing.{pick_no}
use Rattle.basis.proofs.Lists.{length_patched}
use Rattle.message.specs.Limits.{size_ok, total_ok}
use Rattle.message.specs.declared.Fields.{Fields}
use Rattle.device_rules.specs.Decisions.{last_after}
use Rattle.device_record.specs.Record.{map_bytes}
use Rattle.bitmap.specs.Bitmap.{marked, mark, cleared, set_bits}
use Rattle.device_rules.proofs.Images.{place_within, other_place}
use Rattle.bitmap.proofs.Bitmaps.{length_mark, mark_other, length_cleared, cleared_none, all_marked}
use Rattle.device_record.proofs.Maps.{map_bytes_cover}

-- What a stored fragment is: P of the announcement, the image, the last fragment's length and the index. It depends on the bytes in the
-- index's own place alone, and on the last length for the last index alone.
pub record Rule : Type 1 where
  pub P : Fields → (image : List ℕ) → (last index : ℕ) → Type 0
  pub depends : (f : Fields) (image other : List ℕ) (last later index : ℕ)
      → take f.size (drop (index * f.size) image) ≡ take f.size (drop (index * f.size) other)
      → (index + 1 ≡ f.total → last ≡ later) → P f image last index → P f other later index

-- Ranges, room in both buffers, and the rule of every marked index below total.
pub record Holds (rule : Rule) (f : Fields) (image map : List ℕ) (last : ℕ) : Type 0 where
  pub size_ok : size_ok f.size ≡ true
  pub total_ok_lem : total_ok f.total ≡ true
  pub image_room : f.size * f.total ≤ length image
  pub map_room : map_bytes f.total ≤ length map
  pub each : (index : ℕ) → index < f.total → marked map index ≡ true → rule.P f image last index

-- a map just cleared marks nothing
pub holds_cleared : (rule : Rule) (f : Fields) (image map : List ℕ) (last : ℕ) → size_ok f.size ≡ true → total_ok f.total ≡ true
    → f.size * f.total ≤ length image → map_bytes f.total ≤ length map → Holds rule f image (cleared (map_bytes f.total) map) last
holds_cleared rule f image map last s t i m =
    record {
      size_ok = s;
      total_ok_lem = t;
      image_room = i;
      map_room = rw (length_cleared (map_bytes f.total) map m) m;
      each = λ index l e.
          absurd (true≢false (sym e ∙ cleared_none (map_bytes f.total) index map (omega (arith, map_bytes_cover f.total))));
    }

-- a fragment that obeys the rule is stored at its place and marked; the others stay
pub holds_stored : (rule : Rule) (f : Fields) (image map : List ℕ) (last index : ℕ) (bytes : List ℕ) → index < f.total → length bytes ≤ f.size
    → rule.P f (patched (index * f.size) bytes image) (last_after f index (length bytes) last) index
    → Holds rule f image map last
    → Holds rule f (patched (index * f.size) bytes image) (mark index map) (last_after f index (length bytes) last)
holds_stored rule f image map last index bytes l fits new h =
    record {
      size_ok = h.size_ok;
      total_ok_lem = h.total_ok_lem;
      image_room = rw (length_patched (index * f.size) bytes image room) h.image_room;
      map_room = rw (length_mark index map) h.map_room;
      each = λ j k e. at j k e (ℕ_discrete j index);
    }
  where
    room : index * f.size + length bytes ≤ length image
    room = omega (arith, place_within f.size f.total index (length bytes) l fits, h.image_room)

    at : (j : ℕ) → j < f.total → marked (mark index map) j ≡ true → Dec (j ≡ index)
        → rule.P f (patched (index * f.size) bytes image) (last_after f index (length bytes) last) j
    at j k e (yes d) = rw d new
    at j k e (no d) =
        rule.depends f image (patched (index * f.size) bytes image) last (last_after f index (length bytes) last) j
        (sym (other_place f.size index bytes image fits room j f.size d (le_refl f.size)))
        (λ t. sym (pick_no (eqb (index + 1) f.total) (length bytes) last (ne_eqb (index + 1) f.total (λ u. d (omega arith)))))
        (h.each j k (sym (mark_other index j map d) ∙ e))

-- another rule that follows from the one that holds
pub holds_under : (rule other : Rule) (f : Fields) (image map : List ℕ) (last : ℕ)
    → ((index : ℕ) → index < f.total → marked map index ≡ true → rule.P f image last index → other.P f image last index)
    → Holds rule f image map last → Holds other f image map last
holds_under rule other f image map last so h =
    record {
      size_ok = h.size_ok;
      total_ok_lem = h.total_ok_lem;
      image_room = h.image_room;
      map_room = h.map_room;
      each = λ index l e. so index l e (h.each index l e);
    }

-- all bits set: the rule of every index
pub holds_all : (rule : Rule) (f : Fields) (image map : List ℕ) (last : ℕ) → Holds rule f image map last → set_bits map f.total ≡ f.total
    → (index : ℕ) → index < f.total → rule.P f image last index
holds_all rule f image map last h full index l = h.each index l (all_marked map f.total full index l)
