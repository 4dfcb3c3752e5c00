-- Mending piece by piece: what was written so far, and what is left to write. Assumes nothing.
use Rattle.std.proofs.Common.{◌≡◌, ℕ, zero, suc, ◌+◌, refl, ap, List, [], ◌∷◌, ◌++◌, length, Result, Ok, Err}
use Rattle.std.specs.Prelude.{⊤, IsErr}
use mathlib.Core.Bool.{false≢true}
use mathlib.Core.Logic.{inl, inr}
use Rattle.capture_rules.specs.Capture.{record_bytes, part_of}
use Rattle.capture_rules.specs.Mending.{Part, part_at, place_behind}
use Rattle.capture_rules.specs.Mended.{followed, parts_from, parts_of, records_in, mended_bytes}
use Rattle.capture.specs.Items.{Entry, part_then, pieces_from, pieces}
use Rattle.text.specs.declared.writer.NoRoom.{NoRoom}
use Rattle.text.specs.declared.writer.Writer.{Writer}
use Rattle.text.specs.Writing.{Puts}
use Rattle.text.proofs.Runs.{Underway, begins, goes, stops, passes, ends}
use Rattle.mending.specs.Account.{stretch_text, lines_of, told_text}
use Rattle.mending.specs.Inner.{piece_bytes, piece_text, pieces_bytes, pieces_text, Mends}

-- ---- the pieces are the parts

module _ (capture : List ℕ) where
  bytes_then : (part : Part) (at : ℕ) (f : ℕ → List Part) (g : ℕ → List (Result Entry (ℕ × ℕ)))
      → ((next : ℕ) → records_in capture (f next) ≡ pieces_bytes (g next))
      → records_in capture (followed part (f (place_behind part at))) ≡ pieces_bytes (part_then capture part at g)
  unfolding records_in pieces_bytes
  bytes_then (Part.found d s c) at f g e = ap (λ t. record_bytes d (part_of capture s c) ++ t) (e (s + c))
  bytes_then (Part.passed s c) at f g e = e (s + c)
  bytes_then Part.end at f g e = refl

  bytes_are : (most at : ℕ) → records_in capture (parts_from capture most at) ≡ pieces_bytes (pieces_from capture most at)
  unfolding parts_from pieces_from pieces_bytes records_in
  bytes_are zero at = refl
  bytes_are (suc most) at = bytes_then (part_at capture at) at (parts_from capture most) (pieces_from capture most) (bytes_are most)

  pub mended_is : mended_bytes capture ≡ pieces_bytes (pieces capture 0)
  unfolding mended_bytes parts_of
  mended_is = bytes_are (suc (length capture)) 0

  line_then : (part : Part) (at : ℕ) (f : ℕ → List Part) (g : ℕ → List (Result Entry (ℕ × ℕ))) → ((next : ℕ) → lines_of (f next) ≡ pieces_text (g next))
      → lines_of (followed part (f (place_behind part at))) ≡ pieces_text (part_then capture part at g)
  unfolding lines_of pieces_text
  line_then (Part.found d s c) at f g e = e (s + c)
  line_then (Part.passed s c) at f g e = ap (λ t. stretch_text s c ++ t) (e (s + c))
  line_then Part.end at f g e = refl

  lines_are : (most at : ℕ) → lines_of (parts_from capture most at) ≡ pieces_text (pieces_from capture most at)
  unfolding parts_from pieces_from pieces_text lines_of
  lines_are zero at = refl
  lines_are (suc most) at = line_then (part_at capture at) at (parts_from capture most) (pieces_from capture most) (lines_are most)

  pub told_is : told_text capture ≡ pieces_text (pieces capture 0)
  unfolding told_text parts_of
  told_is = lines_are (suc (length capture)) 0

-- ---- both writers

pub record Both (capture : List ℕ) (out out' told told' : Writer) (xs : List (Result Entry (ℕ × ℕ))) : Type 0 where
  pub records : Underway out out' (pieces_bytes xs) (mended_bytes capture)
  pub lines : Underway told told' (pieces_text xs) (told_text capture)

pub both_begin : (capture : List ℕ) (out told : Writer) (xs : List (Result Entry (ℕ × ℕ))) → xs ≡ pieces capture 0 → Both capture out out told told xs
both_begin capture out told xs e =
    record {
      records = begins out (pieces_bytes xs) (mended_bytes capture) (rw (mended_is capture) (ap pieces_bytes e));
      lines = begins told (pieces_text xs) (told_text capture) (rw (told_is capture) (ap pieces_text e));
    }

module _ {capture : List ℕ} {out out' told told' u : Writer} {xs rest : List (Result Entry (ℕ × ℕ))} (h : Both capture out out' told told' xs) where
  module _ {e : Entry} (is : xs ≡ Ok e ∷ rest) where
    pub record_goes : Puts (piece_bytes (Ok e)) (Ok tt) out' u → Both capture out u told told' rest
    unfolding pieces_bytes pieces_text
    record_goes p = record { records = goes h.records (ap pieces_bytes is) p; lines = passes h.lines (ap pieces_text is) }

    pub record_stops : {n : NoRoom} {r : Result ⊤ NoRoom} → Puts (piece_bytes (Ok e)) (Err n) out' u → IsErr r → Mends capture r out told u told'
    unfolding pieces_bytes
    record_stops {n} {r} p k = go r (stops h.records (pieces_bytes rest) (ap pieces_bytes is) p k) k
      where
        go : (r : Result ⊤ NoRoom) → Puts (mended_bytes capture) r out u → IsErr r → Mends capture r out told u told'
        go (Ok x) q k = absurd (false≢true k)
        go (Err x) q k = record { records = tt; lines = tt; full = inl q.full; same_out = q.reference; same_told = h.lines.so_far.reference }

  module _ {s : ℕ × ℕ} (is : xs ≡ Err s ∷ rest) where
    pub stretch_goes : Puts (piece_text (Err s)) (Ok tt) told' u → Both capture out out' told u rest
    unfolding pieces_bytes pieces_text
    stretch_goes p = record { records = passes h.records (ap pieces_bytes is); lines = goes h.lines (ap pieces_text is) p }

    pub stretch_stops : {n : NoRoom} {r : Result ⊤ NoRoom} → Puts (piece_text (Err s)) (Err n) told' u → IsErr r → Mends capture r out told out' u
    unfolding pieces_text
    stretch_stops {n} {r} p k = go r (stops h.lines (pieces_text rest) (ap pieces_text is) p k) k
      where
        go : (r : Result ⊤ NoRoom) → Puts (told_text capture) r told u → IsErr r → Mends capture r out told out' u
        go (Ok x) q k = absurd (false≢true k)
        go (Err x) q k = record { records = tt; lines = tt; full = inr q.full; same_out = h.records.so_far.reference; same_told = q.reference }

pub both_end : {capture : List ℕ} {out out' told told' : Writer} {xs : List (Result Entry (ℕ × ℕ))} → Both capture out out' told told' xs → xs ≡ []
    → Mends capture (Ok tt) out told out' told'
unfolding pieces_bytes pieces_text
both_end h e =
    record {
      records = ends h.records (ap pieces_bytes e);
      lines = ends h.lines (ap pieces_text e);
      full = tt;
      same_out = h.records.so_far.reference;
      same_told = h.lines.so_far.reference;
    }
