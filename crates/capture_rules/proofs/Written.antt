-- What was written is read as it was written, and what was read is written as it stood: the claims of specs/Written. Assumes nothing.
use Prim.Native.Nat.{ℕ, zero, suc, ◌+◌, ◌≤◌, ◌<◌}
use native.Mathlib.Nat.{add-zero, zero-add}
use native.Mathlib.Omega.{arith}
use mathlib.Core.Path.{◌≡◌, refl, sym, ◌∙◌, ap, ap₂}
use mathlib.Core.Bool.{Bool, true, false, ◌&&◌}
use mathlib.Core.List.{List, [], ◌∷◌, ◌++◌, append-nil}
use mathlib.Core.Logic.{inl, inr}
use lib.Dec.{leb}
use lib.ListN.{length, take, drop, length-append, length-take, take-append-drop, drop_of_length-le}
use lib.Seq.{length-take-le, take_at, drop_at}
use borrow.Author.Tests.{leb-false}
use Rattle.basis.specs.Choice.{pick}
use Rattle.basis.specs.Numbers.{handled, does_not_fit}
use Rattle.basis.specs.Bytes.{Bytes, over, patched}
use Rattle.basis.proofs.Choosing.{by_cases}
use Rattle.basis.proofs.Lists.{patched_front, patched_is_over, patched_patched, length_patched, take_over}
use Rattle.capture_rules.specs.Capture.{Item, record_bytes, header_length, item_at}
use Rattle.capture_rules.specs.Writing.{message_most, fits, Wrote, laid, write_at}
use Rattle.capture_rules.specs.Reading.{reads_to_end, record_then, records_from, records_of}
use Rattle.capture_rules.specs.Mended.{parts_of, mended_bytes}
use Rattle.capture_rules.specs.Written.{write_all, begun, written_in, WrittenRecord, NoRoom, ReadBack, Writing}
use Rattle.capture_rules.proofs.Steps.{Found, is_found}
use Rattle.capture_rules.proofs.Records.{length_record, read_record, read_message}
use Rattle.capture_rules.proofs.Writes.{Room, room}
use Rattle.capture_rules.proofs.MendedCaptures.{written, records_written, all_again, mended_capture}

-- ---- what is laid into a buffer

patched_none : (at : ℕ) (o : List ℕ) → patched at [] o ≡ o
unfolding patched
patched_none at o = rw add-zero (take-append-drop at o)

module _ (at : ℕ) (xs o : List ℕ) (h : at ≤ length o) where
  take-patched : take at (patched at xs o) ≡ take at o
  unfolding patched
  take-patched = take_at (take at o) (xs ++ drop (at + length xs) o) at (length-take-le at o h)

  drop_patched : (next : ℕ) → at + length xs ≡ next → drop next (patched at xs o) ≡ drop next o
  unfolding over
  drop_patched next e =
      let p : length (take at o ++ xs) ≡ next = simp length-append (omega (arith, length-take-le at o h)) in
      ap (drop next) (patched_is_over at xs o h) ∙ drop_at (take at o ++ xs) (drop (length (take at o ++ xs)) o) next p ∙ ap (λ (n : ℕ). drop n o) p

-- ---- one record

module _ (to_device : Bool) (message buffer : List ℕ) (at : ℕ) where
  -- where it fits, and where it does not
  by_room : (P : Wrote → Type 0) → (Room (length buffer) at (length message) → P (laid to_device message buffer at))
      → (NoRoom to_device message buffer at → P (record { number = does_not_fit; at = at; buffer = buffer })) → P (write_at to_device message buffer at)
  unfolding write_at fits
  by_room P f g = by_cases P (λ e. f (room (length buffer) at (length message) e)) (λ e. g (none (leb (length message) message_most) refl e))
    where
      none : (t : Bool) → leb (length message) message_most ≡ t → (t && leb (at + header_length + length message) (length buffer)) ≡ false
          → NoRoom to_device message buffer at
      none true _ e = inr (omega (arith, leb-false (at + header_length + length message) (length buffer) e, length_record to_device message))
      none false e _ = inl (omega (arith, leb-false (length message) message_most e))

  -- but not both
  not_both : {A : Type 0} → Room (length buffer) at (length message) → NoRoom to_device message buffer at → A
  not_both r (inl long) = absurd (omega arith)
  not_both r (inr past) = absurd (omega (arith, length_record to_device message))

  -- a record that fits stands in the buffer
  laid-written : Room (length buffer) at (length message) → WrittenRecord to_device message buffer at (laid to_device message buffer at)
  unfolding patched
  laid-written r =
      let h : at ≤ length buffer = omega arith in
      let front : length (take at buffer) ≡ at = length-take-le at buffer h in
      let l : at + length (record_bytes to_device message) ≡ at + header_length + length message = omega (arith, length_record to_device message) in
      record {
        read = rw front at (read_record (take at buffer) to_device message (drop (at + length (record_bytes to_device message)) buffer));
        message_read = rw front at (read_message (take at buffer) to_device message (drop (at + length (record_bytes to_device message)) buffer));
        behind = refl;
        before_kept = take-patched at (record_bytes to_device message) buffer h;
        behind_kept = drop_patched at (record_bytes to_device message) buffer h (at + header_length + length message) l;
        length_kept = length_patched at (record_bytes to_device message) buffer (omega arith);
      }

-- ---- records one after the other

-- the messages are none too long
abbrev Short : List (Bool × List ℕ) → Type 0
Short [] = Unit
Short (r ∷ rs) = (length r.1 ≤ message_most) × Short rs

-- all of them, one behind the other
abbrev all_laid : List (Bool × List ℕ) → (buffer : List ℕ) (at : ℕ) → Wrote
all_laid rs buffer at = record { number = handled; at = at + length (written rs); buffer = patched at (written rs) buffer }

-- all are written, or there is no room
data Outcome (rs : List (Bool × List ℕ)) (buffer : List ℕ) (at : ℕ) (w : Wrote) : Type 0 where
  all : w ≡ all_laid rs buffer at → Outcome rs buffer at w
  stopped : w.number ≡ does_not_fit → (Short rs → length buffer < at + length (written rs)) → Outcome rs buffer at w

-- behind a refusal nothing is written
stays : (rs : List (Bool × List ℕ)) (buffer : List ℕ) (at : ℕ)
    → (write_all rs (record { number = does_not_fit; at = at; buffer = buffer })).number ≡ does_not_fit
unfolding write_all pick
stays [] buffer at = refl
stays (r ∷ rs) buffer at = refl

outcome : (rs : List (Bool × List ℕ)) (buffer : List ℕ) (at : ℕ) → at ≤ length buffer
    → Outcome rs buffer at (write_all rs (record { number = handled; at = at; buffer = buffer }))
unfolding write_all written pick
outcome [] buffer at h = all (ap₂ (λ (n : ℕ) (b : List ℕ). record { number = handled; at = n; buffer = b }) (sym (add-zero at)) (sym (patched_none at buffer)))
outcome (r ∷ rs) buffer at h =
    by_room r.0 r.1 buffer at (λ w. Outcome (r ∷ rs) buffer at (write_all rs w))
    (λ fit. further (kept fit) (outcome rs (patched at bytes buffer) next (rw (kept fit) fit.within)))
    (λ none. stopped (stays rs buffer at) (λ short. beyond none short.0))
  where
    bytes : List ℕ
    bytes = record_bytes r.0 r.1

    next : ℕ
    next = at + header_length + length r.1

    behind : at + length bytes ≡ next
    behind = omega (arith, length_record r.0 r.1)

    joined : length (bytes ++ written rs) ≡ length bytes + length (written rs)
    joined = length-append bytes (written rs)

    kept : Room (length buffer) at (length r.1) → length (patched at bytes buffer) ≡ length buffer
    kept fit = (laid-written r.0 r.1 buffer at fit).length_kept

    further : length (patched at bytes buffer) ≡ length buffer → {w : Wrote} → Outcome rs (patched at bytes buffer) next w → Outcome (r ∷ rs) buffer at w
    further same (all e) =
        let place : next + length (written rs) ≡ at + length (bytes ++ written rs) = omega (arith, behind, joined) in
        all (e ∙ ap₂ (λ (n : ℕ) (b : List ℕ). record { number = handled; at = n; buffer = b }) place
        (patched_patched at next bytes (written rs) buffer h behind))
    further same (stopped n s) = stopped n (λ short. omega (arith, s short.1, behind, joined))

    beyond : NoRoom r.0 r.1 buffer at → length r.1 ≤ message_most → length buffer < at + length (bytes ++ written rs)
    beyond (inl long) short = absurd (omega arith)
    beyond (inr past) short = omega (arith, joined)

-- ---- the walker's records

module _ (capture : List ℕ) where
  -- a length WORD is at most 65,535
  short-step : Bytes capture → (most at : ℕ) → ((next : ℕ) → Short (records_from capture most next)) → (item : Item) → item_at capture at ≡ item
      → Short (record_then capture item (λ next. records_from capture most next))
  unfolding Bytes
  short-step bytes most at later (Item.found to_device start count) e =
      let f : Found capture at to_device start count = is_found capture at e in
      (simp length-take (omega (arith, f.counted, bytes (at + 2), bytes (at + 2 + 1))), later (start + count))
  short-step bytes most at later Item.end e = tt
  short-step bytes most at later (Item.fault number) e = tt

  short-from : Bytes capture → (most at : ℕ) → Short (records_from capture most at)
  unfolding records_from
  short-from bytes zero at = tt
  short-from bytes (suc most) at = short-step bytes most at (λ next. short-from bytes most next) (item_at capture at) refl

  -- the records of a capture that is read to its end are its bytes
  records_are : Bytes capture → reads_to_end capture ≡ true → written (records_of capture) ≡ capture
  unfolding mended_bytes
  records_are bytes e =
      ap written (sym (mended_capture.same_records capture e)) ∙ sym (records_written capture (parts_of capture)) ∙ mended_capture.unchanged capture bytes e

-- ---- from the start of a buffer

-- all of them from the start on are a front of the buffer
front : (rs : List (Bool × List ℕ)) (buffer capture : List ℕ) → written rs ≡ capture
    → all_laid rs buffer 0 ≡ record { number = handled; at = length capture; buffer = over capture buffer }
front rs buffer capture e = rw (e, zero-add, patched_front)

-- what they are read as, one behind the other
again : (rs : List (Bool × List ℕ)) → ReadBack rs (written rs)
unfolding reads_to_end parts_of
again rs = record { to_end = (all_again rs).ended; same = sym (mended_capture.same_records (written rs) (all_again rs).ended) ∙ (all_again rs).same }

read_all : (rs : List (Bool × List ℕ)) (buffer : List ℕ) → (write_all rs (begun buffer)).number ≡ handled
    → ReadBack rs (written_in (write_all rs (begun buffer)))
read_all rs buffer n = by (outcome rs buffer 0 (omega arith))
  where
    by : Outcome rs buffer 0 (write_all rs (begun buffer)) → ReadBack rs (written_in (write_all rs (begun buffer)))
    by (all e) = rw (e ∙ front rs buffer (written rs) refl, take_over) (again rs)
    by (stopped m _) = absurd (omega arith)

write_all_lem : (capture buffer : List ℕ) → Bytes capture → reads_to_end capture ≡ true → length capture ≤ length buffer
    → write_all (records_of capture) (begun buffer) ≡ record { number = handled; at = length capture; buffer = over capture buffer }
unfolding records_of
write_all_lem capture buffer bytes e h = by (outcome (records_of capture) buffer 0 (omega arith))
  where
    same : written (records_of capture) ≡ capture
    same = records_are capture bytes e

    by : Outcome (records_of capture) buffer 0 (write_all (records_of capture) (begun buffer))
        → write_all (records_of capture) (begun buffer) ≡ record { number = handled; at = length capture; buffer = over capture buffer }
    by (all w) = w ∙ front (records_of capture) buffer capture same
    by (stopped _ past) = absurd (omega (arith, past (short-from capture bytes (suc (length capture)) 0), ap length same))

-- over a buffer of its length
over_all : (p o : List ℕ) → length o ≡ length p → over p o ≡ p
unfolding over
over_all p o e = rw (drop_of_length-le o {i = length p} (omega arith), append-nil)

pub writing : Writing
writing =
    record {
      written = λ to_device message buffer at.
          by_room to_device message buffer at (λ w. w.number ≡ handled → WrittenRecord to_device message buffer at w)
          (λ fit _. laid-written to_device message buffer at fit) (λ _ n. absurd (omega arith));
      refused = λ to_device message buffer at.
          by_room to_device message buffer at (λ w. (w.number ≡ handled → ⊥) → w ≡ record { number = does_not_fit; at = at; buffer = buffer })
          (λ _ n. absurd (n refl)) (λ _ _. refl);
      no_room = λ to_device message buffer at none.
          by_room to_device message buffer at (λ w. w.number ≡ does_not_fit) (λ fit. not_both to_device message buffer at fit none) (λ _. refl);
      only_there = λ to_device message buffer at.
          by_room to_device message buffer at (λ w. w.number ≡ does_not_fit → NoRoom to_device message buffer at) (λ _ n. absurd (omega arith))
          (λ none _. none);
      read_back = read_all;
      given_back = λ capture buffer bytes e l.
          write_all_lem capture buffer bytes e (omega arith)
          ∙ ap (λ (b : List ℕ). record { number = handled; at = length capture; buffer = b }) (over_all capture buffer l);
      given_back_longer = write_all_lem;
    }
