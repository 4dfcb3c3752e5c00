-- What a part at a place adds, and how much all of them add at most. Assumes nothing.
use Prim.Native.Nat.{ℕ, zero, suc, ◌+◌, ◌-◌, ◌*◌, ◌≤◌, ◌<◌}
use native.Mathlib.Omega.{arith}
use mathlib.Core.Path.{◌≡◌, refl, sym, ap}
use mathlib.Core.Bool.{Bool, true, false}
use mathlib.Core.List.{List, [], ◌++◌}
use lib.Dec.{leb}
use lib.ListN.{length, take, drop, length-append, length-take}
use borrow.Author.Tests.{leb-true, leb-false}
use Rattle.basis.proofs.Choosing.{by_cases}
use Rattle.capture_rules.specs.Capture.{Item, capture_most, record_bytes, item_at, part_of}
use Rattle.capture_rules.specs.Mending.{Part, mended, resume_at, part_at, place_behind}
use Rattle.capture_rules.specs.Mended.{followed, parts_from, parts_of, records_in, mended_bytes}
use Rattle.capture_rules.proofs.Steps.{Found, is_found, ends}
use Rattle.capture_rules.proofs.Records.{length_record}
use Rattle.capture_rules.proofs.Mends.{first_above}
use Rattle.mending.specs.Account.{stretch_text, lines_of, told_text, stretch_most, told_room}
use Rattle.mending.proofs.Stretches.{length_stretch}

-- what a part adds to the records, and to the lines
abbrev pub record_of : (capture : List ℕ) → Part → List ℕ
record_of capture (Part.found to_device start count) = record_bytes to_device (part_of capture start count)
record_of capture (Part.passed start count) = []
record_of capture Part.end = []

abbrev pub line_of : Part → List ℕ
line_of (Part.found to_device start count) = []
line_of (Part.passed start count) = stretch_text start count
line_of Part.end = []

-- ---- a part before the end

-- it passes a byte or more, its record is no longer than that and lies within the capture, and what it adds stands before what the later parts add
pub record Passes (capture : List ℕ) (at : ℕ) (part : Part) : Type 0 where
  pub onward : at + 1 ≤ place_behind part at
  pub short : at + length (record_of capture part) ≤ place_behind part at
  pub within : at + length (record_of capture part) ≤ length capture
  pub line : length (line_of part) ≤ stretch_most
  pub records : (parts : List Part) → records_in capture (followed part parts) ≡ record_of capture part ++ records_in capture parts
  pub lines : (parts : List Part) → lines_of (followed part parts) ≡ line_of part ++ lines_of parts

before_end : (capture : List ℕ) (at : ℕ) → at < length capture → item_at capture at ≡ Item.end → ⊥
unfolding item_at
before_end capture at h =
    by_cases P (λ none _. omega (arith, leb-true (length capture) at none)) (λ _. by_cases P (λ _. fault) (λ _. by_cases P (λ _. fault) (λ _.
    by_cases P (λ _. fault) (λ _. record-found))))
  where
    P : Item → Type 0
    P item = item ≡ Item.end → ⊥

    fault : {number : ℕ} → Item.fault number ≡ Item.end → ⊥
    fault e = let z : ◌≡◌ {A = ℕ} 0 1 = cc in omega arith

    record-found : {to_device : Bool} {start count : ℕ} → Item.found to_device start count ≡ Item.end → ⊥
    record-found e = let z : ◌≡◌ {A = ℕ} 0 1 = cc in omega arith

length_taken : (n : ℕ) (xs : List ℕ) → length (take n xs) ≤ n
length_taken n xs = simp length-take (omega arith)

pub passes : (capture : List ℕ) (at : ℕ) → at < length capture → Passes capture at (part_at capture at)
unfolding mended records_in lines_of
passes capture at h = go (item_at capture at) refl
  where
    go : (item : Item) → item_at capture at ≡ item → Passes capture at (mended capture item at)
    go (Item.found to_device start count) e =
        let f : Found capture at to_device start count = is_found capture at e in
        let short : at + length (record_bytes to_device (part_of capture start count)) ≤ start + count =
        omega (arith, f.behind, length_record to_device (part_of capture start count), length_taken count (drop start capture)) in
        record {
          onward = omega (arith, f.behind);
          short = short;
          within = omega (arith, f.within);
          line = omega arith;
          records = λ parts. refl;
          lines = λ parts. refl;
        }
    go Item.end e = absurd (before_end capture at h e)
    go (Item.fault number) e =
        let above : at + 1 ≤ resume_at capture at = first_above capture (length capture - (at + 1)) (at + 1) in
        record {
          onward = omega arith;
          short = omega arith;
          within = omega arith;
          line = length_stretch at (resume_at capture at - at);
          records = λ parts. refl;
          lines = λ parts. refl;
        }

-- ---- all of them

-- nothing is left at the end
none_left : (capture : List ℕ) (most at : ℕ) → length capture ≤ at → parts_from capture most at ≡ []
unfolding parts_from mended
none_left capture zero at h = refl
none_left capture (suc most) at h =
    ap (λ (i : Item). followed (mended capture i at) (parts_from capture most (place_behind (mended capture i at) at))) (sym (ends capture at h))

-- no more bytes than are left, and a line for each of these at most
record Most (capture : List ℕ) (at : ℕ) (parts : List Part) : Type 0 where
  records : length (records_in capture parts) ≤ length capture - at
  lines : length (lines_of parts) ≤ stretch_most * (length capture - at)

most_after : (capture : List ℕ) (at : ℕ) (parts : List Part) → at < length capture → Most capture (place_behind (part_at capture at) at) parts
    → Most capture at (followed (part_at capture at) parts)
most_after capture at parts h m =
    let p : Passes capture at (part_at capture at) = passes capture at h in
    record {
      records = rw (p.records parts)
          (omega (arith, length-append (record_of capture (part_at capture at)) (records_in capture parts), p.short, p.within, m.records));
      lines = rw (p.lines parts) (omega (arith, length-append (line_of (part_at capture at)) (lines_of parts), p.line, p.onward, m.lines));
    }

most_none : (capture : List ℕ) (at : ℕ) (parts : List Part) → parts ≡ [] → Most capture at parts
unfolding records_in lines_of
most_none capture at parts e = rw e (record { records = omega arith; lines = omega arith })

most_from : (capture : List ℕ) (most at : ℕ) → Most capture at (parts_from capture most at)
unfolding parts_from
most_from capture zero at = most_none capture at [] refl
most_from capture (suc most) at = by_place (leb (length capture) at) refl (most_from capture most (place_behind (part_at capture at) at))
  where
    by_place : (t : Bool) → leb (length capture) at ≡ t
        → Most capture (place_behind (part_at capture at) at) (parts_from capture most (place_behind (part_at capture at) at))
        → Most capture at (followed (part_at capture at) (parts_from capture most (place_behind (part_at capture at) at)))
    by_place true h m = most_none capture at _ (none_left capture (suc most) at (leb-true _ _ h))
    by_place false h m = most_after capture at _ (leb-false _ _ h) m

pub mended_most : (capture : List ℕ) → length (mended_bytes capture) ≤ length capture
unfolding mended_bytes parts_of
mended_most capture = omega (arith, (most_from capture (suc (length capture)) 0).records)

pub told_most : (capture : List ℕ) → length capture ≤ capture_most → length (told_text capture) ≤ told_room
unfolding told_text parts_of
told_most capture h = omega (arith, (most_from capture (suc (length capture)) 0).lines)
