-- A record is read as it was written, what is read as one stands in the capture byte for byte, and what is given where there is none: the claims
-- of specs/Recorded. Assumes nothing.
use Prim.Native.Nat.{ℕ, suc, ◌+◌, ◌*◌, ◌/◌, ◌%◌, ◌≤◌, ◌<◌}
use native.Mathlib.Nat.{add-zero}
use native.Mathlib.Omega.{arith}
use mathlib.Core.Path.{◌≡◌, refl, sym, ◌∙◌, ap}
use mathlib.Core.Bool.{Bool, true, false}
use mathlib.Core.List.{List, [], ◌∷◌, ◌++◌}
use lib.Dec.{eqb}
use lib.ListN.{length, take, drop, get_or, length-append, length-take, length-drop}
use lib.Seq.{drop-append-add, take-append_seam, take-add, drop-drop}
use borrow.Author.Tests.{ne_eqb}
use Rattle.basis.specs.Numbers.{cut_short}
use Rattle.basis.specs.Bytes.{Bytes, word_at, word_bytes, part}
use Rattle.basis.proofs.Lists.{part_within, word_back, word_behind}
use Rattle.capture_rules.specs.Capture.{Item, mark_of, record_bytes, header_length, wrong_mark, left, item_at, place_after, part_of}
use Rattle.capture_rules.specs.Recorded.{Recorded, NoRecord}
use Rattle.capture_rules.proofs.Steps.{ends, one_left, wrong_mark_lem, cut_short_lem, Found, found, is_found, is_end}

right_mark : (to_device : Bool) → wrong_mark (mark_of to_device) ≡ false
unfolding wrong_mark
right_mark true = refl
right_mark false = refl

mark_tells : (to_device : Bool) → eqb (mark_of to_device) (mark_of true) ≡ to_device
mark_tells true = refl
mark_tells false = refl

pub length_record : (to_device : Bool) (message : List ℕ) → length (record_bytes to_device message) ≡ header_length + length message
unfolding record_bytes
length_record to_device message = omega arith

-- a record's bytes behind any bytes, none too, and followed by any, are read as that record, its message, and the place behind it.
-- Only a message of at most 65,535 bytes has a length WORD of two bytes; on lists the laws hold of any
module _ (before : List ℕ) (to_device : Bool) (message rest : List ℕ) where
  abbrev capture : List ℕ
  capture = before ++ (record_bytes to_device message ++ rest)

  mark-read : mark_of to_device ≡ word_at capture (length before)
  unfolding record_bytes
  mark-read = sym (ap (word_at capture) (sym (add-zero (length before))) ∙ word_behind before (record_bytes to_device message ++ rest) _ 0 refl
      ∙ word_back (mark_of to_device))

  length-read : length message ≡ word_at capture (length before + 2)
  unfolding record_bytes
  length-read = sym (word_behind before (record_bytes to_device message ++ rest) _ 2 refl ∙ word_back (length message))

  all_there : header_length + length message ≤ left capture (length before)
  all_there = simp (length-append, length_record) (omega arith)

  pub read_record : item_at capture (length before) ≡ Item.found to_device (length before + header_length) (length message)
  read_record =
      sym (found capture (length before) (omega (arith, all_there)) (λ one. omega (arith, all_there)) mark-read (right_mark to_device) length-read all_there)
      ∙ ap (λ (d : Bool). Item.found d (length before + header_length) (length message)) (mark_tells to_device)

  pub read_message : part_of capture (length before + header_length) (length message) ≡ message
  unfolding record_bytes
  read_message = rw (drop-append-add before (record_bytes to_device message ++ rest) header_length) (take-append_seam message rest)

  pub read_next : place_after (item_at capture (length before)) (length before) ≡ length (before ++ record_bytes to_device message)
  read_next = rw (read_record, length-append, length_record) (omega arith)

-- ---- what is read as a record stands there, byte for byte

pub length_within : (capture : List ℕ) (start count : ℕ) → start + count ≤ length capture → length (part_of capture start count) ≡ count
length_within capture start count h = simp (length-take, length-drop) (omega arith)

-- the bytes before a message, and two WORDs whose bytes they are
head_of : (capture : List ℕ) (at : ℕ) → part capture at header_length
    ≡ get_or capture at 0 ∷ get_or capture (at + 1) 0 ∷ get_or capture (at + 2) 0 ∷ get_or capture (at + 2 + 1) 0 ∷ []
unfolding part
head_of capture at =
    let one : suc at ≡ at + 1 = omega arith in
    let two : suc (suc at) ≡ at + 2 = omega arith in
    let three : suc (suc (suc at)) ≡ at + 2 + 1 = omega arith in
    λ i. get_or capture at 0 ∷ get_or capture (one i) 0 ∷ get_or capture (two i) 0 ∷ get_or capture (three i) 0 ∷ []

words : (a b c d m n : ℕ) (rest : List ℕ) → b < 256 → d < 256 → a * 256 + b ≡ m → c * 256 + d ≡ n
    → a ∷ b ∷ c ∷ d ∷ rest ≡ word_bytes m ++ (word_bytes n ++ rest)
words a b c d m n rest hb hd em en =
    let pa : a ≡ m / 256 = omega arith in
    let pb : b ≡ m % 256 = omega arith in
    let pc : c ≡ n / 256 = omega arith in
    let pd : d ≡ n % 256 = omega arith in
    λ i. pa i ∷ pb i ∷ pc i ∷ pd i ∷ rest

pub stands : {to_device : Bool} {start count : ℕ} (capture : List ℕ) (at : ℕ) → Bytes capture → item_at capture at ≡ Item.found to_device start count
    → take (header_length + count) (drop at capture) ≡ record_bytes to_device (part_of capture start count)
unfolding Bytes record_bytes
stands {to_device} {start} {count} capture at bytes e = from_found (is_found capture at e)
  where
    from_found : Found capture at to_device start count → take (header_length + count) (drop at capture) ≡ record_bytes to_device (part_of capture start count)
    from_found f =
        rw (
          take-add header_length count (drop at capture),
          drop-drop header_length at capture,
          ← part_within capture at header_length (omega arith),
          ← f.behind,
          head_of,
        )
        (words _ _ _ _ _ _ (part_of capture start count) (bytes (at + 1)) (bytes (at + 2 + 1)) f.mark
        (f.counted ∙ sym (length_within capture start count f.within)))

pub recorded : Recorded
recorded =
    record {
      read_record = read_record;
      read_message = read_message;
      read_next = read_next;
      stands = λ to_device start count capture at. stands capture at;
    }

-- ---- where there is no record

neither : (mark : ℕ) → (mark ≡ mark_of true → ⊥) → (mark ≡ mark_of false → ⊥) → wrong_mark mark ≡ true
unfolding wrong_mark
neither mark a b = rw (ne_eqb mark (mark_of true) a, ne_eqb mark (mark_of false) b) refl

cut : (to_device : Bool) (capture : List ℕ) (at : ℕ) → 2 ≤ left capture at → word_at capture at ≡ mark_of to_device
    → left capture at < header_length + word_at capture (at + 2) → item_at capture at ≡ Item.fault cut_short
cut to_device capture at two mark short =
    sym (cut_short_lem capture at (omega arith) (λ one. omega arith) refl (ap wrong_mark mark ∙ right_mark to_device) refl short)

pub no_record : NoRecord
no_record =
    record {
      at_end = λ capture at none. sym (ends capture at none);
      only_at_end = λ capture at e. is_end capture at (sym e);
      one_left = λ capture at one. sym (one_left capture at (omega arith) one);
      wrong = λ capture at two a b. sym (wrong_mark_lem capture at (omega arith) (λ one. omega arith) refl (neither (word_at capture at) a b));
      no_header = λ to_device capture at two mark short. cut to_device capture at two mark (omega arith);
      cut = cut;
    }
