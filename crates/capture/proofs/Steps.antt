-- What is known of a record that is found, and of one that is laid. Assumes nothing.
use Rattle.std.proofs.Common.{◌≡◌, ℕ, ◌+◌, ◌≤◌, ◌<◌, sym, refl, ◌∙◌, Bool, true, false, List, ◌++◌, length, arith}
use lib.Dec.{leb}
use borrow.Author.Tests.{leb-true, leb-false}
use Rattle.basis.specs.Bytes.{word_bytes, patched}
use Rattle.basis.proofs.Lists.{patched_patched}
use Rattle.capture_rules.specs.Capture.{Item, item_at, mark_of, record_bytes}
use Rattle.capture_rules.proofs.Steps.{is_found, ends}

pub span_within : (capture : List ℕ) (at : ℕ) (to_device : Bool) (start count : ℕ) → Item.found to_device start count ≡ item_at capture at
    → (at < start + count) × (start + count ≤ length capture)
span_within capture at to_device start count e =
    let f = is_found capture at (sym e) in (omega (arith, f.behind), f.within)

-- 20 and 21 are given within the capture
pub fault_within : (capture : List ℕ) (at number : ℕ) → Item.fault number ≡ item_at capture at → at < length capture
fault_within capture at number e = by_cases (leb (length capture) at) refl
  where
    by_cases : (t : Bool) → leb (length capture) at ≡ t → at < length capture
    by_cases true h = let f : Item.end ≡ Item.fault number = ends capture at (leb-true _ _ h) ∙ sym e in
        let z : ◌≡◌ {A = ℕ} 0 1 = cc in absurd (omega arith)
    by_cases false h = leb-false _ _ h

pub record_laid : (toward : Bool) (message buffer : List ℕ) (at : ℕ) → at ≤ length buffer
    → patched (at + 4) message (patched at (word_bytes (mark_of toward) ++ word_bytes (length message)) buffer)
    ≡ patched at (record_bytes toward message) buffer
unfolding record_bytes
record_laid toward message buffer at h =
    patched_patched at (at + 4) (word_bytes (mark_of toward) ++ word_bytes (length message)) message buffer h refl
