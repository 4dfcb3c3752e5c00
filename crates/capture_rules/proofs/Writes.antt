-- A record that fits, and one that does not. Assumes nothing.
use Prim.Native.Nat.{ℕ, ◌+◌, ◌-◌, ◌≤◌}
use native.Mathlib.Omega.{arith}
use mathlib.Core.Path.{◌≡◌, refl, sym, ◌∙◌, ap}
use mathlib.Core.Bool.{Bool, true, false, ◌&&◌}
use mathlib.Core.List.{List, ◌++◌}
use lib.Dec.{leb}
use lib.ListN.{length}
use borrow.Author.Tests.{leb-true, le-leb}
use Rattle.basis.specs.Numbers.{handled, does_not_fit}
use Rattle.basis.specs.Bytes.{word_bytes, patched}
use Rattle.basis.proofs.Choosing.{pick_yes, pick_no, and_left, and_right, leb_alike}
use Rattle.basis.proofs.Lists.{patched_patched}
use Rattle.capture_rules.specs.Capture.{mark_of, record_bytes, header_length}
use Rattle.capture_rules.specs.Writing.{message_most, fits, Wrote, laid, write_at}

-- ---- whether it fits

pub record Room (size at count : ℕ) : Type 0 where
  pub short : count ≤ message_most
  pub within : at + header_length + count ≤ size

pub room : (size at count : ℕ) → fits size at count ≡ true → Room size at count
unfolding fits
room size at count e =
    record {
      short = leb-true count message_most (and_left (leb count message_most) (leb (at + header_length + count) size) e);
      within = leb-true (at + header_length + count) size (and_right (leb count message_most) (leb (at + header_length + count) size) e);
    }

pub by_room : (size at count : ℕ) → count ≤ message_most → at ≤ size → leb (header_length + count) (size - at) ≡ fits size at count
unfolding fits
by_room size at count h p =
    leb_alike (header_length + count) (size - at) (at + header_length + count) size (λ l. omega arith) (λ l. omega arith)
    ∙ sym (ap (λ (t : Bool). t && leb (at + header_length + count) size) (le-leb count message_most h))

-- ---- the record, in two pieces

pub pieces : (to_device : Bool) (message buffer head first second : List ℕ) (at : ℕ) → at ≤ length buffer
    → head ≡ word_bytes (mark_of to_device) ++ word_bytes (length message) → first ≡ patched at head buffer
    → second ≡ patched (at + header_length) message first
    → ◌≡◌ {A = Wrote} (record { number = handled; at = at + header_length + length message; buffer = second }) (laid to_device message buffer at)
unfolding record_bytes
pieces to_device message buffer head first second at h e₁ e₂ e₃ =
    ap (λ (b : List ℕ). record { number = handled; at = at + header_length + length message; buffer = b })
    (e₃ ∙ ap (patched (at + header_length) message) (e₂ ∙ ap (λ (x : List ℕ). patched at x buffer) e₁)
    ∙ patched_patched at (at + header_length) (word_bytes (mark_of to_device) ++ word_bytes (length message)) message buffer h refl)

-- ---- the two ends of the call

module _ (to_device : Bool) (message buffer : List ℕ) (at : ℕ) where
  pub refused : fits (length buffer) at (length message) ≡ false
      → ◌≡◌ {A = Wrote} (record { number = does_not_fit; at = at; buffer = buffer }) (write_at to_device message buffer at)
  unfolding write_at
  refused e = sym (pick_no _ _ _ e)

  pub written : fits (length buffer) at (length message) ≡ true → laid to_device message buffer at ≡ write_at to_device message buffer at
  unfolding write_at
  written e = sym (pick_yes _ _ _ e)
