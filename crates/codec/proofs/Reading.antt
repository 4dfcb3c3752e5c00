-- Laws of reading: the fields of a message are its data exactly where the lengths agree. Assumes nothing.
use Rattle.std.proofs.Common.{◌≡◌, ℕ, ◌+◌, Bool, true, false, ◌&&◌, ◌==◌, if◌then◌else◌, eqb, List, length, drop, get_or, refl, sym, ◌∙◌, Ok, Err}
use lib.Seq.{get_or-drop}
use Rattle.basis.specs.declared.refusal.Refusal.{Refusal}
use Rattle.basis.specs.Choice.{pick}
use Rattle.basis.specs.Bytes.{Bytes, part, same}
use Rattle.basis.proofs.Choosing.{pick_yes, by_cases}
use Rattle.basis.proofs.Lists.{part_rest, same_part, word_high, word_low}
use Rattle.message.specs.Recognition.{recognition}
use Rattle.message.specs.Messages.{DeviceMessage, device_fields, GatewayMessage, gateway_fields, device_row}
use Rattle.message.specs.Messages.{gateway_row, to_device, to_gateway, Table, found, refused}
use Rattle.message.specs.Enums.{reading_of}
use Rattle.codec.specs.Codec.{read_of}

pub bytes_drop : (k : ℕ) (m : List ℕ) → Bytes m → Bytes (drop k m)
unfolding Bytes
bytes_drop k m b i = rw (get_or-drop k m i 0) (b (k + i))

-- ---- the data of the fields read from bytes starts as these do

-- a list is a part of d from its start
abbrev Starts : List ℕ → List ℕ → Type 0
Starts d xs = xs ≡ part d 0 (length xs)

module _ (code : ℕ) (d : List ℕ) (b : Bytes d) where
  pub device_starts : Starts d (to_device.content (device_fields code d))
  unfolding device_fields device_row part
  device_starts =
      by_cases P (λ _. refl)
      (λ _. by_cases P (λ _. rw (word_high d 16 b, word_low d 16 b, word_high d 18 b, word_low d 18 b, word_high d 20 b, word_low d 20 b))
      (λ _. by_cases P (λ _. rw (word_high d 1 b, word_low d 1 b, part_rest d 3))
      (λ _. by_cases P (λ _. refl)
      (λ _. by_cases P (λ _. refl) (λ _. refl)))))
    where
      P : DeviceMessage → Type 0
      P m = Starts d (to_device.content m)

  pub gateway_starts : Starts d (to_gateway.content (gateway_fields code d))
  unfolding gateway_fields gateway_row part
  gateway_starts =
      by_cases P (λ _. refl)
      (λ _. by_cases P (λ _. refl)
      (λ _. by_cases P (λ _. rw (word_high d 16 b, word_low d 16 b))
      (λ _. by_cases P (λ _. refl)
      (λ _. by_cases P (λ _. refl) (λ _. refl)))))
    where
      P : GatewayMessage → Type 0
      P m = Starts d (to_gateway.content m)

-- ---- the reader's test: the lengths alone

pub device_same : (code : ℕ) (d : List ℕ) → Bytes d → same (to_device.content (device_fields code d)) d
    ≡ eqb (length (to_device.content (device_fields code d))) (length d)
device_same code d b = same_part (to_device.content (device_fields code d)) d (device_starts code d b)

pub gateway_same : (code : ℕ) (d : List ℕ) → Bytes d → same (to_gateway.content (gateway_fields code d)) d
    ≡ eqb (length (to_gateway.content (gateway_fields code d))) (length d)
gateway_same code d b = same_part (to_gateway.content (gateway_fields code d)) d (gateway_starts code d b)

-- what was recognised is read as its fields where they pass the tests, else it is bad data
module _ (t : Table) {A : Type 0} (view : A → t.Message) (m : A) where
  choice : (b : Bool) → reading_of view (if b then Ok m else Err Refusal.BadData) ≡ pick b (found (view m)) (refused 8)
  unfolding pick
  choice true = refl
  choice false = refl

  pub whole_is : (s p : Bool) (bytes : List ℕ) → 0 ≡ recognition s p bytes → view m ≡ t.fields (get_or bytes 3 0) (drop 8 bytes)
      → ((d : List ℕ) → Bytes d → same (t.content (t.fields (get_or bytes 3 0) d)) d ≡ eqb (length (t.content (t.fields (get_or bytes 3 0) d))) (length d))
      → Bytes (drop 8 bytes)
      → reading_of view (if t.valid (view m) && (length (t.content (view m)) == length (drop 8 bytes)) then Ok m else Err Refusal.BadData)
      ≡ read_of t s p bytes
  unfolding read_of
  whole_is s p bytes r e same_is b =
      choice _ ∙ rw (← r, same_is (drop 8 bytes) b, ← e) (sym (pick_yes (eqb 0 0) _ (refused 0) refl))
