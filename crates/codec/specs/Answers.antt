-- What the code's answers mean, and what is known of a reading. Assumes nothing.
use Rattle.std.specs.Prelude.{ℕ, ◌+◌, Bool, List, ◌∷◌, length, ltb, take, Result, Ok, Err}
use Rattle.basis.specs.Choice.{pick}
use Rattle.basis.specs.Bytes.{word_bytes, over, patched}
use Rattle.checksum.specs.Check.{message_check}
use Rattle.message.specs.Recognition.{protocol_version}
use Rattle.basis.specs.declared.refusal.Refusal.{Refusal}
use Rattle.basis.specs.Refusals.{number_of}
use Rattle.basis.specs.Numbers.{handled, bad_data, short_reply}
use Rattle.codec.specs.Codec.{Sent, unsent}

-- what a writer answered, with the buffer that it left: the length of the message, or the number why there is none
abbrev pub sent_by : {E : Type 0} → (E → ℕ) → Result ℕ E → List ℕ → Sent
sent_by number (Ok n) buffer = record { number = handled; length = n; buffer = buffer }
sent_by number (Err refusal) buffer = unsent (number refusal) buffer

-- the same of a refusal
abbrev pub sent : Result ℕ Refusal → List ℕ → Sent
sent outcome buffer = sent_by number_of outcome buffer

-- a buffer with header and check put round so many bytes of data
abbrev with_header : (code len : ℕ) → List ℕ → List ℕ
with_header code len o = patched 0 (0xFF ∷ 0xFE ∷ protocol_version ∷ code ∷ 0 ∷ 0 ∷ word_bytes len) o

abbrev pub with_frame : (code len : ℕ) → List ℕ → List ℕ
with_frame code len o = patched 4 (word_bytes (message_check (take (8 + len) (with_header code len o)))) (with_header code len o)

-- what writing a message of these bytes gives
abbrev pub write_outcome : (room : ℕ) (allowed : Bool) (bytes buffer : List ℕ) → Sent
write_outcome room allowed bytes buffer =
    pick (ltb (length buffer) room) (unsent short_reply buffer)
    (pick allowed (record { number = 0; length = length bytes; buffer = over bytes buffer }) (unsent bad_data buffer))
