-- The device's record in computed cases: the phases that hold a download, the conditions, the making (17), and the tests of 29 and 14.
-- What a row says is written from 01, "The head" and "Numbers returned", as 02 (2026-04, 2026-05, 2026-08) amends it. Assumes nothing.
use Rattle.std.specs.Prelude.{ℕ, Bool, true, false, List, [], ◌∷◌, map, replicate}
use Rattle.basis.specs.Cases.{Agree, allowed}
use Rattle.message.specs.Cases.{text, no_text, slashed_text}
use Rattle.device_record.specs.declared.Device.{Device}
use Rattle.device_record.specs.declared.Made.{Made}
use Rattle.device_record.specs.Record.{no_digest, holding, condition_ok, new_of, record_ok, map_bytes, memory_ok}

-- phase; running version; target version, size, total, check code; stored count, last length, kept code; no digest is set
abbrev pub device : ℕ → List ℕ → List ℕ → (size total code stored last outcome : ℕ) → Device
device phase running target size total code stored last outcome =
    record {
      phase = phase;
      running = running;
      fields = record { version = target; size = size; total = total; code = code };
      stored = stored;
      last = last;
      outcome = outcome;
      expected = no_digest;
    }

-- the numbers that a test allows
abbrev pub numbers : List ((ℕ → Bool) × List ℕ)
numbers =
    (holding, 1 ∷ 2 ∷ 3 ∷ []) ∷
    (condition_ok, 0 ∷ 1 ∷ 2 ∷ 4 ∷ 127 ∷ []) ∷
    []

-- the version text, and what is made of it
abbrev pub making : List (List ℕ × Made)
making =
    (text 1, record { number = 0; device = device 0 (text 1) (text 1) 0 0 0 0 0 0 }) ∷
    (no_text, record { number = 17; device = device 0 (replicate 16 0) (replicate 16 0) 0 0 0 0 0 0 }) ∷
    (slashed_text, record { number = 17; device = device 0 (replicate 16 0) (replicate 16 0) 0 0 0 0 0 0 }) ∷
    []

-- a record, and whether it keeps the rules (29)
abbrev pub kept : List (Device × Bool)
kept =
    -- Idle: phase, kept code and version texts alone
    (device 0 (text 1) (text 2) 0 0 0 0 0 0x00, true) ∷
    (device 0 (text 1) (text 2) 31 0 0 1 32 0x0A, true) ∷
    (device 0 no_text (text 2) 0 0 0 0 0 0x00, false) ∷
    (device 0 (text 1) no_text 0 0 0 0 0 0x00, false) ∷
    (device 0 (text 1) slashed_text 0 0 0 0 0 0x00, false) ∷
    (device 0 (text 1) (text 2) 0 0 0 0 0 0x02, false) ∷
    -- Loading: each field at the ends of its range, and past them
    (device 1 (text 1) (text 2) 32 1 0 0 32 0x7F, true) ∷
    (device 1 (text 1) (text 2) 1024 65535 65535 65534 1024 0x00, true) ∷
    (device 1 no_text (text 2) 32 9 0 3 0 0x00, false) ∷
    (device 1 (text 1) no_text 32 9 0 3 0 0x00, false) ∷
    (device 1 (text 1) (text 2) 31 9 0 3 0 0x00, false) ∷
    (device 1 (text 1) (text 2) 1025 9 0 3 0 0x00, false) ∷
    (device 1 (text 1) (text 2) 32 0 0 0 0 0x00, false) ∷
    (device 1 (text 1) (text 2) 32 65536 0 3 0 0x00, false) ∷
    (device 1 (text 1) (text 2) 32 9 0 9 0 0x00, false) ∷  -- count equal to total, in Loading
    (device 1 (text 1) (text 2) 32 9 0 10 0 0x00, false) ∷
    (device 1 (text 1) (text 2) 32 9 0 3 33 0x00, false) ∷
    (device 1 (text 1) (text 2) 32 9 0 3 0 0x02, false) ∷
    -- the other phases: a count equal to total is allowed
    (device 2 (text 1) (text 2) 32 9 0 9 32 0x00, true) ∷
    (device 2 (text 1) (text 2) 32 9 0 10 0 0x00, false) ∷
    (device 3 (text 1) (text 2) 32 9 0 9 33 0x00, false) ∷
    (device 4 (text 1) (text 2) 32 9 0 9 0 0x00, true) ∷
    (device 4 (text 1) (text 2) 32 9 0 3 0 0x00, true) ∷  -- a count below total too, as after the number 23
    (device 5 (text 1) (text 2) 31 9 0 9 0 0x00, false) ∷
    (device 6 (text 1) (text 2) 32 9 0 9 0 0x00, true) ∷
    (device 6 (text 1) (text 2) 32 0 0 0 0 0x00, false) ∷
    (device 7 (text 1) (text 2) 32 9 0 9 0 0x00, false) ∷
    []

-- a record whose flag is `set`, beside a digest of bytes FF
abbrev pub flagged : (phase set : ℕ) → Device
flagged phase set =
    record {
      phase = phase;
      running = text 1;
      fields = record { version = text 2; size = 32; total = 9; code = 0 };
      stored = 3;
      last = 0;
      outcome = 0x00;
      expected = record { set = set; digest = replicate 16 0xFF };
    }

-- a total, and its map bytes
abbrev pub maps : List (ℕ × ℕ)
maps = (1, 1) ∷ (8, 1) ∷ (9, 2) ∷ (65535, 8192) ∷ []

-- phase of a download of 9 fragments of 32 bytes, lengths of image and map, and whether they have room (14)
abbrev pub room : List (ℕ × ℕ × ℕ × Bool)
room =
    (0, 0, 0, true) ∷
    (1, 288, 2, true) ∷
    (1, 287, 2, false) ∷
    (1, 288, 1, false) ∷
    (2, 287, 2, false) ∷
    (2, 288, 1, false) ∷
    (3, 288, 2, true) ∷
    (3, 287, 2, false) ∷
    (3, 288, 1, false) ∷
    (4, 0, 0, true) ∷
    (5, 0, 0, true) ∷
    (6, 0, 0, true) ∷
    []

pub record RecordCases : Type 0 where
  pub number_is : Agree (λ (r : (ℕ → Bool) × List ℕ). allowed r.0) (λ r. r.1) numbers
  pub made : Agree (λ (r : List ℕ × Made). new_of r.0) (λ r. r.1) making
  pub record_is : Agree (λ (r : Device × Bool). record_ok r.0) (λ r. r.1) kept
  -- whether a digest is set is 0 or 1, in every phase
  pub flag_is :
      Agree
      (λ (phase : ℕ). map (λ (set : ℕ). record_ok (flagged phase set)) (0 ∷ 1 ∷ 2 ∷ 255 ∷ []))
      (λ _. true ∷ true ∷ false ∷ false ∷ [])
      (0 ∷ 1 ∷ 2 ∷ 3 ∷ 4 ∷ 5 ∷ 6 ∷ [])
  pub map_needs : Agree (λ (r : ℕ × ℕ). map_bytes r.0) (λ r. r.1) maps
  pub room_is :
      Agree
      (λ (r : ℕ × ℕ × ℕ × Bool). memory_ok (device r.0 (text 1) (text 2) 32 9 0 3 0 0x00) (replicate r.1 0) (replicate r.2 0))
      (λ r. r.3)
      room
