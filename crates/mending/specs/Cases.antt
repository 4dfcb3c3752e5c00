-- Captures mended, in computed cases: the line of a stretch, all lines, and what is answered and written. What a row says is written
-- from 02, 2026-02. Assumes nothing.
use Rattle.std.specs.Prelude.{ℕ, true, false, List, [], ◌∷◌, ◌++◌, take, replicate}
use Rattle.basis.specs.Cases.{Agree}
use Rattle.capture_rules.specs.Mending.{Part}
use Rattle.mending.specs.Account.{stretch_text, lines_of, Account, mend_of}

-- a stretch: its start first, and then its length
abbrev pub stretches : List (ℕ × ℕ × List ℕ)
stretches =
    (0, 1, 0x30 ∷ 0x20 ∷ 0x31 ∷ 0x0A ∷ []) ∷
    (12, 3, 0x31 ∷ 0x32 ∷ 0x20 ∷ 0x33 ∷ 0x0A ∷ []) ∷
    (32767, 1, 0x33 ∷ 0x32 ∷ 0x37 ∷ 0x36 ∷ 0x37 ∷ 0x20 ∷ 0x31 ∷ 0x0A ∷ []) ∷
    (0, 32768, 0x30 ∷ 0x20 ∷ 0x33 ∷ 0x32 ∷ 0x37 ∷ 0x36 ∷ 0x38 ∷ 0x0A ∷ []) ∷
    []

-- the lines of all that is found: of the stretches alone, in their order
abbrev pub lines : List (List Part × List ℕ)
lines =
    ([], []) ∷
    (Part.found true 4 8 ∷ Part.found false 16 9 ∷ [], []) ∷
    (Part.passed 0 3 ∷ [], 0x30 ∷ 0x20 ∷ 0x33 ∷ 0x0A ∷ []) ∷ (
      Part.passed 0 1 ∷ Part.found true 5 8 ∷ Part.passed 13 2 ∷ Part.found false 19 9 ∷ [],
      0x30 ∷ 0x20 ∷ 0x31 ∷ 0x0A ∷ 0x31 ∷ 0x33 ∷ 0x20 ∷ 0x32 ∷ 0x0A ∷ [],
    ) ∷
    []

-- a record from the device, and 3 bytes that are none
abbrev pub whole : List ℕ
whole = 0x4C ∷ 0x3C ∷ 0x00 ∷ 0x02 ∷ 0x41 ∷ 0x42 ∷ []

abbrev pub damaged : List ℕ
damaged = whole ++ (0x01 ∷ 0x02 ∷ 0x03 ∷ [])

-- 32,768 bytes, one record
abbrev pub longest : List ℕ
longest = 0x4C ∷ 0x3E ∷ 0x7F ∷ 0xFC ∷ replicate 32764 0x00

-- a buffer of so many bytes
abbrev pub room : ℕ → List ℕ
room n = replicate n 0xEE

-- the two lengths, the records' buffer, and the first ten bytes of the lines'
abbrev pub shown : Account → ℕ × ℕ × List ℕ × List ℕ
shown a = (a.length, a.told, a.out, take 10 a.lines)

-- capture, and the sizes of the two buffers
abbrev pub accounts : List (List ℕ × ℕ × ℕ × (ℕ × ℕ × List ℕ × List ℕ))
accounts =
    -- mended, with the rest of both buffers as it was
    (damaged, 9, 393216, (6, 4, whole ++ room 3, 0x36 ∷ 0x20 ∷ 0x33 ∷ 0x0A ∷ room 6)) ∷
    -- with a byte less in either buffer nothing is written
    (damaged, 8, 393216, (0, 0, room 8, room 10)) ∷
    (damaged, 9, 393215, (0, 0, room 9, room 10)) ∷
    -- the longest capture
    (longest, 32768, 393216, (32768, 0, longest, room 10)) ∷
    -- of longer input 21 is told, in a line, if there is room for it
    (replicate 32769 0x00, 0, 4, (0, 3, [], 0x32 ∷ 0x31 ∷ 0x0A ∷ 0xEE ∷ [])) ∷
    (replicate 32769 0x00, 0, 2, (0, 0, [], room 2)) ∷
    []

pub record MendingCases : Type 0 where
  pub stretch_is : Agree (λ (r : ℕ × ℕ × List ℕ). stretch_text r.0 r.1) (λ r. r.2) stretches
  pub lines_are : Agree (λ (r : List Part × List ℕ). lines_of r.0) (λ r. r.1) lines
  pub account_is : Agree (λ (r : List ℕ × ℕ × ℕ × (ℕ × ℕ × List ℕ × List ℕ)). shown (mend_of r.0 (room r.1) (room r.2))) (λ r. r.3) accounts
