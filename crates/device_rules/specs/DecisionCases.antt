-- The device's decisions in computed cases: the tests of 20 and their order, resume, the length of a fragment, the refusals of one and of its
-- repeat, the phase once all are stored, and 23. What a row says is written from 01, "The head", as 02 (2026-05, 2026-06) amends it. Assumes nothing.
use Rattle.std.specs.Prelude.{ℕ, Bool, true, false, List, [], ◌∷◌, ◌++◌, map, take, drop, replicate}
use Rattle.basis.specs.Cases.{Agree}
use Rattle.message.specs.Cases.{text}
use Rattle.message.specs.declared.Fields.{Fields}
use Rattle.device_record.specs.declared.Device.{Device}
use Rattle.device_record.specs.Record.{no_digest}
use Rattle.device_record.specs.Cases.{device}
use Rattle.device_rules.specs.Decisions.{announce_result, resumes, fragment_length, fragment_refusal, completion, execute_result}

-- V and a figure, size, total, check code
abbrev pub fields : (figure size total code : ℕ) → Fields
fields figure size total code = record { version = text figure; size = size; total = total; code = code }

-- a device that runs V1 and holds V2 in 9 fragments of 32 bytes
abbrev pub holder : (phase code : ℕ) → Device
holder phase code = device phase (text 1) (text 2) 32 9 code 3 0 0x00

-- 20, 9 fragments of 32 bytes: phase, condition, announced version, lengths of image and map; the answer
abbrev pub announced : List (ℕ × ℕ × ℕ × ℕ × ℕ × ℕ)
announced =
    (0, 0, 2, 288, 2, 0x00) ∷
    (1, 0, 2, 288, 2, 0x00) ∷
    (2, 0, 2, 288, 2, 0x00) ∷
    (3, 0, 2, 288, 2, 0x00) ∷
    (4, 0, 2, 288, 2, 0x00) ∷
    -- each test alone
    (5, 0, 2, 288, 2, 0x01) ∷
    (6, 0, 2, 288, 2, 0x01) ∷
    (0, 1, 2, 288, 2, 0x01) ∷
    (0, 2, 2, 288, 2, 0x02) ∷
    (0, 4, 2, 288, 2, 0x04) ∷
    (0, 127, 2, 288, 2, 0x7F) ∷
    (0, 0, 1, 288, 2, 0x03) ∷
    (0, 0, 2, 287, 2, 0x05) ∷
    (0, 0, 2, 288, 1, 0x09) ∷
    -- two at once: the first of them answers
    (5, 4, 2, 288, 2, 0x01) ∷
    (0, 4, 1, 288, 2, 0x04) ∷
    (0, 0, 1, 287, 2, 0x03) ∷
    (0, 0, 2, 287, 1, 0x05) ∷
    []

-- 20: phase and code of the download that is held, V2 in 9 fragments of 32 bytes; what is announced; whether it goes on
abbrev pub resumed : List (ℕ × ℕ × Fields × Bool)
resumed =
    (0, 7, fields 2 32 9 7, false) ∷
    (1, 7, fields 2 32 9 7, true) ∷
    (2, 7, fields 2 32 9 7, true) ∷
    (3, 7, fields 2 32 9 7, true) ∷
    (4, 7, fields 2 32 9 7, false) ∷
    (5, 7, fields 2 32 9 7, false) ∷
    (6, 7, fields 2 32 9 7, false) ∷
    (1, 7, fields 3 32 9 7, false) ∷
    (1, 7, fields 2 31 9 7, false) ∷
    (1, 7, fields 2 33 9 7, false) ∷
    (1, 7, fields 2 32 8 7, false) ∷
    (1, 7, fields 2 32 10 7, false) ∷
    (1, 7, fields 2 32 9 6, false) ∷
    (1, 7, fields 2 32 9 8, false) ∷
    (1, 0, fields 2 32 9 0, false) ∷  -- the same, but the code is 0
    []

-- 21, size 32: total, index, length; whether the length is right
abbrev pub lengths : List (ℕ × ℕ × ℕ × Bool)
lengths =
    (9, 0, 31, false) ∷
    (9, 0, 32, true) ∷
    (9, 0, 33, false) ∷
    (9, 7, 31, false) ∷
    (9, 7, 32, true) ∷
    (9, 8, 0, false) ∷
    (9, 8, 1, true) ∷
    (9, 8, 32, true) ∷
    (9, 8, 33, false) ∷
    (1, 0, 1, true) ∷
    []

-- two fragments of 32 bytes
abbrev pub image : List ℕ
image = replicate 32 0x41 ++ replicate 32 0x42

-- a fragment of 32 bytes that begins with these, the others being 41
abbrev begins : List ℕ → List ℕ
begins bytes = take 32 (bytes ++ replicate 32 0x41)

-- 21, the image's two fragments: last length, index, the map's byte, bytes; the number
abbrev pub tested : List (ℕ × ℕ × ℕ × List ℕ × ℕ)
tested =
    -- a new one, whatever stands at its place
    (1, 0, 0x02, replicate 32 0x41, 0) ∷
    (1, 0, 0x02, replicate 32 0x43, 0) ∷
    -- a repeat: the same; other in the first byte, the last, with the same sum, with the same check
    (1, 0, 0x03, replicate 32 0x41, 12) ∷
    (1, 0, 0x03, begins (0x40 ∷ []), 23) ∷
    (1, 0, 0x03, begins (replicate 31 0x41 ++ (0x40 ∷ [])), 23) ∷
    (1, 0, 0x03, begins (0x40 ∷ 0x42 ∷ []), 23) ∷
    (1, 0, 0x03, begins (0x4B ∷ 0x82 ∷ []), 23) ∷
    -- of the last: the same bytes and length; other, longer, shorter; one that is marked and has no length
    (1, 1, 0x03, 0x42 ∷ [], 12) ∷
    (32, 1, 0x03, replicate 32 0x42, 12) ∷
    (1, 1, 0x03, 0x41 ∷ [], 23) ∷
    (1, 1, 0x03, 0x42 ∷ 0x42 ∷ [], 23) ∷
    (1, 1, 0x03, replicate 32 0x42, 23) ∷
    (2, 1, 0x03, 0x42 ∷ [], 23) ∷
    (0, 1, 0x03, 0x42 ∷ [], 23) ∷
    -- before it the index, then the length
    (1, 2, 0x07, replicate 33 0x43, 10) ∷
    (1, 2, 0x07, replicate 32 0x43, 10) ∷
    (1, 0, 0x03, replicate 31 0x43, 11) ∷
    (1, 1, 0x03, replicate 33 0x43, 11) ∷
    (1, 1, 0x03, [], 11) ∷
    []

-- the MD5 of the image's first 33 bytes, and that of all 64
abbrev pub digest33 : List ℕ
digest33 = 0xB0 ∷ 0x69 ∷ 0x88 ∷ 0x59 ∷ 0xF3 ∷ 0xC1 ∷ 0x94 ∷ 0xB4 ∷ 0x67 ∷ 0xCB ∷ 0x26 ∷ 0x9A ∷ 0x3C ∷ 0x54 ∷ 0x6B ∷ 0xEC ∷ []

abbrev pub digest64 : List ℕ
digest64 = 0x58 ∷ 0x66 ∷ 0x88 ∷ 0xEF ∷ 0xF8 ∷ 0x88 ∷ 0x92 ∷ 0xB7 ∷ 0xB3 ∷ 0x8A ∷ 0x47 ∷ 0xC7 ∷ 0x18 ∷ 0x3C ∷ 0xB4 ∷ 0xD5 ∷ []

-- 21: stored count, last length, check code; the phase, where no digest is set. The check of the first 33 bytes is 7281, that of all 64 is C7AE
abbrev pub completed : List (ℕ × ℕ × ℕ × ℕ)
completed =
    (1, 1, 0x0000, 1) ∷  -- one is missing
    (2, 1, 0x0000, 2) ∷  -- no code
    (2, 1, 0x7281, 2) ∷
    (2, 1, 0xC7AE, 4) ∷  -- the check of whole fragments
    (2, 32, 0xC7AE, 2) ∷
    (2, 32, 0x7281, 4) ∷
    []

-- 21, all stored: last length, check code, whether a digest is set, and which; the phase
abbrev pub with_digests : List (ℕ × ℕ × ℕ × List ℕ × ℕ)
with_digests =
    (1, 0x0000, 1, digest33, 2) ∷
    (1, 0x7281, 1, digest33, 2) ∷
    (1, 0xC7AE, 1, digest33, 4) ∷  -- the digest does not stand for the check
    (1, 0x7281, 1, digest64, 4) ∷  -- that of whole fragments
    (1, 0x0000, 1, digest64, 4) ∷  -- with no code the digest counts too
    (32, 0xC7AE, 1, digest64, 2) ∷
    (1, 0x0000, 1, 0xB1 ∷ drop 1 digest33, 4) ∷  -- one bit of the first byte, and of the last
    (1, 0x0000, 1, take 15 digest33 ++ (0xED ∷ []), 4) ∷
    (1, 0x0000, 1, replicate 16 0x00, 4) ∷  -- zeros, set, are a digest
    (1, 0x0000, 0, digest64, 2) ∷  -- not set
    []

-- 23: phase; the answers with conditions 0, 1, 2, 4 and 127
abbrev pub executed : List (ℕ × List ℕ)
executed =
    (0, 0x01 ∷ 0x01 ∷ 0x01 ∷ 0x01 ∷ 0x01 ∷ []) ∷
    (1, 0x01 ∷ 0x01 ∷ 0x01 ∷ 0x01 ∷ 0x01 ∷ []) ∷
    (2, 0x00 ∷ 0x01 ∷ 0x00 ∷ 0x04 ∷ 0x01 ∷ []) ∷
    (3, 0x00 ∷ 0x01 ∷ 0x00 ∷ 0x04 ∷ 0x01 ∷ []) ∷
    (4, 0x01 ∷ 0x01 ∷ 0x01 ∷ 0x01 ∷ 0x01 ∷ []) ∷
    (5, 0x00 ∷ 0x00 ∷ 0x00 ∷ 0x00 ∷ 0x00 ∷ []) ∷
    (6, 0x01 ∷ 0x01 ∷ 0x01 ∷ 0x01 ∷ 0x01 ∷ []) ∷
    []

pub record DecisionCases : Type 0 where
  pub announce :
      Agree
      (λ (r : ℕ × ℕ × ℕ × ℕ × ℕ × ℕ). announce_result (holder r.0 7) r.1 (fields r.2 32 9 7) (replicate r.3 0) (replicate r.4 0))
      (λ r. r.5)
      announced
  pub resume : Agree (λ (r : ℕ × ℕ × Fields × Bool). resumes (holder r.0 r.1) r.2) (λ r. r.3) resumed
  pub fragment : Agree (λ (r : ℕ × ℕ × ℕ × Bool). fragment_length (fields 2 32 r.0 7) r.1 r.2) (λ r. r.3) lengths
  pub test :
      Agree
      (λ (r : ℕ × ℕ × ℕ × List ℕ × ℕ). fragment_refusal (fields 2 32 2 7) r.0 r.1 image (r.2 ∷ []) r.3)
      (λ r. r.4)
      tested
  pub complete : Agree (λ (r : ℕ × ℕ × ℕ × ℕ). completion r.0 r.1 (fields 2 32 2 r.2) no_digest image) (λ r. r.3) completed
  pub complete_with_digest :
      Agree
      (λ (r : ℕ × ℕ × ℕ × List ℕ × ℕ). completion 2 r.0 (fields 2 32 2 r.1) (record { set = r.2; digest = r.3 }) image)
      (λ r. r.4)
      with_digests
  pub execute : Agree (λ (r : ℕ × List ℕ). map (execute_result r.0) (0 ∷ 1 ∷ 2 ∷ 4 ∷ 127 ∷ [])) (λ r. r.1) executed
