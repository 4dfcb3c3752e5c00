-- The device's calls in computed cases: what each message brings in each phase, what changes in record, image and map, what is said when
-- asked, the installer's end, a digest given, tested, kept and cleared, and the refusals in their order. What a row says is written from 01,
-- "The head" and "Numbers returned", as 02 (2026-05, 2026-06) amends it. Assumes nothing.
use Rattle.std.specs.Prelude.{ℕ, Bool, true, false, List, [], ◌∷◌, ◌++◌, take, drop, replicate}
use Rattle.basis.specs.Cases.{Agree}
use Rattle.message.specs.Cases.{text}
use Rattle.message.specs.Messages.{DeviceMessage, query, announce, fragment, download_reply, execute, result_reply, found}
use Rattle.codec.specs.Codec.{Sent}
use Rattle.device_record.specs.declared.Device.{Device}
use Rattle.device_record.specs.Cases.{device}
use Rattle.device_rules.specs.DecisionCases.{fields}
use Rattle.device_rules.specs.declared.Finished.{Finished}
use Rattle.device_rules.specs.declared.DigestAnswer.{DigestAnswer}
use Rattle.device_rules.specs.Rules.{After, handle, receive_of, next_message_of, install_finished_of, give_digest_of}

-- runs V1, kept code 04; phase, the target's figure, size, total and check code, stored count, last length
abbrev pub held : (phase figure size total code stored last : ℕ) → Device
held phase figure size total code stored last = device phase (text 1) (text figure) size total code stored last 0x04

-- V2 in 3 fragments of 32 bytes, with no check code
abbrev pub holds : (phase stored last : ℕ) → Device
holds phase stored last = held phase 2 32 3 0 stored last

-- a record, with what it says of a digest: whether one is set, and which
abbrev pub expecting : (set : ℕ) (digest : List ℕ) → Device → Device
expecting set digest d =
    record {
      phase = d.phase;
      running = d.running;
      fields = d.fields;
      stored = d.stored;
      last = d.last;
      outcome = d.outcome;
      expected = record { set = set; digest = digest };
    }

-- a digest of sixteen bytes alike; a record in which it is set, and one whose flag and digest are 0
abbrev pub alike : ℕ → List ℕ
alike b = replicate 16 b

abbrev pub with_alike : (b : ℕ) → Device → Device
with_alike b d = expecting 1 (alike b) d

abbrev pub without : Device → Device
without d = expecting 0 (alike 0x00) d

abbrev pub zeros : ℕ → List ℕ
zeros n = replicate n 0

-- code and data of a message of n bytes at the front of a buffer
abbrev pub code_and_data : (n : ℕ) → List ℕ → List ℕ
code_and_data n reply = take 1 (drop 3 (take n reply)) ++ drop 8 (take n reply)

-- number, phase, and the reply's code and data
abbrev pub outcome : After → List ℕ
outcome a = a.number ∷ a.device.phase ∷ code_and_data a.length a.reply

-- fragment 1 of 3 is stored: phase, condition, message; number, phase, reply
abbrev pub steps : List (ℕ × ℕ × DeviceMessage × List ℕ)
steps =
    -- 19, in any phase
    (0, 0, query, 0 ∷ 0 ∷ 19 ∷ 0x00 ∷ text 1) ∷
    (1, 1, query, 0 ∷ 1 ∷ 19 ∷ 0x00 ∷ text 1) ∷
    (6, 0, query, 0 ∷ 6 ∷ 19 ∷ 0x00 ∷ text 1) ∷
    -- 20
    (0, 0, announce (fields 3 32 1 7), 0 ∷ 1 ∷ 20 ∷ 0x00 ∷ []) ∷
    (4, 0, announce (fields 2 32 3 0), 0 ∷ 1 ∷ 20 ∷ 0x00 ∷ []) ∷
    (2, 4, announce (fields 3 32 1 7), 0 ∷ 2 ∷ 20 ∷ 0x04 ∷ []) ∷
    (5, 0, announce (fields 3 32 1 7), 0 ∷ 5 ∷ 20 ∷ 0x01 ∷ []) ∷
    -- 21: the phase before the index, the index before the length, the length before the repeat, with the same bytes (00) or others
    (1, 0, fragment 0x80 0 [], 0 ∷ 0 ∷ []) ∷
    (1, 0, fragment 0x81 0 [], 0 ∷ 1 ∷ []) ∷
    (0, 0, fragment 0x80 0 [], 9 ∷ 0 ∷ []) ∷
    (2, 0, fragment 0x81 0 [], 9 ∷ 2 ∷ []) ∷
    (0, 0, fragment 0x00 3 (0x41 ∷ []), 9 ∷ 0 ∷ []) ∷
    (2, 0, fragment 0x00 3 (0x41 ∷ []), 9 ∷ 2 ∷ []) ∷
    (3, 0, fragment 0x00 3 (0x41 ∷ []), 9 ∷ 3 ∷ []) ∷
    (4, 0, fragment 0x00 3 (0x41 ∷ []), 9 ∷ 4 ∷ []) ∷
    (5, 0, fragment 0x00 3 (0x41 ∷ []), 9 ∷ 5 ∷ []) ∷
    (6, 0, fragment 0x00 3 (0x41 ∷ []), 9 ∷ 6 ∷ []) ∷
    (0, 0, fragment 0x00 1 (replicate 32 0x41), 9 ∷ 0 ∷ []) ∷
    (2, 0, fragment 0x00 1 (replicate 32 0x41), 9 ∷ 2 ∷ []) ∷
    (3, 0, fragment 0x00 1 (replicate 32 0x41), 9 ∷ 3 ∷ []) ∷
    (4, 0, fragment 0x00 1 (replicate 32 0x41), 9 ∷ 4 ∷ []) ∷
    (5, 0, fragment 0x00 1 (replicate 32 0x41), 9 ∷ 5 ∷ []) ∷
    (6, 0, fragment 0x00 1 (replicate 32 0x41), 9 ∷ 6 ∷ []) ∷
    (1, 0, fragment 0x00 3 (replicate 33 0x41), 10 ∷ 1 ∷ []) ∷
    (1, 0, fragment 0x00 1 (0x41 ∷ []), 11 ∷ 1 ∷ []) ∷
    (1, 0, fragment 0x00 2 (replicate 33 0x41), 11 ∷ 1 ∷ []) ∷
    (1, 0, fragment 0x00 1 (replicate 32 0x00), 12 ∷ 1 ∷ []) ∷
    (1, 0, fragment 0x00 1 (replicate 32 0x41), 23 ∷ 4 ∷ []) ∷
    -- 22
    (0, 0, download_reply 0x00, 9 ∷ 0 ∷ []) ∷
    (1, 0, download_reply 0x00, 9 ∷ 1 ∷ []) ∷
    (2, 0, download_reply 0x00, 0 ∷ 3 ∷ []) ∷
    (2, 0, download_reply 0x80, 0 ∷ 0 ∷ []) ∷
    (3, 0, download_reply 0x00, 9 ∷ 3 ∷ []) ∷
    (4, 0, download_reply 0x00, 0 ∷ 0 ∷ []) ∷
    (4, 0, download_reply 0x80, 0 ∷ 0 ∷ []) ∷
    (5, 0, download_reply 0x00, 9 ∷ 5 ∷ []) ∷
    (6, 0, download_reply 0x00, 9 ∷ 6 ∷ []) ∷
    -- 23
    (1, 0, execute, 0 ∷ 1 ∷ 23 ∷ 0x01 ∷ []) ∷
    (2, 0, execute, 0 ∷ 5 ∷ 23 ∷ 0x00 ∷ []) ∷
    (3, 2, execute, 0 ∷ 5 ∷ 23 ∷ 0x00 ∷ []) ∷
    (2, 4, execute, 0 ∷ 2 ∷ 23 ∷ 0x04 ∷ []) ∷
    (3, 127, execute, 0 ∷ 3 ∷ 23 ∷ 0x01 ∷ []) ∷
    (5, 1, execute, 0 ∷ 5 ∷ 23 ∷ 0x00 ∷ []) ∷
    -- 24
    (0, 0, result_reply 0x00, 9 ∷ 0 ∷ []) ∷
    (2, 0, result_reply 0x00, 9 ∷ 2 ∷ []) ∷
    (5, 0, result_reply 0x00, 9 ∷ 5 ∷ []) ∷
    (6, 0, result_reply 0x00, 0 ∷ 0 ∷ []) ∷
    (6, 0, result_reply 0x80, 0 ∷ 0 ∷ []) ∷
    []

-- record, image and map
abbrev State : Type 0
State = Device × List ℕ × List ℕ

-- three fragments' places
abbrev places : (a b c : ℕ) → List ℕ
places a b c = replicate 32 a ++ (replicate 32 b ++ replicate 32 c)

-- two whole fragments, and a third of one byte; its check is 2C44 over these 65 bytes
abbrev filled : List ℕ
filled = replicate 32 0x41 ++ (replicate 32 0x42 ++ (0x43 ∷ zeros 31))

-- the same without the second
abbrev gap : List ℕ
gap = replicate 32 0x41 ++ (zeros 32 ++ (0x43 ∷ zeros 31))

-- MD5 of those 65 bytes, and of them with the 31 bytes 00 behind them
abbrev digest65 : List ℕ
digest65 = 0x09 ∷ 0xAC ∷ 0x02 ∷ 0xEF ∷ 0xC1 ∷ 0xA2 ∷ 0x15 ∷ 0xAF ∷ 0xD8 ∷ 0xE6 ∷ 0x11 ∷ 0x11 ∷ 0x87 ∷ 0xB5 ∷ 0xFA ∷ 0x88 ∷ []

abbrev digest96 : List ℕ
digest96 = 0x35 ∷ 0xDD ∷ 0x1A ∷ 0x2A ∷ 0x25 ∷ 0xE7 ∷ 0xD8 ∷ 0xC6 ∷ 0x94 ∷ 0xFF ∷ 0xE5 ∷ 0x31 ∷ 0x1D ∷ 0x93 ∷ 0xD6 ∷ 0x37 ∷ []

-- ten places of 40 bytes, the ninth filled
abbrev ninth : List ℕ
ninth = zeros 320 ++ (replicate 40 0x41 ++ zeros 40)

-- before a message; the message; after it
abbrev pub changes : List (State × DeviceMessage × State)
changes =
    -- a fragment at its place, its bit, the count; the last one's length too
    ((holds 1 1 0, places 0 0x42 0, 0x02 ∷ 0xFF ∷ []), fragment 0x00 0 (replicate 32 0x41), (holds 1 2 0, places 0x41 0x42 0, 0x03 ∷ 0xFF ∷ [])) ∷
    ((holds 1 1 0, places 0 0x42 0, 0x02 ∷ []), fragment 0x00 2 (replicate 32 0x43), (holds 1 2 32, places 0 0x42 0x43, 0x06 ∷ [])) ∷
    ((holds 1 1 7, places 0 0 0x43, 0x04 ∷ []), fragment 0x00 1 (replicate 32 0x42), (holds 1 2 7, places 0 0x42 0x43, 0x06 ∷ [])) ∷
    -- the ninth fragment's bit is the first of the second byte
    ((held 1 2 32 9 0 0 0, zeros 289, zeros 2), fragment 0x00 8 (0x41 ∷ []), (held 1 2 32 9 0 1 1, zeros 256 ++ (0x41 ∷ zeros 32), 0x00 ∷ 0x01 ∷ [])) ∷
    -- all stored: Loaded with no code or the right one, over 65 bytes here; Failed with another
    ((holds 1 2 0, places 0x41 0x42 0, 0x03 ∷ []), fragment 0x00 2 (replicate 32 0x43), (holds 2 3 32, places 0x41 0x42 0x43, 0x07 ∷ [])) ∷
    ((held 1 2 32 3 0x2C44 2 0, places 0x41 0x42 0, 0x03 ∷ []), fragment 0x00 2 (0x43 ∷ []), (held 2 2 32 3 0x2C44 3 1, filled, 0x07 ∷ [])) ∷
    ((held 1 2 32 3 0x2C45 2 0, places 0x41 0x42 0, 0x03 ∷ []), fragment 0x00 2 (0x43 ∷ []), (held 4 2 32 3 0x2C45 3 1, filled, 0x07 ∷ [])) ∷
    -- the last one stored before: the same, by its length and not by that of the one that arrives
    ((held 1 2 32 3 0x2C44 2 1, gap, 0x05 ∷ []), fragment 0x00 1 (replicate 32 0x42), (held 2 2 32 3 0x2C44 3 1, filled, 0x07 ∷ [])) ∷
    ((held 1 2 32 3 0x2C45 2 1, gap, 0x05 ∷ []), fragment 0x00 1 (replicate 32 0x42), (held 4 2 32 3 0x2C45 3 1, filled, 0x07 ∷ [])) ∷
    -- and with digests: that of the 65 bytes, and that of three whole places
    (
      (expecting 1 digest65 (held 1 2 32 3 0x2C44 2 1), gap, 0x05 ∷ []),
      fragment 0x00 1 (replicate 32 0x42),
      (expecting 1 digest65 (held 2 2 32 3 0x2C44 3 1), filled, 0x07 ∷ []),
    )
    ∷ (
      (expecting 1 digest96 (held 1 2 32 3 0x2C44 2 1), gap, 0x05 ∷ []),
      fragment 0x00 1 (replicate 32 0x42),
      (expecting 1 digest96 (held 4 2 32 3 0x2C44 3 1), filled, 0x07 ∷ []),
    )
    ∷
    -- an announcement afresh: its four fields, count and last length 0, its map bytes zeroed and no more
    ((holds 2 3 7, places 1 2 3, 0xFF ∷ 0xFF ∷ []), announce (fields 3 40 2 5), (held 1 3 40 2 5 0 0, places 1 2 3, 0x00 ∷ 0xFF ∷ [])) ∷
    -- the last one again, of 7 bytes: nothing changes; of 6: the phase alone
    ((holds 1 1 7, places 1 2 3, 0x04 ∷ []), fragment 0x00 2 (replicate 7 3), (holds 1 1 7, places 1 2 3, 0x04 ∷ [])) ∷
    ((holds 1 1 7, places 1 2 3, 0x04 ∷ []), fragment 0x00 2 (replicate 6 3), (holds 4 1 7, places 1 2 3, 0x04 ∷ [])) ∷
    -- the ninth of ten again, of 40 bytes: the same; one byte in the middle is another
    ((held 1 2 40 10 5 1 0, ninth, 0x00 ∷ 0x01 ∷ []), fragment 0x00 8 (replicate 40 0x41), (held 1 2 40 10 5 1 0, ninth, 0x00 ∷ 0x01 ∷ [])) ∷ (
      (held 1 2 40 10 5 1 0, ninth, 0x00 ∷ 0x01 ∷ []),
      fragment 0x00 8 (replicate 35 0x41 ++ (0x42 ∷ replicate 4 0x41)),
      (held 4 2 40 10 5 1 0, ninth, 0x00 ∷ 0x01 ∷ []),
    )
    ∷
    -- 21 with 80, 22, 23: the phase alone changes; 21 with 81: nothing
    ((holds 1 1 7, places 1 2 3, 0x02 ∷ []), fragment 0x80 0 [], (holds 0 1 7, places 1 2 3, 0x02 ∷ [])) ∷
    ((holds 1 1 7, places 1 2 3, 0x02 ∷ []), fragment 0x81 0 [], (holds 1 1 7, places 1 2 3, 0x02 ∷ [])) ∷
    ((holds 2 3 7, places 1 2 3, 0x07 ∷ []), download_reply 0x00, (holds 3 3 7, places 1 2 3, 0x07 ∷ [])) ∷
    ((holds 4 3 7, places 1 2 3, 0x07 ∷ []), download_reply 0x80, (holds 0 3 7, places 1 2 3, 0x07 ∷ [])) ∷
    ((holds 3 3 7, places 1 2 3, 0x07 ∷ []), execute, (holds 5 3 7, places 1 2 3, 0x07 ∷ [])) ∷
    -- resumed, and answered by another code: nothing changes
    ((held 2 2 32 3 5 3 7, places 1 2 3, 0xFF ∷ []), announce (fields 2 32 3 5), (held 2 2 32 3 5 3 7, places 1 2 3, 0xFF ∷ [])) ∷
    ((holds 2 3 7, places 1 2 3, 0xFF ∷ []), announce (fields 1 40 2 5), (holds 2 3 7, places 1 2 3, 0xFF ∷ [])) ∷
    []

-- a reply buffer, and a call's whole answer: what no rule names stays
abbrev fives : ℕ → List ℕ
fives n = replicate n 0x55

abbrev after : (number length : ℕ) → Device → (image map reply : List ℕ) → After
after number length d image map reply = record { number = number; length = length; device = d; image = image; map = map; reply = reply }

-- 19 answered with V1, and 20 answered 00
abbrev shown : List ℕ
shown = 0xFF ∷ 0xFE ∷ 0x01 ∷ 0x13 ∷ 0x1E ∷ 0xA6 ∷ 0x00 ∷ 0x11 ∷ 0x00 ∷ text 1

abbrev accepted : List ℕ
accepted = 0xFF ∷ 0xFE ∷ 0x01 ∷ 0x14 ∷ 0xD7 ∷ 0x68 ∷ 0x00 ∷ 0x01 ∷ 0x00 ∷ []

-- the second place filled, its bit set: record, message; refused, handled, replied, begun afresh, resumed, stored, a repeat, one that differs
abbrev pub answers : List (Device × DeviceMessage × After)
answers =
    (holds 0 1 0, result_reply 0x00, after 9 0 (holds 0 1 0) (places 0 0x42 0) (0x02 ∷ []) (fives 26)) ∷
    (holds 6 1 0, result_reply 0x00, after 0 0 (holds 0 1 0) (places 0 0x42 0) (0x02 ∷ []) (fives 26)) ∷
    (holds 1 1 0, query, after 0 25 (holds 1 1 0) (places 0 0x42 0) (0x02 ∷ []) (shown ++ fives 1)) ∷
    (holds 0 1 0, announce (fields 3 32 1 7), after 0 9 (held 1 3 32 1 7 0 0) (places 0 0x42 0) (0x00 ∷ []) (accepted ++ fives 17)) ∷
    (held 2 2 32 3 7 3 5, announce (fields 2 32 3 7), after 0 9 (held 2 2 32 3 7 3 5) (places 0 0x42 0) (0x02 ∷ []) (accepted ++ fives 17)) ∷
    (holds 1 1 0, fragment 0x00 0 (replicate 32 0x41), after 0 0 (holds 1 2 0) (places 0x41 0x42 0) (0x03 ∷ []) (fives 26)) ∷
    (holds 1 1 0, fragment 0x00 1 (replicate 32 0x42), after 12 0 (holds 1 1 0) (places 0 0x42 0) (0x02 ∷ []) (fives 26)) ∷
    (holds 1 1 0, fragment 0x00 1 (replicate 32 0x41), after 23 0 (holds 4 1 0) (places 0 0x42 0) (0x02 ∷ []) (fives 26)) ∷
    []

-- asks: record, map; number, length, and the message's code and data
abbrev pub asks : List (Device × List ℕ × List ℕ)
asks =
    (holds 0 0 0, 0x00 ∷ [], 9 ∷ 0 ∷ []) ∷
    (holds 1 1 0, 0x02 ∷ [], 0 ∷ 26 ∷ 21 ∷ (text 2 ++ (0x00 ∷ 0x00 ∷ []))) ∷
    (holds 1 2 0, 0x03 ∷ [], 0 ∷ 26 ∷ 21 ∷ (text 2 ++ (0x00 ∷ 0x02 ∷ []))) ∷
    (holds 1 2 0, 0xFB ∷ [], 0 ∷ 26 ∷ 21 ∷ (text 2 ++ (0x00 ∷ 0x02 ∷ []))) ∷  -- bits past total are no fragments
    (holds 1 2 0, 0x07 ∷ [], 29 ∷ 0 ∷ []) ∷  -- the map shows none missing
    (held 1 2 32 40 0 39 0, 0xFF ∷ 0xFE ∷ 0xFF ∷ 0xFF ∷ 0xFF ∷ [], 0 ∷ 26 ∷ 21 ∷ (text 2 ++ (0x00 ∷ 0x08 ∷ []))) ∷
    (held 1 2 32 40 0 33 0, 0xFF ∷ 0xFF ∷ 0xFF ∷ 0xFF ∷ 0x01 ∷ [], 0 ∷ 26 ∷ 21 ∷ (text 2 ++ (0x00 ∷ 0x21 ∷ []))) ∷
    (holds 2 3 7, 0x07 ∷ [], 0 ∷ 9 ∷ 22 ∷ 0x00 ∷ []) ∷
    (holds 3 3 7, 0x07 ∷ [], 9 ∷ 0 ∷ []) ∷
    (holds 4 3 7, 0x07 ∷ [], 0 ∷ 9 ∷ 22 ∷ 0x07 ∷ []) ∷
    (holds 4 1 0, 0x02 ∷ [], 0 ∷ 9 ∷ 22 ∷ 0x07 ∷ []) ∷  -- by the number 23, with fragments missing
    (holds 5 3 7, 0x07 ∷ [], 9 ∷ 0 ∷ []) ∷
    (holds 6 3 7, 0x07 ∷ [], 0 ∷ 25 ∷ 24 ∷ 0x04 ∷ text 1) ∷
    []

-- the installer's end: record, code; number, record
abbrev pub finished : List (Device × ℕ × Finished)
finished =
    (holds 5 3 7, 0x00, record { number = 0; device = device 6 (text 2) (text 2) 32 3 0 3 7 0x00 }) ∷
    (holds 5 3 7, 0x0A, record { number = 0; device = device 6 (text 1) (text 2) 32 3 0 3 7 0x0A }) ∷
    -- a digest that is set stays
    (with_alike 0xAB (holds 5 3 7), 0x00, record { number = 0; device = with_alike 0xAB (device 6 (text 2) (text 2) 32 3 0 3 7 0x00) }) ∷
    (with_alike 0xAB (holds 5 3 7), 0x0A, record { number = 0; device = with_alike 0xAB (device 6 (text 1) (text 2) 32 3 0 3 7 0x0A) }) ∷
    -- 29, 9, 16
    (holds 2 3 33, 0x02, record { number = 29; device = holds 2 3 33 }) ∷
    (holds 2 3 7, 0x02, record { number = 9; device = holds 2 3 7 }) ∷
    (holds 5 3 7, 0x02, record { number = 16; device = holds 5 3 7 }) ∷
    []

-- a digest is given: record, digest; number, record
abbrev pub given_digests : List (Device × List ℕ × DigestAnswer)
given_digests =
    (holds 1 1 0, alike 0xAB, record { number = 0; device = with_alike 0xAB (holds 1 1 0) }) ∷
    (with_alike 0xAB (holds 1 1 0), alike 0x00, record { number = 0; device = with_alike 0x00 (holds 1 1 0) }) ∷
    -- 29: in Loading, and before 9 in other phases; the flag is 2, or the count or the last length too high
    (holds 1 3 0, alike 0xAB, record { number = 29; device = holds 1 3 0 }) ∷
    (expecting 2 (alike 0xAB) (holds 1 1 0), alike 0xAB, record { number = 29; device = expecting 2 (alike 0xAB) (holds 1 1 0) }) ∷
    (expecting 2 (alike 0xAB) (holds 0 1 0), alike 0xAB, record { number = 29; device = expecting 2 (alike 0xAB) (holds 0 1 0) }) ∷
    (holds 2 3 33, alike 0xAB, record { number = 29; device = holds 2 3 33 }) ∷
    -- 9
    (holds 0 1 0, alike 0xAB, record { number = 9; device = holds 0 1 0 }) ∷
    (with_alike 0xAB (holds 2 3 7), alike 0xCD, record { number = 9; device = with_alike 0xAB (holds 2 3 7) }) ∷
    (holds 3 3 7, alike 0xAB, record { number = 9; device = holds 3 3 7 }) ∷
    (holds 4 3 7, alike 0xAB, record { number = 9; device = holds 4 3 7 }) ∷
    (holds 5 3 7, alike 0xAB, record { number = 9; device = holds 5 3 7 }) ∷
    (holds 6 3 7, alike 0xAB, record { number = 9; device = holds 6 3 7 }) ∷
    []

-- MD5 of the byte 41, and of it with 31 bytes 00 behind it
abbrev pub digest1 : List ℕ
digest1 = 0x7F ∷ 0xC5 ∷ 0x62 ∷ 0x70 ∷ 0xE7 ∷ 0xA7 ∷ 0x0F ∷ 0xA8 ∷ 0x1A ∷ 0x59 ∷ 0x35 ∷ 0xB7 ∷ 0x2E ∷ 0xAC ∷ 0xBE ∷ 0x29 ∷ []

abbrev pub digest32 : List ℕ
digest32 = 0x2C ∷ 0x6C ∷ 0xE1 ∷ 0x53 ∷ 0x5F ∷ 0xD1 ∷ 0x42 ∷ 0xD9 ∷ 0x85 ∷ 0x8D ∷ 0xE6 ∷ 0xB5 ∷ 0x35 ∷ 0x5D ∷ 0x6A ∷ 0x18 ∷ []

-- the only fragment arrives, the byte 41, whose check is 58E5: check code, whether a digest is set, and which; the phase. Flag and digest stay
abbrev pub completed : List (ℕ × ℕ × List ℕ × ℕ)
completed =
    (0x0000, 1, digest1, 2) ∷
    (0x58E5, 1, digest1, 2) ∷
    -- another digest, here that of the whole place: Failed, whether there is a code or not
    (0x0000, 1, digest32, 4) ∷
    (0x58E5, 1, digest32, 4) ∷
    -- another code: Failed, with the right digest too
    (0x58E4, 1, digest1, 4) ∷
    -- none is set, whatever stands in its place
    (0x58E5, 0, digest32, 2) ∷
    []

-- what becomes of a digest, the second place being filled and its bit set: record, message; record
abbrev pub digest_after : List (Device × DeviceMessage × Device)
digest_after =
    -- 20 resumed, and answered by another code: the record stays as it was
    (with_alike 0xAB (held 1 2 32 3 7 1 0), announce (fields 2 32 3 7), with_alike 0xAB (held 1 2 32 3 7 1 0)) ∷
    (with_alike 0xAB (held 3 2 32 3 7 3 5), announce (fields 2 32 3 7), with_alike 0xAB (held 3 2 32 3 7 3 5)) ∷
    (with_alike 0xAB (holds 1 1 0), announce (fields 1 32 1 7), with_alike 0xAB (holds 1 1 0)) ∷
    -- afresh for other fields, in Loading, Loaded and Acked: flag and digest are 0
    (with_alike 0xAB (held 1 2 32 3 7 1 0), announce (fields 3 32 1 7), without (held 1 3 32 1 7 0 0)) ∷
    (with_alike 0xAB (held 1 2 32 3 7 1 0), announce (fields 2 32 3 8), without (held 1 2 32 3 8 0 0)) ∷
    (with_alike 0xAB (held 2 2 32 3 7 3 5), announce (fields 3 32 1 7), without (held 1 3 32 1 7 0 0)) ∷
    (with_alike 0xAB (held 3 2 32 3 7 3 5), announce (fields 3 32 1 7), without (held 1 3 32 1 7 0 0)) ∷
    -- so in Idle, in Loading for the fields that are held, their code being 0, and in Failed for those held
    (with_alike 0xAB (holds 0 1 0), announce (fields 3 32 1 7), without (held 1 3 32 1 7 0 0)) ∷
    (with_alike 0xAB (holds 1 1 0), announce (fields 2 32 3 0), without (holds 1 0 0)) ∷
    (with_alike 0xAB (held 4 2 32 3 7 3 5), announce (fields 2 32 3 7), without (held 1 2 32 3 7 0 0)) ∷
    -- 19
    (with_alike 0xAB (holds 1 1 0), query, with_alike 0xAB (holds 1 1 0)) ∷
    -- 21: stored while others are missing, a repeat, one that differs, 80, 81
    (with_alike 0xAB (holds 1 1 0), fragment 0x00 0 (replicate 32 0x41), with_alike 0xAB (holds 1 2 0)) ∷
    (with_alike 0xAB (holds 1 1 0), fragment 0x00 2 (0x43 ∷ []), with_alike 0xAB (holds 1 2 1)) ∷
    (with_alike 0xAB (holds 1 1 0), fragment 0x00 1 (replicate 32 0x42), with_alike 0xAB (holds 1 1 0)) ∷
    (with_alike 0xAB (holds 1 1 0), fragment 0x00 1 (replicate 32 0x41), with_alike 0xAB (holds 4 1 0)) ∷
    (with_alike 0xAB (holds 1 1 0), fragment 0x80 0 [], with_alike 0xAB (holds 0 1 0)) ∷
    (with_alike 0xAB (holds 1 1 0), fragment 0x81 0 [], with_alike 0xAB (holds 1 1 0)) ∷
    -- 22
    (with_alike 0xAB (holds 2 3 7), download_reply 0x00, with_alike 0xAB (holds 3 3 7)) ∷
    (with_alike 0xAB (holds 2 3 7), download_reply 0x80, with_alike 0xAB (holds 0 3 7)) ∷
    (with_alike 0xAB (holds 4 3 7), download_reply 0x00, with_alike 0xAB (holds 0 3 7)) ∷
    -- 23
    (with_alike 0xAB (holds 1 1 0), execute, with_alike 0xAB (holds 1 1 0)) ∷
    (with_alike 0xAB (holds 2 3 7), execute, with_alike 0xAB (holds 5 3 7)) ∷
    (with_alike 0xAB (holds 5 3 7), execute, with_alike 0xAB (holds 5 3 7)) ∷
    -- 24
    (with_alike 0xAB (holds 6 3 7), result_reply 0x00, with_alike 0xAB (holds 0 3 7)) ∷
    []

-- fragment 1, of 32 bytes 41
abbrev again : List ℕ
again = 0xFF ∷ 0xFE ∷ 0x01 ∷ 0x15 ∷ 0x3E ∷ 0x77 ∷ 0x00 ∷ 0x23 ∷ 0x00 ∷ 0x00 ∷ 0x01 ∷ replicate 32 0x41

-- refusals of a message in their order, each bad in all that follows: length of the reply buffer, condition, record, length of the image,
-- whether upgrade is supported, the message; number
abbrev pub given : List (ℕ × ℕ × Device × ℕ × Bool × List ℕ × ℕ)
given =
    (25, 3, holds 1 3 0, 95, false, [], 15) ∷
    (26, 3, holds 1 3 0, 95, false, [], 13) ∷
    (26, 0, holds 1 3 0, 95, false, [], 29) ∷
    (26, 0, holds 1 1 0, 95, false, [], 14) ∷
    (26, 0, holds 1 1 0, 96, false, [], 1) ∷
    (26, 0, holds 1 1 0, 96, true, [], 3) ∷
    -- 24 in Loading, with a result that it may not carry, and with 00
    (26, 0, holds 1 1 0, 96, true, 0xFF ∷ 0xFE ∷ 0x01 ∷ 0x18 ∷ 0xBF ∷ 0x80 ∷ 0x00 ∷ 0x01 ∷ 0x01 ∷ [], 8) ∷
    (26, 0, holds 1 1 0, 96, true, 0xFF ∷ 0xFE ∷ 0x01 ∷ 0x18 ∷ 0xAF ∷ 0xA1 ∷ 0x00 ∷ 0x01 ∷ 0x00 ∷ [], 9) ∷
    -- a repeat that differs comes last of all
    (25, 3, holds 1 3 0, 95, false, again, 15) ∷
    (26, 3, holds 1 3 0, 95, false, again, 13) ∷
    (26, 0, holds 1 3 0, 95, false, again, 29) ∷
    (26, 0, holds 1 1 0, 95, false, again, 14) ∷
    (26, 0, holds 1 1 0, 96, false, again, 1) ∷
    (26, 0, holds 1 1 0, 96, true, again, 23) ∷
    []

-- refusals of an ask in their order: length of the reply buffer, record, length of the image; number. The map is full
abbrev pub asking : List (ℕ × Device × ℕ × ℕ)
asking =
    (25, holds 1 3 0, 95, 15) ∷
    (26, holds 1 3 0, 95, 29) ∷
    (26, holds 1 1 0, 95, 14) ∷
    (26, holds 1 1 0, 96, 29) ∷
    (26, holds 3 3 0, 95, 14) ∷
    (26, holds 3 3 0, 96, 9) ∷
    []

abbrev pub state_of : After → State
state_of a = (a.device, a.image, a.map)

abbrev pub answer_of : Sent → List ℕ
answer_of s = s.number ∷ s.length ∷ code_and_data s.length s.buffer

pub record DeviceCases : Type 0 where
  pub step :
      Agree
      (λ (r : ℕ × ℕ × DeviceMessage × List ℕ). outcome (handle (holds r.0 1 0) (zeros 96) (0x02 ∷ []) (zeros 26) r.1 (found r.2)))
      (λ r. r.3)
      steps
  pub change :
      Agree {A = State}
      (λ (r : State × DeviceMessage × State). state_of (handle r.0.0 r.0.1 r.0.2 (zeros 26) 0 (found r.1)))
      (λ r. r.2)
      changes
  pub answer :
      Agree
      (λ (r : Device × DeviceMessage × After). handle r.0 (places 0 0x42 0) (0x02 ∷ []) (fives 26) 0 (found r.1))
      (λ r. r.2)
      answers
  pub ask : Agree (λ (r : Device × List ℕ × List ℕ). answer_of (next_message_of r.0 (zeros 1280) r.1 (zeros 26))) (λ r. r.2) asks
  pub digest : Agree (λ (r : Device × List ℕ × DigestAnswer). give_digest_of r.0 r.1) (λ r. r.2) given_digests
  pub complete :
      Agree {A = State}
      (λ (r : ℕ × ℕ × List ℕ × ℕ). state_of
      (handle (expecting r.1 r.2 (held 1 2 32 1 r.0 0 0)) (zeros 32) (0x00 ∷ []) (zeros 26) 0 (found (fragment 0x00 0 (0x41 ∷ [])))))
      (λ r. (expecting r.1 r.2 (held r.3 2 32 1 r.0 1 1), 0x41 ∷ zeros 31, 0x01 ∷ []))
      completed
  pub digest_after :
      Agree
      (λ (r : Device × DeviceMessage × Device). (handle r.0 (places 0 0x42 0) (0x02 ∷ []) (zeros 26) 0 (found r.1)).device)
      (λ r. r.2)
      digest_after
  pub finish : Agree (λ (r : Device × ℕ × Finished). install_finished_of r.0 r.1) (λ r. r.2) finished
  pub give_order :
      Agree
      (λ (r : ℕ × ℕ × Device × ℕ × Bool × List ℕ × ℕ). (receive_of r.2 (zeros r.3) (0x07 ∷ []) (zeros r.0) r.4 true r.1 r.5).number)
      (λ r. r.6)
      given
  pub ask_order :
      Agree (λ (r : ℕ × Device × ℕ × ℕ). (next_message_of r.1 (zeros r.2) (0x07 ∷ []) (zeros r.0)).number) (λ r. r.3) asking
