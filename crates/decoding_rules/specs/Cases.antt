-- Lines of decode in computed cases: each message of both directions, each field with two values, each reason, and whole captures. Of the messages
-- some are published, others were made for these cases, with checks by 01's rule, and some fail one of its tests. Assumes nothing.
use Rattle.std.specs.Prelude.{ℕ, ◌-◌, Bool, true, false, List, [], ◌∷◌, ◌++◌, length, replicate}
use Prim.Native.String.{String}
use Rattle.basis.specs.Cases.{Agree}
use Rattle.text.specs.Ascii.{ascii}
use Rattle.decoding_rules.specs.Line.{record_text}
use Rattle.decoding_rules.specs.Decode.{decode_text, out_room}

-- a version text, filled up with 00
abbrev pub padded : String → List ℕ
padded text = ascii text ++ replicate (16 - length (ascii text)) 0x00

-- place, whether toward the device, and message; the line
abbrev pub records : List (ℕ × Bool × List ℕ × String)
records =
    (0, true, 0xFF ∷ 0xFE ∷ 0x01 ∷ 0x13 ∷ 0x4C ∷ 0x9A ∷ 0x00 ∷ 0x00 ∷ [], "0 to-device query\n") ∷ (
      12,
      true,
      0xFF ∷ 0xFE ∷ 0x01 ∷ 0x14 ∷ 0x3A ∷ 0xE6 ∷ 0x00 ∷ 0x16 ∷ (padded "V1.0" ++ (0x01 ∷ 0xF4 ∷ 0x00 ∷ 0x01 ∷ 0x00 ∷ 0x00 ∷ [])),
      "12 to-device announce version V1.0 size 500 total 1 code 0000\n",
    ) ∷ (
      2009,
      true,
      0xFF ∷ 0xFE ∷ 0x01 ∷ 0x15 ∷ 0xE1 ∷ 0x07 ∷ 0x00 ∷ 0x13 ∷ 0x00 ∷ 0x00 ∷ 0x00 ∷ ascii "HELLO, IoT SOTA!",
      "2009 to-device fragment result 00 index 0 data 16\n",
    ) ∷
    (3009, true, 0xFF ∷ 0xFE ∷ 0x01 ∷ 0x15 ∷ 0x76 ∷ 0x7A ∷ 0x00 ∷ 0x03 ∷ 0x80 ∷ 0x01 ∷ 0x02 ∷ [], "3009 to-device fragment result 80 index 258\n") ∷
    (4009, true, 0xFF ∷ 0xFE ∷ 0x01 ∷ 0x15 ∷ 0xF9 ∷ 0x38 ∷ 0x00 ∷ 0x03 ∷ 0x81 ∷ 0xFF ∷ 0xFF ∷ [], "4009 to-device fragment result 81 index 65535\n") ∷
    (5009, true, 0xFF ∷ 0xFE ∷ 0x01 ∷ 0x16 ∷ 0x85 ∷ 0x0E ∷ 0x00 ∷ 0x01 ∷ 0x00 ∷ [], "5009 to-device download result 00\n") ∷
    (6009, true, 0xFF ∷ 0xFE ∷ 0x01 ∷ 0x17 ∷ 0xCF ∷ 0x90 ∷ 0x00 ∷ 0x00 ∷ [], "6009 to-device execute\n") ∷
    (7009, true, 0xFF ∷ 0xFE ∷ 0x01 ∷ 0x18 ∷ 0x3E ∷ 0x29 ∷ 0x00 ∷ 0x01 ∷ 0x80 ∷ [], "7009 to-device result result 80\n") ∷
    (0, false, 0xFF ∷ 0xFE ∷ 0x01 ∷ 0x13 ∷ 0x8D ∷ 0xE3 ∷ 0x00 ∷ 0x11 ∷ 0x00 ∷ padded "V0.9", "0 from-device query result 00 version V0.9\n") ∷
    (99, false, 0xFF ∷ 0xFE ∷ 0x01 ∷ 0x14 ∷ 0x58 ∷ 0x10 ∷ 0x00 ∷ 0x01 ∷ 0x7F ∷ [], "99 from-device announce result 7F\n") ∷ (
      100,
      false,
      0xFF ∷ 0xFE ∷ 0x01 ∷ 0x15 ∷ 0x56 ∷ 0x18 ∷ 0x00 ∷ 0x12 ∷ (padded "V1.0" ++ (0x00 ∷ 0x00 ∷ [])),
      "100 from-device fragment version V1.0 index 0\n",
    ) ∷
    (9999, false, 0xFF ∷ 0xFE ∷ 0x01 ∷ 0x16 ∷ 0xD5 ∷ 0xAB ∷ 0x00 ∷ 0x01 ∷ 0x05 ∷ [], "9999 from-device download result 05\n") ∷
    (10000, false, 0xFF ∷ 0xFE ∷ 0x01 ∷ 0x17 ∷ 0x26 ∷ 0x0C ∷ 0x00 ∷ 0x01 ∷ 0x09 ∷ [], "10000 from-device execute result 09\n") ∷ (
      32764,
      false,
      0xFF ∷ 0xFE ∷ 0x01 ∷ 0x18 ∷ 0x3E ∷ 0xF6 ∷ 0x00 ∷ 0x11 ∷ 0x0A ∷ padded "Head_2.10-rc.ABC",
      "32764 from-device result result 0A version Head_2.10-rc.ABC\n",
    ) ∷
    -- each field with another value
    (
      20000,
      true,
      0xFF ∷ 0xFE ∷ 0x01 ∷ 0x14 ∷ 0x10 ∷ 0xF6 ∷ 0x00 ∷ 0x16 ∷ (padded "Z" ++ (0x04 ∷ 0x00 ∷ 0xFF ∷ 0xFF ∷ 0xBE ∷ 0xDC ∷ [])),
      "20000 to-device announce version Z size 1024 total 65535 code BEDC\n",
    ) ∷ (
      20001,
      true,
      0xFF ∷ 0xFE ∷ 0x01 ∷ 0x15 ∷ 0xBB ∷ 0xD8 ∷ 0x04 ∷ 0x03 ∷ 0x00 ∷ 0x01 ∷ 0x02 ∷ replicate 1024 0x41,
      "20001 to-device fragment result 00 index 258 data 1024\n",
    ) ∷
    (20002, true, 0xFF ∷ 0xFE ∷ 0x01 ∷ 0x16 ∷ 0x14 ∷ 0x86 ∷ 0x00 ∷ 0x01 ∷ 0x80 ∷ [], "20002 to-device download result 80\n") ∷
    (20003, true, 0xFF ∷ 0xFE ∷ 0x01 ∷ 0x18 ∷ 0xAF ∷ 0xA1 ∷ 0x00 ∷ 0x01 ∷ 0x00 ∷ [], "20003 to-device result result 00\n") ∷ (
      20004,
      false,
      0xFF ∷ 0xFE ∷ 0x01 ∷ 0x15 ∷ 0xF3 ∷ 0xAF ∷ 0x00 ∷ 0x12 ∷ (padded "Z" ++ (0x34 ∷ 0x56 ∷ [])),
      "20004 from-device fragment version Z index 13398\n",
    ) ∷
    (20005, false, 0xFF ∷ 0xFE ∷ 0x01 ∷ 0x16 ∷ 0x04 ∷ 0x06 ∷ 0x00 ∷ 0x01 ∷ 0x08 ∷ [], "20005 from-device download result 08\n") ∷
    (20006, false, 0xFF ∷ 0xFE ∷ 0x01 ∷ 0x17 ∷ 0xF7 ∷ 0xA1 ∷ 0x00 ∷ 0x01 ∷ 0x04 ∷ [], "20006 from-device execute result 04\n") ∷
    (20007, false, 0xFF ∷ 0xFE ∷ 0x01 ∷ 0x18 ∷ 0x74 ∷ 0x8D ∷ 0x00 ∷ 0x11 ∷ 0x00 ∷ padded "Z", "20007 from-device result result 00 version Z\n") ∷
    -- no message, and a message of the other direction
    (0, true, 0x00 ∷ 0xFE ∷ 0x01 ∷ 0x13 ∷ 0x4C ∷ 0x9A ∷ 0x00 ∷ 0x00 ∷ [], "0 to-device none 3 no FFFE\n") ∷
    (1, false, 0xFF ∷ 0xFE ∷ 0x02 ∷ 0x13 ∷ 0x2C ∷ 0xD7 ∷ 0x00 ∷ 0x00 ∷ [], "1 from-device none 4 other protocol version\n") ∷
    (2, true, 0xFF ∷ 0xFE ∷ 0x01 ∷ 0x19 ∷ 0xD3 ∷ 0x4E ∷ 0x00 ∷ 0x00 ∷ [], "2 to-device none 5 unknown code\n") ∷
    (3, false, 0xFF ∷ 0xFE ∷ 0x01 ∷ 0x13 ∷ 0x4C ∷ 0x9B ∷ 0x00 ∷ 0x00 ∷ [], "3 from-device none 6 wrong check\n") ∷
    (4, true, 0xFF ∷ 0xFE ∷ 0x01 ∷ 0x13 ∷ 0x5C ∷ 0xBB ∷ 0x00 ∷ 0x01 ∷ [], "4 to-device none 7 wrong length\n") ∷
    (5, false, 0xFF ∷ 0xFE ∷ 0x01 ∷ 0x13 ∷ 0x66 ∷ 0x0B ∷ 0x00 ∷ 0x01 ∷ 0x07 ∷ [], "5 from-device none 8 bad data\n") ∷
    (5, true, 0xFF ∷ 0xFE ∷ 0x01 ∷ 0x14 ∷ 0x58 ∷ 0x10 ∷ 0x00 ∷ 0x01 ∷ 0x7F ∷ [], "5 to-device none 8 bad data\n") ∷ (
      6,
      false,
      0xFF ∷ 0xFE ∷ 0x01 ∷ 0x14 ∷ 0x3A ∷ 0xE6 ∷ 0x00 ∷ 0x16 ∷ (padded "V1.0" ++ (0x01 ∷ 0xF4 ∷ 0x00 ∷ 0x01 ∷ 0x00 ∷ 0x00 ∷ [])),
      "6 from-device none 8 bad data\n",
    ) ∷
    (7, false, [], "7 from-device none 3 no FFFE\n") ∷
    []

-- 19 query toward the device, and 20 answer from it, as records
abbrev pub asked : List ℕ
asked = 0x4C ∷ 0x3E ∷ 0x00 ∷ 0x08 ∷ 0xFF ∷ 0xFE ∷ 0x01 ∷ 0x13 ∷ 0x4C ∷ 0x9A ∷ 0x00 ∷ 0x00 ∷ []

abbrev pub answered : List ℕ
answered = 0x4C ∷ 0x3C ∷ 0x00 ∷ 0x09 ∷ 0xFF ∷ 0xFE ∷ 0x01 ∷ 0x14 ∷ 0xD7 ∷ 0x68 ∷ 0x00 ∷ 0x01 ∷ 0x00 ∷ []

-- whole captures: nothing, four records, a record behind which the reader stops with 20 or 21 and reads no more, the longest input and a longer one
abbrev pub captures : List (List ℕ × String)
captures =
    ([], "") ∷ (
      asked ++ (answered ++ (asked ++ answered)),
      "0 to-device query\n12 from-device announce result 00\n25 to-device query\n37 from-device announce result 00\n",
    ) ∷
    (answered ++ (0x4C ∷ 0x3D ∷ asked), "0 from-device announce result 00\n13 20 wrong mark\n") ∷
    (asked ++ (0x4C ∷ 0x3E ∷ 0x00 ∷ 0x01 ∷ []), "0 to-device query\n12 21 cut short\n") ∷
    (0x4C ∷ [], "0 21 cut short\n") ∷
    (replicate 32768 0x00, "0 20 wrong mark\n") ∷
    (replicate 32769 0x00, "21\n") ∷
    []

-- the room, in figures: 95 bytes for each of 8,193 lines
abbrev pub rooms : List (ℕ × ℕ)
rooms = (out_room, 778335) ∷ []

pub record DecodingCases : Type 0 where
  pub record_is : Agree (λ (r : ℕ × Bool × List ℕ × String). record_text r.0 r.1 r.2) (λ r. ascii r.3) records
  pub text_is : Agree (λ (r : List ℕ × String). decode_text r.0) (λ r. ascii r.1) captures
  pub room_is : Agree (λ (r : ℕ × ℕ). r.0) (λ r. r.1) rooms
