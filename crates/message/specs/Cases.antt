-- 01, "Recognising a message", in computed cases: ranges, version text, the results that the table allows, the data of the twelve messages,
-- and the numbers 1 to 7 in their order. What a row says is written from 01 as 02 (2026-01, 2026-04, 2026-08) amends it. Assumes nothing.
use Rattle.std.specs.Prelude.{ℕ, zero, suc, ◌+◌, Bool, true, false, List, [], ◌∷◌, ◌++◌, replicate}
use Rattle.basis.specs.Cases.{Agree, allowed}
use Rattle.message.specs.Limits.{size_ok, total_ok, is_word}
use Rattle.message.specs.Version.{version_character, good_version}
use Rattle.message.specs.Messages.{DeviceMessage, query, announce, fragment, download_reply, execute, result_reply, GatewayMessage, query_reply}
use Rattle.message.specs.Messages.{announce_reply, fragment_request, download_report, execute_reply, result_report, install_code, to_device, to_gateway}
use Rattle.message.specs.Recognition.{version_byte_holds, code_holds, recognition}

-- the version text "V" and a figure
abbrev pub text : ℕ → List ℕ
text n = 0x56 ∷ (0x30 + n) ∷ replicate 14 0x00

-- 16 bytes that are no text: "V" and a figure with another byte between, a space or a slash
abbrev pub broken : ℕ → List ℕ
broken b = 0x56 ∷ b ∷ 0x31 ∷ replicate 13 0x00

abbrev pub no_text : List ℕ
no_text = broken 0x20

abbrev pub slashed_text : List ℕ
slashed_text = broken 0x2F

-- a byte, so many times, and then 00 so many times
abbrev padded : ℕ → ℕ → ℕ → List ℕ
padded b n zeros = replicate n b ++ replicate zeros 0x00

-- size, total, and any number as a WORD
abbrev pub ranges : List (Bool × Bool)
ranges =
    (size_ok 31, false) ∷ (size_ok 32, true) ∷ (size_ok 500, true) ∷ (size_ok 501, true) ∷ (size_ok 1024, true) ∷ (size_ok 1025, false) ∷
    (total_ok 0, false) ∷ (total_ok 1, true) ∷ (total_ok 65535, true) ∷ (total_ok 65536, false) ∷
    (is_word 65535, true) ∷ (is_word 65536, false) ∷
    []

-- version text
abbrev pub texts : List (List ℕ × Bool)
texts =
    (padded 0x2E 1 15, true) ∷
    (padded 0x7A 16 0, true) ∷
    (padded 0x00 0 16, false) ∷  -- no byte of text
    -- a space first, inside, last; and one behind 00
    (padded 0x20 1 15, false) ∷
    (padded 0x41 1 0 ++ (padded 0x20 1 0 ++ padded 0x41 1 13), false) ∷
    (padded 0x41 15 0 ++ padded 0x20 1 0, false) ∷
    (padded 0x41 1 14 ++ padded 0x20 1 0, false) ∷
    (padded 0x41 1 1 ++ padded 0x41 1 13, false) ∷  -- text behind 00
    (padded 0x41 1 14 ++ padded 0x01 1 0, false) ∷  -- another byte behind 00
    (padded 0x41 1 14, false) ∷  -- 15 bytes
    (padded 0x41 1 16, false) ∷  -- 17 bytes
    []

-- n numbers, from b on
abbrev from : (b n : ℕ) → List ℕ
from b zero = []
from b (suc n) = b ∷ from (suc b) n

-- what version text may hold: hyphen and dot, digits, capital letters, underscore, small letters
abbrev pub characters : List ℕ
characters = from 0x2D 2 ++ (from 0x30 10 ++ (from 0x41 26 ++ (from 0x5F 1 ++ from 0x61 26)))

-- of all bytes, the results that a message may carry; then its codes, the bytes of a version text, and the version byte
abbrev pub results : List ((ℕ → Bool) × List ℕ)
results =
    ((λ (r : ℕ). to_device.valid (fragment r 0 [])), 0x80 ∷ 0x81 ∷ []) ∷
    ((λ (r : ℕ). to_device.valid (fragment r 0 (0x41 ∷ []))), 0x00 ∷ []) ∷
    ((λ (r : ℕ). to_device.valid (download_reply r)), 0x00 ∷ 0x80 ∷ []) ∷
    ((λ (r : ℕ). to_device.valid (result_reply r)), 0x00 ∷ 0x80 ∷ []) ∷
    ((λ (r : ℕ). to_gateway.valid (query_reply r (text 1))), 0x00 ∷ []) ∷
    ((λ (r : ℕ). to_gateway.valid (announce_reply r)), 0x00 ∷ 0x01 ∷ 0x02 ∷ 0x03 ∷ 0x04 ∷ 0x05 ∷ 0x09 ∷ 0x7F ∷ []) ∷
    ((λ (r : ℕ). to_gateway.valid (download_report r)), 0x00 ∷ 0x05 ∷ 0x06 ∷ 0x07 ∷ 0x08 ∷ []) ∷
    ((λ (r : ℕ). to_gateway.valid (execute_reply r)), 0x00 ∷ 0x01 ∷ 0x04 ∷ 0x05 ∷ 0x09 ∷ []) ∷
    ((λ (r : ℕ). to_gateway.valid (result_report r (text 1))), 0x00 ∷ 0x01 ∷ 0x04 ∷ 0x05 ∷ 0x09 ∷ 0x0A ∷ 0x7F ∷ []) ∷
    (install_code, 0x00 ∷ 0x01 ∷ 0x04 ∷ 0x05 ∷ 0x09 ∷ 0x0A ∷ 0x7F ∷ []) ∷
    ((λ (c : ℕ). code_holds (0xFF ∷ 0xFE ∷ 0x01 ∷ c ∷ [])), 19 ∷ 20 ∷ 21 ∷ 22 ∷ 23 ∷ 24 ∷ []) ∷
    -- by itself; as the first byte, the second and the last, where 00 fills up
    (version_character, characters) ∷
    ((λ (b : ℕ). good_version (b ∷ replicate 15 0x00)), characters) ∷
    ((λ (b : ℕ). good_version (0x41 ∷ b ∷ replicate 14 0x00)), 0x00 ∷ characters) ∷
    ((λ (b : ℕ). good_version (replicate 15 0x41 ++ (b ∷ []))), 0x00 ∷ characters) ∷
    -- any reserved bits
    (
      (λ (v : ℕ). version_byte_holds (0xFF ∷ 0xFE ∷ v ∷ [])),
      0x01 ∷ 0x11 ∷ 0x21 ∷ 0x31 ∷ 0x41 ∷ 0x51 ∷ 0x61 ∷ 0x71 ∷ 0x81 ∷ 0x91 ∷ 0xA1 ∷ 0xB1 ∷ 0xC1 ∷ 0xD1 ∷ 0xE1 ∷ 0xF1 ∷ [],
    ) ∷
    []

-- the least buffer of each sender
abbrev pub rooms : List (ℕ × ℕ)
rooms = (to_device.room, 1035) ∷ (to_gateway.room, 26) ∷ []

-- the other fields, each out of its range alone
abbrev pub fields : List (Bool × Bool)
fields =
    (to_device.valid query, true) ∷
    (to_device.valid execute, true) ∷
    (to_device.valid (announce (record { version = text 1; size = 32; total = 1; code = 0 })), true) ∷
    (to_device.valid (announce (record { version = no_text; size = 32; total = 1; code = 0 })), false) ∷
    (to_device.valid (announce (record { version = text 1; size = 31; total = 1; code = 0 })), false) ∷
    (to_device.valid (announce (record { version = text 1; size = 1024; total = 1; code = 0 })), true) ∷
    (to_device.valid (announce (record { version = text 1; size = 1025; total = 1; code = 0 })), false) ∷
    (to_device.valid (announce (record { version = text 1; size = 32; total = 0; code = 0 })), false) ∷
    (to_device.valid (announce (record { version = text 1; size = 32; total = 1; code = 65536 })), false) ∷
    (to_device.valid (fragment 0x00 0 (replicate 1024 0x41)), true) ∷
    (to_device.valid (fragment 0x00 0 (replicate 1025 0x41)), false) ∷
    (to_device.valid (fragment 0x80 65536 []), false) ∷
    (to_gateway.valid (query_reply 0x00 no_text), false) ∷
    (to_gateway.valid (fragment_request (text 1) 65535), true) ∷
    (to_gateway.valid (fragment_request no_text 0), false) ∷
    (to_gateway.valid (fragment_request (text 1) 65536), false) ∷
    (to_gateway.valid (result_report 0x00 no_text), false) ∷
    []

-- each message: its code, and then its data
abbrev pub sent_to_device : List (DeviceMessage × List ℕ)
sent_to_device =
    (query, 19 ∷ []) ∷
    (announce (record { version = text 1; size = 0x1F4; total = 0x102; code = 0x304 }), 20 ∷ (text 1 ++ (0x01 ∷ 0xF4 ∷ 0x01 ∷ 0x02 ∷ 0x03 ∷ 0x04 ∷ []))) ∷
    (fragment 0x00 0x102 (0x41 ∷ 0x42 ∷ []), 21 ∷ 0x00 ∷ 0x01 ∷ 0x02 ∷ 0x41 ∷ 0x42 ∷ []) ∷
    (fragment 0x81 0x102 [], 21 ∷ 0x81 ∷ 0x01 ∷ 0x02 ∷ []) ∷
    (download_reply 0x80, 22 ∷ 0x80 ∷ []) ∷
    (execute, 23 ∷ []) ∷
    (result_reply 0x80, 24 ∷ 0x80 ∷ []) ∷
    []

abbrev pub sent_to_gateway : List (GatewayMessage × List ℕ)
sent_to_gateway =
    (query_reply 0x00 (text 1), 19 ∷ 0x00 ∷ text 1) ∷
    (announce_reply 0x09, 20 ∷ 0x09 ∷ []) ∷
    (fragment_request (text 1) 0x102, 21 ∷ (text 1 ++ (0x01 ∷ 0x02 ∷ []))) ∷
    (download_report 0x07, 22 ∷ 0x07 ∷ []) ∷
    (execute_reply 0x04, 23 ∷ 0x04 ∷ []) ∷
    (result_report 0x0A (text 1), 24 ∷ 0x0A ∷ text 1) ∷
    []

-- upgrade supported, protocol is PCP, the bytes: the number
abbrev pub recognised : List (Bool × Bool × List ℕ × ℕ)
recognised =
    (true, true, 0xFF ∷ 0xFE ∷ 0x01 ∷ 0x13 ∷ 0x4C ∷ 0x9A ∷ 0x00 ∷ 0x00 ∷ [], 0) ∷  -- 19 query, as published
    (true, true, 0xFF ∷ 0xFE ∷ 0x01 ∷ 0x14 ∷ 0xD7 ∷ 0x68 ∷ 0x00 ∷ 0x01 ∷ 0x00 ∷ [], 0) ∷  -- 20 answer, as published
    -- with reserved bits in the version byte, and the check over the byte as it is; then with the check of version byte 01
    (true, true, 0xFF ∷ 0xFE ∷ 0x11 ∷ 0x13 ∷ 0xCB ∷ 0x1F ∷ 0x00 ∷ 0x00 ∷ [], 0) ∷
    (true, true, 0xFF ∷ 0xFE ∷ 0x81 ∷ 0x13 ∷ 0x24 ∷ 0x3C ∷ 0x00 ∷ 0x00 ∷ [], 0) ∷
    (true, true, 0xFF ∷ 0xFE ∷ 0xF1 ∷ 0x14 ∷ 0x56 ∷ 0x91 ∷ 0x00 ∷ 0x01 ∷ 0x00 ∷ [], 0) ∷
    (true, true, 0xFF ∷ 0xFE ∷ 0xF1 ∷ 0x14 ∷ 0xD7 ∷ 0x68 ∷ 0x00 ∷ 0x01 ∷ 0x00 ∷ [], 6) ∷
    (false, false, [], 1) ∷
    (true, false, [], 2) ∷
    (true, true, 0x00 ∷ 0xFE ∷ 0x02 ∷ 0x13 ∷ [], 3) ∷
    (true, true, 0xFF ∷ 0x00 ∷ 0x02 ∷ 0x13 ∷ [], 3) ∷
    (true, true, 0xFF ∷ 0xFE ∷ 0x02 ∷ 0x12 ∷ [], 4) ∷
    (true, true, 0xFF ∷ 0xFE ∷ 0xF2 ∷ 0x12 ∷ [], 4) ∷
    (true, true, 0xFF ∷ 0xFE ∷ 0xF2 ∷ 0x13 ∷ 0xDD ∷ 0xDF ∷ 0x00 ∷ 0x00 ∷ [], 4) ∷
    (true, true, 0xFF ∷ 0xFE ∷ 0x10 ∷ 0x13 ∷ 0xF9 ∷ 0x34 ∷ 0x00 ∷ 0x00 ∷ [], 4) ∷
    (true, true, 0xFF ∷ 0xFE ∷ 0x00 ∷ 0x13 ∷ 0x00 ∷ 0x00 ∷ 0x00 ∷ 0x01 ∷ [], 4) ∷
    (true, true, 0xFF ∷ 0xFE ∷ 0x11 ∷ 0x12 ∷ 0x32 ∷ 0x84 ∷ 0x00 ∷ 0x00 ∷ [], 5) ∷
    (true, true, 0xFF ∷ 0xFE ∷ 0x01 ∷ 0x12 ∷ 0x00 ∷ 0x00 ∷ 0x00 ∷ 0x00 ∷ [], 5) ∷
    (true, true, 0xFF ∷ 0xFE ∷ 0x01 ∷ 0x13 ∷ 0x00 ∷ 0x00 ∷ 0x00 ∷ 0x01 ∷ [], 6) ∷
    (true, true, 0xFF ∷ 0xFE ∷ 0x01 ∷ 0x13 ∷ 0x5C ∷ 0xBB ∷ 0x00 ∷ 0x01 ∷ [], 7) ∷
    (true, true, 0xFF ∷ 0xFE ∷ 0x01 ∷ 0x13 ∷ 0x22 ∷ 0xBF ∷ 0x00 ∷ 0x00 ∷ 0x00 ∷ [], 7) ∷
    (true, true, 0xFF ∷ 0xFE ∷ 0xF1 ∷ 0x13 ∷ 0xAD ∷ 0xB3 ∷ 0x00 ∷ 0x01 ∷ [], 7) ∷
    -- cut short: a message fails at the field that it cannot hold, and 4 to 7 bytes at the check
    (true, true, [], 3) ∷
    (true, true, 0xFF ∷ [], 3) ∷
    (true, true, 0xFF ∷ 0xFE ∷ [], 4) ∷
    (true, true, 0xFF ∷ 0xFE ∷ 0x01 ∷ [], 5) ∷
    (true, true, 0xFF ∷ 0xFE ∷ 0x01 ∷ 0x13 ∷ [], 6) ∷
    (true, true, 0xFF ∷ 0xFE ∷ 0x01 ∷ 0x13 ∷ 0x4C ∷ 0x9A ∷ 0x00 ∷ [], 6) ∷
    []

pub record MessageCases : Type 0 where
  pub in_range : Agree (λ (r : Bool × Bool). r.0) (λ r. r.1) ranges
  pub text_is : Agree (λ (r : List ℕ × Bool). good_version r.0) (λ r. r.1) texts
  pub result_is : Agree (λ (r : (ℕ → Bool) × List ℕ). allowed r.0) (λ r. r.1) results
  pub room_is : Agree (λ (r : ℕ × ℕ). r.0) (λ r. r.1) rooms
  pub field_is : Agree (λ (r : Bool × Bool). r.0) (λ r. r.1) fields
  pub device_data : Agree (λ (r : DeviceMessage × List ℕ). to_device.code r.0 ∷ to_device.content r.0) (λ r. r.1) sent_to_device
  pub gateway_data : Agree (λ (r : GatewayMessage × List ℕ). to_gateway.code r.0 ∷ to_gateway.content r.0) (λ r. r.1) sent_to_gateway
  pub number_is : Agree (λ (r : Bool × Bool × List ℕ × ℕ). recognition r.0 r.1 r.2) (λ r. r.3) recognised
