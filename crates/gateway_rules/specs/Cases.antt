-- The gateway's calls in computed cases: what each message brings in each phase, what is said when asked, and the refusals in their order. What
-- a row says is written from 01, "The gateway" and "Numbers returned", as 02 (2026-08) amends it. Assumes nothing.
use Rattle.std.specs.Prelude.{ℕ, ◌-◌, Bool, true, false, List, [], ◌∷◌, ◌++◌, take, drop, replicate}
use Rattle.basis.specs.Cases.{Agree}
use Rattle.message.specs.Limits.{gateway_room}
use Rattle.message.specs.Cases.{text}
use Rattle.message.specs.Messages.{GatewayMessage, query_reply, announce_reply, fragment_request, download_report, execute_reply, result_report, found}
use Rattle.codec.specs.Codec.{Sent}
use Rattle.gateway_record.specs.declared.Gateway.{Gateway}
use Rattle.gateway_record.specs.Cases.{gateway, content}
use Rattle.gateway_rules.specs.Rules.{After, handle, receive_of, next_message_of}

-- V2 is the package of 33 bytes, with a check code that no start gives it, so that a row shows where the code goes
abbrev pub offers : (phase ending : ℕ) → Gateway
offers phase ending = gateway phase ending (text 2) 32 2 0x1234 33

abbrev pub zeros : ℕ → List ℕ
zeros n = replicate n 0

-- code and data of a message of n bytes at the front of a buffer
abbrev pub code_and_data : (n : ℕ) → List ℕ → List ℕ
code_and_data n reply = take 1 (drop 3 (take n reply)) ++ drop 8 (take n reply)

-- number, phase, ending number, and the reply's code and data
abbrev pub outcome : After → List ℕ
outcome a = a.number ∷ a.gateway.phase ∷ a.gateway.ending ∷ code_and_data a.length a.reply

-- phase, message; number, phase, ending number, reply
abbrev pub steps : List (ℕ × GatewayMessage × List ℕ)
steps =
    -- 19 answer
    (0, query_reply 0x00 (text 1), 0 ∷ 1 ∷ 0 ∷ []) ∷
    (0, query_reply 0x00 (text 2), 0 ∷ 4 ∷ 1 ∷ []) ∷
    (1, query_reply 0x00 (text 2), 9 ∷ 1 ∷ 0 ∷ []) ∷
    (2, query_reply 0x00 (text 2), 9 ∷ 2 ∷ 0 ∷ []) ∷
    (3, query_reply 0x00 (text 2), 9 ∷ 3 ∷ 0 ∷ []) ∷
    (4, query_reply 0x00 (text 2), 9 ∷ 4 ∷ 0 ∷ []) ∷
    -- 20 answer
    (0, announce_reply 0x00, 9 ∷ 0 ∷ 0 ∷ []) ∷
    (1, announce_reply 0x00, 0 ∷ 2 ∷ 0 ∷ []) ∷
    (1, announce_reply 0x03, 0 ∷ 4 ∷ 2 ∷ []) ∷
    (2, announce_reply 0x03, 9 ∷ 2 ∷ 0 ∷ []) ∷
    (3, announce_reply 0x03, 9 ∷ 3 ∷ 0 ∷ []) ∷
    (4, announce_reply 0x00, 9 ∷ 4 ∷ 0 ∷ []) ∷
    -- 21: the version before the index
    (0, fragment_request (text 2) 0, 0 ∷ 0 ∷ 0 ∷ 21 ∷ 0x80 ∷ 0x00 ∷ 0x00 ∷ []) ∷
    (1, fragment_request (text 2) 0, 0 ∷ 1 ∷ 0 ∷ 21 ∷ 0x80 ∷ 0x00 ∷ 0x00 ∷ []) ∷
    (2, fragment_request (text 2) 0, 0 ∷ 2 ∷ 0 ∷ 21 ∷ 0x00 ∷ 0x00 ∷ 0x00 ∷ replicate 32 0x41) ∷
    (2, fragment_request (text 2) 1, 0 ∷ 2 ∷ 0 ∷ 21 ∷ 0x00 ∷ 0x00 ∷ 0x01 ∷ 0x42 ∷ []) ∷
    (2, fragment_request (text 2) 2, 0 ∷ 2 ∷ 0 ∷ 21 ∷ 0x81 ∷ 0x00 ∷ 0x02 ∷ []) ∷
    (2, fragment_request (text 1) 2, 0 ∷ 2 ∷ 0 ∷ 21 ∷ 0x80 ∷ 0x00 ∷ 0x02 ∷ []) ∷
    (3, fragment_request (text 2) 1, 0 ∷ 3 ∷ 0 ∷ 21 ∷ 0x00 ∷ 0x00 ∷ 0x01 ∷ 0x42 ∷ []) ∷
    (4, fragment_request (text 2) 0, 0 ∷ 4 ∷ 0 ∷ 21 ∷ 0x80 ∷ 0x00 ∷ 0x00 ∷ []) ∷
    -- 22
    (0, download_report 0x00, 0 ∷ 0 ∷ 0 ∷ 22 ∷ 0x80 ∷ []) ∷
    (1, download_report 0x00, 0 ∷ 1 ∷ 0 ∷ 22 ∷ 0x80 ∷ []) ∷
    (2, download_report 0x00, 0 ∷ 3 ∷ 0 ∷ 22 ∷ 0x00 ∷ []) ∷
    (2, download_report 0x07, 0 ∷ 4 ∷ 3 ∷ 22 ∷ 0x00 ∷ []) ∷
    (3, download_report 0x07, 0 ∷ 3 ∷ 0 ∷ 22 ∷ 0x00 ∷ []) ∷
    (4, download_report 0x00, 0 ∷ 4 ∷ 0 ∷ 22 ∷ 0x80 ∷ []) ∷
    -- 23 answer
    (0, execute_reply 0x01, 9 ∷ 0 ∷ 0 ∷ []) ∷
    (1, execute_reply 0x01, 9 ∷ 1 ∷ 0 ∷ []) ∷
    (2, execute_reply 0x01, 9 ∷ 2 ∷ 0 ∷ []) ∷
    (3, execute_reply 0x00, 0 ∷ 3 ∷ 0 ∷ []) ∷
    (3, execute_reply 0x01, 0 ∷ 4 ∷ 4 ∷ []) ∷
    (4, execute_reply 0x01, 9 ∷ 4 ∷ 0 ∷ []) ∷
    -- 24
    (0, result_report 0x00 (text 2), 0 ∷ 0 ∷ 0 ∷ 24 ∷ 0x80 ∷ []) ∷
    (1, result_report 0x00 (text 2), 0 ∷ 1 ∷ 0 ∷ 24 ∷ 0x80 ∷ []) ∷
    (2, result_report 0x00 (text 2), 0 ∷ 2 ∷ 0 ∷ 24 ∷ 0x80 ∷ []) ∷
    (3, result_report 0x00 (text 2), 0 ∷ 4 ∷ 0 ∷ 24 ∷ 0x00 ∷ []) ∷
    (3, result_report 0x00 (text 1), 0 ∷ 4 ∷ 5 ∷ 24 ∷ 0x00 ∷ []) ∷
    (3, result_report 0x01 (text 2), 0 ∷ 4 ∷ 5 ∷ 24 ∷ 0x00 ∷ []) ∷
    (4, result_report 0x01 (text 2), 0 ∷ 4 ∷ 0 ∷ 24 ∷ 0x80 ∷ []) ∷
    []

-- a reply buffer, and a call's whole answer: what no rule names stays
abbrev fives : ℕ → List ℕ
fives n = replicate n 0x55

abbrev after : (number length : ℕ) → Gateway → List ℕ → After
after number length g reply = record { number = number; length = length; gateway = g; reply = reply }

-- 22 and 24 answered 00
abbrev taken : List ℕ
taken = 0xFF ∷ 0xFE ∷ 0x01 ∷ 0x16 ∷ 0x85 ∷ 0x0E ∷ 0x00 ∷ 0x01 ∷ 0x00 ∷ []

abbrev concluded : List ℕ
concluded = 0xFF ∷ 0xFE ∷ 0x01 ∷ 0x18 ∷ 0xAF ∷ 0xA1 ∷ 0x00 ∷ 0x01 ∷ 0x00 ∷ []

-- 22 answered 80
abbrev declined : List ℕ
declined = 0xFF ∷ 0xFE ∷ 0x01 ∷ 0x16 ∷ 0x14 ∷ 0x86 ∷ 0x00 ∷ 0x01 ∷ 0x80 ∷ []

-- phase, message; refused, moved on, ended, replied
abbrev pub answers : List (ℕ × GatewayMessage × After)
answers =
    (1, query_reply 0x00 (text 1), after 9 0 (offers 1 0) (fives gateway_room)) ∷
    (0, query_reply 0x00 (text 1), after 0 0 (offers 1 0) (fives gateway_room)) ∷
    (0, query_reply 0x00 (text 2), after 0 0 (offers 4 1) (fives gateway_room)) ∷
    (1, announce_reply 0x00, after 0 0 (offers 2 0) (fives gateway_room)) ∷
    (1, announce_reply 0x03, after 0 0 (offers 4 2) (fives gateway_room)) ∷
    (2, download_report 0x00, after 0 9 (offers 3 0) (taken ++ fives (gateway_room - 9))) ∷
    (2, download_report 0x07, after 0 9 (offers 4 3) (taken ++ fives (gateway_room - 9))) ∷
    (3, execute_reply 0x00, after 0 0 (offers 3 0) (fives gateway_room)) ∷
    (3, execute_reply 0x04, after 0 0 (offers 4 4) (fives gateway_room)) ∷
    (3, result_report 0x00 (text 2), after 0 9 (offers 4 0) (concluded ++ fives (gateway_room - 9))) ∷
    (3, result_report 0x00 (text 1), after 0 9 (offers 4 5) (concluded ++ fives (gateway_room - 9))) ∷
    (0, download_report 0x00, after 0 9 (offers 0 0) (declined ++ fives (gateway_room - 9))) ∷
    []

-- asked: phase; number, length, and the message's code and data
abbrev pub asks : List (ℕ × List ℕ)
asks =
    (0, 0 ∷ 8 ∷ 19 ∷ []) ∷
    (1, 0 ∷ 30 ∷ 20 ∷ (text 2 ++ (0x00 ∷ 0x20 ∷ 0x00 ∷ 0x02 ∷ 0x12 ∷ 0x34 ∷ []))) ∷
    (2, 9 ∷ 0 ∷ []) ∷
    (3, 0 ∷ 8 ∷ 23 ∷ []) ∷
    (4, 9 ∷ 0 ∷ []) ∷
    []

-- refusals of a message in their order, each bad in all that follows: length of the reply buffer, record, package, whether upgrade is
-- supported, the message; number
abbrev pub given : List (ℕ × Gateway × List ℕ × Bool × List ℕ × ℕ)
given =
    (1034, offers 0 6, [], false, [], 15) ∷
    (1035, offers 0 6, [], false, [], 29) ∷
    (gateway_room, offers 0 0, [], false, [], 14) ∷
    (gateway_room, offers 0 0, zeros 32, false, [], 14) ∷
    (gateway_room, offers 0 0, zeros 34, false, [], 14) ∷
    (gateway_room, offers 0 0, content, false, [], 1) ∷
    (gateway_room, offers 0 0, content, true, [], 3) ∷
    -- 20 answer in Ask, with a result that it may not carry, and with 00
    (gateway_room, offers 0 0, content, true, 0xFF ∷ 0xFE ∷ 0x01 ∷ 0x14 ∷ 0xB7 ∷ 0xAE ∷ 0x00 ∷ 0x01 ∷ 0x06 ∷ [], 8) ∷
    (gateway_room, offers 0 0, content, true, 0xFF ∷ 0xFE ∷ 0x01 ∷ 0x14 ∷ 0xD7 ∷ 0x68 ∷ 0x00 ∷ 0x01 ∷ 0x00 ∷ [], 9) ∷
    []

-- refusals of an ask in their order: length of the reply buffer, record, package; number
abbrev pub asking : List (ℕ × Gateway × List ℕ × ℕ)
asking =
    (1034, offers 2 6, [], 15) ∷
    (1035, offers 2 6, [], 29) ∷
    (gateway_room, offers 2 0, [], 14) ∷
    (gateway_room, offers 2 0, content, 9) ∷
    []

abbrev pub answer_of : Sent → List ℕ
answer_of s = s.number ∷ s.length ∷ code_and_data s.length s.buffer

pub record GatewayCases : Type 0 where
  pub step : Agree (λ (r : ℕ × GatewayMessage × List ℕ). outcome (handle (offers r.0 0) content (zeros gateway_room) (found r.1))) (λ r. r.2) steps
  pub answer : Agree (λ (r : ℕ × GatewayMessage × After). handle (offers r.0 0) content (fives gateway_room) (found r.1)) (λ r. r.2) answers
  pub ask : Agree (λ (r : ℕ × List ℕ). answer_of (next_message_of (offers r.0 0) content (zeros gateway_room))) (λ r. r.1) asks
  pub give_order :
      Agree (λ (r : ℕ × Gateway × List ℕ × Bool × List ℕ × ℕ). (receive_of r.1 r.2 (zeros r.0) r.3 true r.4).number) (λ r. r.5) given
  pub ask_order : Agree (λ (r : ℕ × Gateway × List ℕ × ℕ). (next_message_of r.1 r.2 (zeros r.0)).number) (λ r. r.3) asking
