-- The gateway's record in computed cases: total and length of a package, its fields, the start (17, 18, 19), and the test of 29. What a row says
-- is written from 01, "The gateway" and "Numbers returned", as 02 (2026-04, 2026-08) amends it. Assumes nothing.
use Rattle.std.specs.Prelude.{ℕ, Bool, true, false, List, [], ◌∷◌, ◌++◌, replicate}
use Rattle.basis.specs.Cases.{Agree}
use Rattle.message.specs.Cases.{text, no_text, slashed_text}
use Rattle.gateway_record.specs.declared.Gateway.{Gateway}
use Rattle.gateway_record.specs.declared.Started.{Started}
use Rattle.gateway_record.specs.Record.{total_of, length_ok, package_fields, start_of, record_ok}

-- phase, ending number; version, size, total, check code and length of the package
abbrev pub gateway : (phase ending : ℕ) → List ℕ → (size total code length : ℕ) → Gateway
gateway phase ending version size total code length =
    record { phase = phase; ending = ending; fields = record { version = version; size = size; total = total; code = code }; length = length }

-- a package of 33 bytes: at size 32, two fragments. Its check is 7281
abbrev pub content : List ℕ
content = replicate 32 0x41 ++ (0x42 ∷ [])

-- length, size; total
abbrev pub totals : List (ℕ × ℕ × ℕ)
totals = (1, 32, 1) ∷ (32, 32, 1) ∷ (33, 32, 2) ∷ (64, 32, 2) ∷ (65, 32, 3) ∷ (2097120, 32, 65535) ∷ []

-- length, size; neither empty nor longer than 65,535 fragments
abbrev pub lengths : List (ℕ × ℕ × Bool)
lengths = (0, 32, false) ∷ (1, 32, true) ∷ (2097120, 32, true) ∷ (2097121, 32, false) ∷ (67107840, 1024, true) ∷ (67107841, 1024, false) ∷ []

-- length, size; the total among the fields
abbrev pub announced : List (ℕ × ℕ × ℕ)
announced = (0, 0, 0) ∷ (0, 32, 0) ∷ (1, 0, 0) ∷ (33, 32, 2) ∷ (2097120, 32, 65535) ∷ (2097121, 32, 0) ∷ []

-- version, size, package, whether its check is the code; number, gateway
abbrev pub starts : List (List ℕ × ℕ × List ℕ × Bool × Started)
starts =
    (text 2, 32, content, false, record { number = 0; gateway = gateway 0 0 (text 2) 32 2 0x0000 33 }) ∷
    (text 2, 32, content, true, record { number = 0; gateway = gateway 0 0 (text 2) 32 2 0x7281 33 }) ∷
    (text 2, 1024, content, false, record { number = 0; gateway = gateway 0 0 (text 2) 1024 1 0x0000 33 }) ∷
    (text 2, 1025, content, false, record { number = 18; gateway = gateway 0 0 (replicate 16 0) 0 0 0 0 }) ∷
    -- 17, 18, 19 in their order
    (slashed_text, 32, content, true, record { number = 17; gateway = gateway 0 0 (replicate 16 0) 0 0 0 0 }) ∷
    (no_text, 31, [], true, record { number = 17; gateway = gateway 0 0 (replicate 16 0) 0 0 0 0 }) ∷
    (text 2, 31, [], true, record { number = 18; gateway = gateway 0 0 (replicate 16 0) 0 0 0 0 }) ∷
    (text 2, 32, [], true, record { number = 19; gateway = gateway 0 0 (replicate 16 0) 0 0 0 0 }) ∷
    []

-- a record, and whether it keeps the rules (29)
abbrev pub kept : List (Gateway × Bool)
kept =
    (gateway 0 0 (text 2) 32 1 0 1, true) ∷
    (gateway 4 5 (text 2) 1024 65535 65535 67107840, true) ∷
    (gateway 5 0 (text 2) 32 2 0 33, false) ∷
    (gateway 4 6 (text 2) 32 2 0 33, false) ∷
    (gateway 0 0 no_text 32 2 0 33, false) ∷
    (gateway 0 0 slashed_text 32 2 0 33, false) ∷
    (gateway 0 0 (text 2) 31 2 0 33, false) ∷
    (gateway 0 0 (text 2) 1025 1 0 33, false) ∷
    (gateway 0 0 (text 2) 32 0 0 0, false) ∷
    (gateway 0 0 (text 2) 32 65536 0 2097121, false) ∷
    -- a total that is not that of the length
    (gateway 0 0 (text 2) 32 1 0 33, false) ∷
    (gateway 0 0 (text 2) 32 3 0 33, false) ∷
    []

pub record GatewayRecordCases : Type 0 where
  pub total : Agree (λ (r : ℕ × ℕ × ℕ). total_of r.0 r.1) (λ r. r.2) totals
  pub length : Agree (λ (r : ℕ × ℕ × Bool). length_ok r.0 r.1) (λ r. r.2) lengths
  pub announces : Agree (λ (r : ℕ × ℕ × ℕ). (package_fields (text 2) r.1 r.0 0).total) (λ r. r.2) announced
  pub start : Agree (λ (r : List ℕ × ℕ × List ℕ × Bool × Started). start_of r.0 r.1 r.2 r.3) (λ r. r.4) starts
  pub record_is : Agree (λ (r : Gateway × Bool). record_ok r.0) (λ r. r.1) kept
