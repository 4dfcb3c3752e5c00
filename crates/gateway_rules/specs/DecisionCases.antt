-- The gateway's decisions in computed cases: phase and ending after a 19 answer, the result of a request for a fragment, the ending of an
-- install. What a row says is written from 01, "The gateway". Assumes nothing.
use Rattle.std.specs.Prelude.{ℕ, List, [], ◌∷◌}
use Rattle.basis.specs.Cases.{Agree, allowed}
use Rattle.message.specs.Cases.{text}
use Rattle.message.specs.declared.Fields.{Fields}
use Rattle.gateway_record.specs.declared.Gateway.{Gateway}
use Rattle.gateway_rules.specs.Decisions.{after_query, serving, fragment_result, install_ending}

-- V2 in two fragments
abbrev pub fields : Fields
fields = record { version = text 2; size = 32; total = 2; code = 0x1234 }

abbrev pub gateway : (phase ending : ℕ) → Gateway
gateway phase ending = record { phase = phase; ending = ending; fields = fields; length = 33 }

-- the version that runs; the record after it, in Ask before
abbrev pub queries : List (ℕ × Gateway)
queries = (1, gateway 1 0) ∷ (2, gateway 4 1) ∷ []

-- phase, version, index; result
abbrev pub requests : List (ℕ × ℕ × ℕ × ℕ)
requests =
    (0, 2, 0, 0x80) ∷
    (1, 2, 0, 0x80) ∷
    (2, 2, 0, 0x00) ∷
    (2, 2, 1, 0x00) ∷
    (2, 2, 2, 0x81) ∷
    (2, 1, 2, 0x80) ∷  -- the version before the index
    (3, 2, 1, 0x00) ∷
    (4, 2, 0, 0x80) ∷
    []

-- result, version; ending number
abbrev pub installs : List (ℕ × ℕ × ℕ)
installs = (0x00, 2, 0) ∷ (0x00, 1, 5) ∷ (0x01, 2, 5) ∷ []

pub record GatewayDecisionCases : Type 0 where
  pub query : Agree (λ (r : ℕ × Gateway). after_query (gateway 0 0) (text r.0)) (λ r. r.1) queries
  pub serves : Agree (λ (r : List ℕ). allowed serving) (λ r. r) ((2 ∷ 3 ∷ []) ∷ [])
  pub request : Agree (λ (r : ℕ × ℕ × ℕ × ℕ). fragment_result r.0 fields (text r.1) r.2) (λ r. r.3) requests
  pub install : Agree (λ (r : ℕ × ℕ × ℕ). install_ending fields r.0 (text r.1)) (λ r. r.2) installs
