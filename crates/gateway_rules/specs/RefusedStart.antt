-- The record of a refused start is of no use: the gateway's calls refuse it. Assumes nothing.
use Rattle.std.specs.Prelude.{ℕ, ◌≡◌, ◌≢◌, Bool, List}
use Rattle.codec.specs.Codec.{Sent, unsent}
use Rattle.gateway_record.specs.declared.Gateway.{Gateway}
use Rattle.gateway_record.specs.Record.{start_of}
use Rattle.gateway_rules.specs.Rules.{After, refuse, receive_of, next_message_of}

-- every call with the record answers a number other than 0, and changes nothing
pub record Unusable (g : Gateway) : Type 0 where
  pub receive : (content reply : List ℕ) (supported pcp : Bool) (message : List ℕ)
      → let a : After = receive_of g content reply supported pcp message in
      (a.number ≢ 0) × (a ≡ refuse g content reply a.number)
  pub next_message : (content reply : List ℕ) → let s : Sent = next_message_of g content reply in
      (s.number ≢ 0) × (s ≡ unsent s.number reply)

abbrev pub RefusedStart : Type 0
RefusedStart =
    (version : List ℕ) (size : ℕ) (content : List ℕ) (checked : Bool)
    → (start_of version size content checked).number ≢ 0 → Unusable (start_of version size content checked).gateway
