-- The gateway answers no call with 23, which is the device's. Assumes nothing.
use Prim.Native.Nat.{ℕ, ◌≤◌}
use native.Mathlib.Omega.{arith}
use mathlib.Core.Path.{◌≡◌, refl}
use mathlib.Core.Bool.{Bool}
use mathlib.Core.List.{List}
use Rattle.basis.specs.Numbers.{repeat_differs}
use Rattle.basis.proofs.Choosing.{by_cases, refusal_among}
use Rattle.message.specs.Messages.{DeviceMessage, GatewayMessage, query_reply, announce_reply, fragment_request, download_report, execute_reply, result_report}
use Rattle.message.specs.Messages.{Reading, found, refused, to_device, to_gateway}
use Rattle.codec.specs.Codec.{read_of, said}
use Rattle.round_trips.proofs.WrittenRead.{read_refused}
use Rattle.gateway_record.specs.declared.Gateway.{Gateway}
use Rattle.gateway_rules.specs.Rules.{After, on_query_reply, on_announce_reply, on_fragment_request, on_download_report, on_execute_reply}
use Rattle.gateway_rules.specs.Rules.{on_result_report, handle}
use Rattle.gateway_rules.specs.Rules.{receive_of, wanted, next_message_of}

abbrev Other : ℕ → Type 0
Other n = n ≡ repeat_differs → ⊥

module _ (g : Gateway) (content reply : List ℕ) where
  A : After → Type 0
  A a = Other a.number

  handled : (r : Reading GatewayMessage) → ((n : ℕ) → r ≡ refused n → n ≤ 8) → A (handle g content reply r)
  unfolding A handle on_query_reply on_announce_reply on_fragment_request on_download_report on_execute_reply on_result_report
  handled (refused n) l = λ e. omega (arith, l n refl)
  handled (found (query_reply result version)) l = by_cases A (λ _ e. omega arith) (λ _ e. omega arith)
  handled (found (announce_reply result)) l = by_cases A (λ _ e. omega arith) (λ _ e. omega arith)
  handled (found (fragment_request version index)) l = λ e. omega arith
  handled (found (download_report result)) l = by_cases A (λ _ e. omega arith) (λ _. by_cases A (λ _ e. omega arith) (λ _ e. omega arith))
  handled (found (execute_reply result)) l = by_cases A (λ _ e. omega arith) (λ _ e. omega arith)
  handled (found (result_report result version)) l = by_cases A (λ _ e. omega arith) (λ _ e. omega arith)

  pub receive_other : (supported pcp : Bool) (message : List ℕ) → (receive_of g content reply supported pcp message).number ≡ repeat_differs → ⊥
  unfolding A receive_of
  receive_other supported pcp message =
      by_cases A (λ _. handled (read_of to_gateway supported pcp message) (read_refused to_gateway supported pcp message))
      (λ _. refusal_among Other _ (λ e. omega arith) (omega arith))

  abbrev S : Reading DeviceMessage → Type 0
  S (found m) = Unit {0}
  S (refused n) = Other n

  said-other : (r : Reading DeviceMessage) → S r → (said to_device r reply).number ≡ repeat_differs → ⊥
  unfolding said
  said-other (found m) h = λ e. omega arith
  said-other (refused n) h = h

  pub ask_other : (next_message_of g content reply).number ≡ repeat_differs → ⊥
  unfolding next_message_of wanted
  ask_other =
      said-other _
      (by_cases S (λ _. by_cases S (λ _. tt) (λ _. by_cases S (λ _. tt) (λ _. by_cases S (λ _. tt) (λ _ e. omega arith))))
      (λ _. refusal_among Other _ (λ e. omega arith) (omega arith)))
