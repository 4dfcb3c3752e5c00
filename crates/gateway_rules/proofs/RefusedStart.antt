-- The record of a refused start has no version text, so that 29 refuses it where nothing did before. Assumes nothing.
use Prim.Native.Nat.{ℕ}
use mathlib.Core.Path.{◌≡◌, refl}
use mathlib.Core.Logic.{◌≢◌}
use mathlib.Core.Bool.{true, false}
use mathlib.Core.List.{List}
use lib.Dec.{leb}
use lib.ListN.{length, replicate}
use Rattle.basis.specs.Choice.{pick}
use Rattle.basis.proofs.Choosing.{by_cases, by_refusal, passed}
use Rattle.message.specs.Limits.{gateway_room}
use Rattle.message.specs.Version.{version_character, front, all_zero, good_version}
use Rattle.message.specs.Messages.{DeviceMessage, Reading, to_device}
use Rattle.codec.specs.Codec.{Sent, unsent, said}
use Rattle.gateway_record.specs.declared.Gateway.{Gateway}
use Rattle.gateway_record.specs.declared.Started.{Started}
use Rattle.gateway_record.specs.Record.{started, start_of, record_ok, call_refusal}
use Rattle.gateway_rules.specs.Rules.{After, refuse, receive_of, next_message_of}
use Rattle.gateway_rules.specs.RefusedStart.{Unusable, RefusedStart}

-- where the guard refuses nothing, the record keeps the rules
sound_behind : (g : Gateway) (content reply : List ℕ) → call_refusal g (length content) (length reply) ≡ 0 → record_ok g ≡ true
sound_behind g content reply z =
    let (_, p) = passed 14 (leb gateway_room (length reply)) _ z in
    (passed 28 (record_ok g) _ p).0

module _ (g : Gateway) (broken : record_ok g ≡ false) where
  unusable : Unusable g
  unfolding receive_of next_message_of said
  unusable =
      record {
        receive = λ content reply supported pcp message.
            by_refusal (λ (a : After). (a.number ≢ 0) × (a ≡ refuse g content reply a.number)) _ _ _ broken
            (sound_behind g content reply) (λ n. (n, refl));
        next_message = λ content reply.
            by_refusal
            (λ (r : Reading DeviceMessage). let s : Sent = said to_device r reply in (s.number ≢ 0) × (s ≡ unsent s.number reply)) _ _ _ broken
            (sound_behind g content reply) (λ n. (n, refl));
      }

broken_start : record_ok (started (replicate 16 0) 0 0 0) ≡ false
unfolding record_ok good_version front version_character all_zero pick
broken_start = refl

pub refused_start : RefusedStart
unfolding start_of
refused_start version size content checked =
    by_cases (λ (s : Started). s.number ≢ 0 → Unusable s.gateway) (λ _ h. absurd (h refl)) (λ _ _. unusable _ broken_start)
