-- The record of a refused making has no version text, so that 29 refuses it where nothing did before. Assumes nothing.
use mathlib.Core.Path.{◌≡◌, refl}
use mathlib.Core.Logic.{◌≢◌}
use mathlib.Core.Bool.{false}
use lib.ListN.{replicate}
use Rattle.basis.specs.Choice.{pick, one_of}
use Rattle.basis.proofs.Choosing.{by_cases, by_refusal, fails}
use Rattle.message.specs.Version.{version_character, front, all_zero, good_version}
use Rattle.message.specs.Messages.{GatewayMessage, install_code, Reading, to_gateway}
use Rattle.codec.specs.Codec.{Sent, unsent, said}
use Rattle.device_record.specs.declared.Device.{Device}
use Rattle.device_record.specs.declared.Made.{Made}
use Rattle.device_record.specs.Record.{fresh, new_of, record_ok}
use Rattle.device_rules.proofs.Guarded.{asking_passed, receiving_passed}
use Rattle.device_rules.specs.Rules.{After, refuse, receive_of, next_message_of, install_finished_of, give_digest_of}
use Rattle.device_rules.specs.RefusedMaking.{Unusable, RefusedMaking}

module _ (d : Device) (broken : record_ok d ≡ false) where
  unusable : Unusable d
  unfolding receive_of next_message_of install_finished_of give_digest_of said pick
  unusable =
      record {
        receive = λ image map reply supported pcp condition message.
            by_refusal (λ (a : After). (a.number ≢ 0) × (a ≡ refuse d image map reply a.number)) _ _ _ broken
            (λ e. (receiving_passed d image map reply condition e).sound) (λ n. (n, refl));
        next_message = λ image map reply.
            by_refusal (λ (r : Reading GatewayMessage). let s : Sent = said to_gateway r reply in (s.number ≢ 0) × (s ≡ unsent s.number reply)) _ _ _ broken
            (λ e. (asking_passed d image map reply e).sound) (λ n. (n, refl));
        install_finished = λ code. rw (fails 29 (record_ok d) _ broken);
        give_digest = λ digest. rw (fails 29 (record_ok d) _ broken);
      }

broken_made : record_ok (fresh (replicate 16 0)) ≡ false
unfolding record_ok install_code good_version front version_character all_zero one_of pick
broken_made = refl

pub refused_making : RefusedMaking
unfolding new_of
refused_making version =
    by_cases (λ (m : Made). m.number ≢ 0 → Unusable m.device) (λ _ h. absurd (h refl)) (λ _ _. unusable _ broken_made)
