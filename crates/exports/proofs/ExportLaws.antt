-- Buffers that are too short for a record, and lengths of messages that fit an answer. Assumes nothing.
use Prim.Native.Nat.{ℕ, ◌≤◌, ◌<◌}
use native.Mathlib.Omega.{arith}
use mathlib.Core.Path.{◌≡◌, sym, ◌∙◌, ap}
use mathlib.Core.Bool.{Bool}
use mathlib.Core.List.{List}
use lib.Dec.{leb}
use lib.ListN.{length}
use borrow.Author.Tests.{le-leb, lt-leb, ne_eqb}
use Rattle.basis.specs.Choice.{pick}
use Rattle.basis.specs.Numbers.{short_record}
use Rattle.basis.proofs.Choosing.{pick_yes, pick_no}
use Rattle.basis.proofs.Lists.{length_part}
use Rattle.std.specs.Prelude.{Ok}
use Rattle.codec.specs.Codec.{Sent}
use Rattle.codec.specs.Answers.{sent}
use Rattle.device_record.specs.declared.Device.{Device}
use Rattle.device_rules.specs.declared.Answer.{Answer}
use Rattle.device_rules.specs.Answers.{after_call}
use Rattle.device_rules.specs.Rules as device
use Rattle.gateway_record.specs.declared.Gateway.{Gateway}
use Rattle.gateway_rules.specs.declared.Answer as gateway-answer
use Rattle.gateway_rules.specs.Answers as gateway-answers
use Rattle.gateway_rules.specs.Rules as gateway
use Rattle.layout_rules.specs.Layout.{device_at, device_length, gateway_at}
use Rattle.exports.specs.Exports.{Left}
use Rattle.exports.specs.Exports.{device_give_digest_of}
use Rattle.exports.proofs.Fits.{device_reply_short, device_ask_short, gateway_reply_fits, gateway_ask_fits}

-- ---- a record buffer that is too short, and one that is not

module _ {A : Type 0} (room : ℕ) (bytes : List ℕ) (a b : A) where
  pub too_short : length bytes < room → b ≡ pick (leb room (length bytes)) a b
  too_short h = sym (pick_no _ a b (lt-leb room (length bytes) h))

  pub long_enough : room ≤ length bytes → a ≡ pick (leb room (length bytes)) a b
  long_enough h = sym (pick_yes _ a b (le-leb room (length bytes) h))

-- ---- the device

module _ (bytes : List ℕ) (room : device_length ≤ length bytes) where
  -- a digest of another length
  pub device_no_digest : (digest : List ℕ) → (length digest ≡ 16 → ⊥)
      → ◌≡◌ {A = Left} (record { answer = short_record; bytes = bytes }) (device_give_digest_of bytes digest)
  unfolding device_give_digest_of
  device_no_digest digest h = sym (pick_no _ _ _ (ne_eqb _ 16 h)) ∙ long_enough device_length bytes _ _ room

module _ (bytes image map reply : List ℕ) (d : Device) (at : d ≡ device_at bytes) where
  -- lengths that fit an answer
  pub device_reply_below : (image' map' reply' message : List ℕ) (supported pcp : Bool) (condition : ℕ) (a : Answer)
      → after_call a image' map' reply' ≡ device.receive_of d image map reply supported pcp condition message → a.length < 65536
  unfolding device_at
  device_reply_below image' map' reply' message supported pcp condition a e =
      let h = device_reply_short d (ap (λ (d : Device). length d.running) at ∙ length_part bytes 1 16) image map reply supported pcp condition message in
      omega (arith, h, ap (λ (n : device.After). n.length) e)

  pub device_ask_below : (reply' : List ℕ) (n : ℕ) → sent (Ok n) reply' ≡ device.next_message_of d image map reply → n < 65536
  unfolding device_at
  device_ask_below reply' n e =
      let h = device_ask_short d (ap (λ (d : Device). length d.running) at ∙ length_part bytes 1 16) image map reply
      (ap (λ (d : Device). length d.fields.version) at ∙ length_part bytes 17 16) in
      omega (arith, h, ap (λ (s : Sent). s.length) e)

-- ---- the gateway

module _ (bytes content reply : List ℕ) (g : Gateway) (at : g ≡ gateway_at bytes) where
  -- lengths that fit an answer
  pub gateway_reply_below : (reply' message : List ℕ) (supported pcp : Bool) (a : gateway-answer.Answer)
      → gateway-answers.after_call a reply' ≡ gateway.receive_of g content reply supported pcp message → a.length < 65536
  gateway_reply_below reply' message supported pcp a e =
      omega (arith, gateway_reply_fits g content reply supported pcp message, ap (λ (n : gateway.After). n.length) e)

  pub gateway_ask_below : (reply' : List ℕ) (n : ℕ) → sent (Ok n) reply' ≡ gateway.next_message_of g content reply → n < 65536
  unfolding gateway_at
  gateway_ask_below reply' n e =
      let h = gateway_ask_fits g content reply (ap (λ (g : Gateway). length g.fields.version) at ∙ length_part bytes 2 16) in
      omega (arith, h, ap (λ (s : Sent). s.length) e)
