-- The gateway's calls keep the invariant of the runs: one clause for each outcome of its view. Assumes nothing.
use Prim.Native.Nat.{ℕ}
use native.Mathlib.Omega.{arith}
use mathlib.Core.Bool.{Bool}
use mathlib.Core.Path.{◌≡◌, refl, sym, ◌∙◌, ap, subst}
use mathlib.Core.List.{List, ◌++◌}
use mathlib.Core.Logic.{◌⊎◌, inl, inr}
use Rattle.message.specs.declared.Fields.{Fields}
use Rattle.message.specs.Messages.{DeviceMessage, query, announce, fragment, download_reply, execute, result_reply, GatewayMessage, announce_reply}
use Rattle.message.specs.Messages.{result_report}
use Rattle.message.specs.Messages.{Reading, refused, to_device, to_gateway}
use Rattle.codec.specs.Codec.{read_of}
use Rattle.gateway_record.specs.declared.Gateway.{Gateway}
use Rattle.gateway_record.specs.Record as gateway
use Rattle.gateway_rules.proofs.Views.{Served, CanSay, Says, nothing, says, Turns, stays, offers, serves, runs, fails, succeeds, received, next_said}
use Rattle.upgrade.specs.Calls.{GatewayCall, aired, at_gateway, next}
use Rattle.upgrade.specs.Records.{gateway_next, World, records, gateway_does}
use Rattle.upgrade.proofs.Ends.{gateway_says}
use Rattle.upgrade.proofs.Air.{Air, Heard, air_map, air_more, air_silent, air_said}
use Rattle.upgrade.proofs.Run.{Plan, NotEnded, Offering, RunsTarget, GatewaySaid, DeviceSaid, more_said, Untaken, Taken}

-- ---- a call by its view

-- what the call has the gateway hear
abbrev pub heard_in : GatewayCall Bool → Reading GatewayMessage
heard_in (GatewayCall.given supported pcp message reply) = read_of to_gateway supported pcp message
heard_in (GatewayCall.asked reply) = refused 0

module _ (content : List ℕ) (g : Gateway) where
  pub gateway_turns : (c : GatewayCall Bool) → Turns g content (heard_in c) (gateway_next content g c)
  unfolding gateway_does
  gateway_turns (GatewayCall.given supported pcp message reply) = (received g content reply supported pcp message).turns
  gateway_turns (GatewayCall.asked reply) = stays refl

  on-air : (reply : List ℕ) (n : ℕ) (buffer : List ℕ) → Says g content reply n buffer → Air to_device (CanSay g content) (aired n buffer)
  on-air reply n buffer (nothing e) = air_silent to_device n buffer e
  on-air reply n buffer (says m e b s) = air_said to_device m n buffer reply e b s

  pub gateway_said : (c : GatewayCall Bool) → Air to_device (CanSay g content) (gateway_says content g c)
  unfolding gateway_does
  gateway_said (GatewayCall.given supported pcp message reply) = on-air reply _ _ (received g content reply supported pcp message).said
  gateway_said (GatewayCall.asked reply) = on-air reply _ _ (next_said g content reply)

-- ---- before the announcement is taken up

not_serving : (g : Gateway) → Offering g → (g.phase ≡ gateway.serve) ⊎ (g.phase ≡ gateway.run) → ⊥
not_serving g (inl p) (inl q) = omega arith
not_serving g (inl p) (inr q) = omega arith
not_serving g (inr (p, n)) (inl q) = omega arith
not_serving g (inr (p, n)) (inr q) = omega arith

not_asking : (g : Gateway) → Offering g → g.phase ≡ gateway.ask → ⊥
not_asking g (inl p) q = omega arith
not_asking g (inr (p, n)) q = omega arith

phase_is : {g h : Gateway} → g ≡ h → g.phase ≡ h.phase
phase_is e = ap (λ (x : Gateway). x.phase) e

ending_is : {g h : Gateway} → g ≡ h → g.ending ≡ h.ending
ending_is e = ap (λ (x : Gateway). x.ending) e

module _ (p : Plan) (g h : Gateway) (heard : Reading GatewayMessage) where
  -- what it says, where it serves only if `served`
  said-so : {served : Type 0} → g.fields ≡ p.offer → ((g.phase ≡ gateway.serve) ⊎ (g.phase ≡ gateway.run) → served)
      → (m : DeviceMessage) → CanSay g p.content m → GatewaySaid p served m
  said-so o k query s = tt
  said-so o k (announce a) s = s.1 ∙ o
  said-so o k (fragment result index bytes) s =
      λ z.
      let v : Served g p.content index bytes = s z in
      (k v.phase, v.stretch ∙ ap (λ (x : Fields). gateway.fragment_of p.content x.size index) o)
  said-so o k (download_reply result) s = tt
  said-so o k execute s = k (inr s)
  said-so o k (result_reply result) s = tt

  still-offering : {S : Type 0} → Heard to_gateway (DeviceSaid p ⊥ S) heard → Offering g → Turns g p.content heard h → Offering h
  still-offering k o (stays e) = subst Offering (sym e) o
  still-offering k o (offers q e) = absurd (not_asking g o q)
  still-offering k o (serves q a e) = absurd (k (announce_reply 0x00) a refl)
  still-offering k o (runs q e) = absurd (not_serving g o (inl q))
  still-offering k o (fails n z e) = inr (phase_is e, λ q. z (sym (ending_is e) ∙ q))
  still-offering k o (succeeds q a e) = absurd (not_serving g o (inr q))

  -- ---- after it: the gateway ends once, with 0 only where the target was reported with 00

  ends-once : {T I : Type 0} → g.fields ≡ p.offer → Heard to_gateway (DeviceSaid p T (NotEnded g → I)) heard
      → (g.phase ≡ gateway.ended → g.ending ≡ 0 → I) → Turns g p.content heard h
      → (NotEnded h → NotEnded g) × (h.phase ≡ gateway.ended → h.ending ≡ 0 → I)
  ends-once o k s (stays e) = (λ n q. n (phase_is e ∙ q), λ q z. s (sym (phase_is e) ∙ q) (sym (ending_is e) ∙ z))
  ends-once o k s (offers q e) = (λ _ r. omega arith, λ r. absurd (omega (arith, phase_is e)))
  ends-once o k s (serves q a e) = (λ _ r. omega arith, λ r. absurd (omega (arith, phase_is e)))
  ends-once o k s (runs q e) = (λ _ r. omega arith, λ r. absurd (omega (arith, phase_is e)))
  ends-once o k s (fails n z e) = (λ l. absurd (l (phase_is e)), λ _ q. absurd (z (sym (ending_is e) ∙ q)))
  ends-once o k s (succeeds q a e) = (
    λ l. absurd (l (phase_is e)),
    λ _ _. k (result_report 0x00 g.fields.version) a refl (ap (λ (x : Fields). x.version) o) (λ r. omega arith),
  )

-- ---- a call

module _ (p : Plan) (w : World) (c : GatewayCall Bool) (o : w.gateway.fields ≡ p.offer) where
  abbrev turned : Gateway
  turned = gateway_next p.content w.gateway c

  abbrev more : List (List ℕ)
  more = gateway_says p.content w.gateway c

  air-after : {served : Type 0} → ((w.gateway.phase ≡ gateway.serve) ⊎ (w.gateway.phase ≡ gateway.run) → served)
      → Air to_device (GatewaySaid p served) w.from_gateway → Air to_device (GatewaySaid p served) (more ++ w.from_gateway)
  air-after k said =
      air_more to_device more w.from_gateway
      (air_map to_device (said-so p w.gateway turned (heard_in c) o k) more (gateway_said p.content w.gateway c)) said

  pub untaken_turn : Untaken p w → Heard to_gateway (DeviceSaid p ⊥ (RunsTarget p w.device_end.device)) (heard_in c)
      → Untaken p (next (records p.content) w (at_gateway c))
  unfolding next
  untaken_turn u k =
      record {
        offering = still-offering p w.gateway turned (heard_in c) k u.offering (gateway_turns p.content w.gateway c);
        said = air-after (not_serving w.gateway u.offering) u.said;
        heard = u.heard;
        sound = u.sound;
        resumable = u.resumable;
        image_kept = u.image_kept;
      }

  pub taken_turn : {E I : Type 0} → Taken p w E I → Heard to_gateway (DeviceSaid p (Unit {0}) (NotEnded w.gateway → I)) (heard_in c)
      → Taken p (next (records p.content) w (at_gateway c)) E I
  unfolding next
  taken_turn {E} {I} t k =
      let x : (NotEnded turned → NotEnded w.gateway) × (turned.phase ≡ gateway.ended → turned.ending ≡ 0 → I) =
      ends-once p w.gateway turned (heard_in c) o k t.success (gateway_turns p.content w.gateway c) in
      record {
        said = air-after (λ _. tt) t.said;
        heard = air_map to_gateway (more_said p (λ u. u) (λ s n. s (x.0 n))) w.from_device t.heard;
        fields_are = t.fields_are;
        sound = t.sound;
        installs = t.installs;
        reports = λ q z n. t.reports q z (x.0 n);
        success = x.1;
        past_kept = t.past_kept;
      }
