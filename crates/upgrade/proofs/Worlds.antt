-- One call of the two ends together keeps the invariant of the runs. Assumes nothing.
use Prim.Native.Nat.{ℕ}
use native.Mathlib.Omega.{arith}
use mathlib.Core.Bool.{Bool}
use mathlib.Core.Path.{◌≡◌, refl, ◌∙◌}
use mathlib.Core.List.{List}
use Rattle.basis.specs.Numbers.{repeat_differs}
use Rattle.message.specs.Messages.{DeviceMessage, fragment, execute, GatewayMessage, execute_reply, found, to_device, to_gateway}
use Rattle.codec.specs.Codec.{read_of}
use Rattle.round_trips.proofs.WrittenRead.{device_told, gateway_told}
use Rattle.device_record.specs.Record.{loading}
use Rattle.device_rules.proofs.Views.{hears, installs, spoken, does_other}
use Rattle.upgrade.specs.Calls.{DeviceCall, given, asked, finished, digest_given, GatewayCall, at_device, at_gateway, next, May}
use Rattle.upgrade.specs.Records.{World, records, device_does}
use Rattle.upgrade.specs.Claims.{Executed, Installed}
use Rattle.upgrade.proofs.Air.{Air, Heard, air_heard}
use Rattle.upgrade.proofs.Run.{Plan, NotEnded, Run, untaken, taken}
use Rattle.upgrade.proofs.DeviceCalls.{RepeatsAt, input_of, out_in, call_does, next_is, says_is}
use Rattle.upgrade.proofs.GatewaySteps.{heard_in, untaken_turn, taken_turn}
use Rattle.upgrade.proofs.DeviceSteps.{Brought, repeats_agree, untaken_does, taken_does}

-- ---- what an end is given is on the air

module _ (w : World) where
  pub gateway_hears : {P : GatewayMessage → Type 0} (c : GatewayCall Bool) → Air to_gateway P w.from_device → May w (at_gateway c)
      → Heard to_gateway P (heard_in c)
  unfolding May
  gateway_hears (GatewayCall.given supported pcp message reply) air m =
      air_heard to_gateway gateway_told w.from_device air supported pcp message m
  gateway_hears (GatewayCall.asked reply) air m = λ n e. absurd (let z : ◌≡◌ {A = ℕ} 0 1 = cc in omega arith)

  pub device_hears : {P : DeviceMessage → Type 0} (c : DeviceCall Bool) → Air to_device P w.from_gateway → May w (at_device c)
      → Brought P (input_of c)
  unfolding May
  device_hears (given supported pcp condition message reply) air m =
      λ _ n e.
      let r : read_of to_device supported pcp message ≡ found n = cc in
      air_heard to_device device_told w.from_gateway air supported pcp message m n r
  device_hears (asked reply) air m = λ _ n e. absurd (let z : ◌≡◌ {A = ℕ} 0 1 = cc in omega arith)
  device_hears (finished code) air m = λ _ n e. absurd (let z : ◌≡◌ {A = ℕ} 0 1 = cc in omega arith)
  device_hears (digest_given digest) air m = λ _ n e. absurd (let z : ◌≡◌ {A = ℕ} 0 1 = cc in omega arith)

  -- ---- the two events

  is-executed : (content : List ℕ) (c : DeviceCall Bool) (condition : ℕ) → input_of c ≡ hears condition (found execute)
      → (out_in w.device_end c).says ≡ spoken (execute_reply 0x00) → Executed (records content) w (at_device c)
  is-executed content (given supported pcp condition message reply) k i s =
      let r : read_of to_device supported pcp message ≡ found execute = cc in
      (r, says_is w.device_end (given supported pcp condition message reply) ∙ s)
  is-executed content (asked reply) k i s = absurd (let z : ◌≡◌ {A = ℕ} 0 1 = cc in omega arith)
  is-executed content (finished code) k i s = absurd (let z : ◌≡◌ {A = ℕ} 0 1 = cc in omega arith)
  is-executed content (digest_given digest) k i s = absurd (let z : ◌≡◌ {A = ℕ} 0 1 = cc in omega arith)

  is-installed : (content : List ℕ) (c : DeviceCall Bool) → input_of c ≡ installs 0x00 → (out_in w.device_end c).number ≡ 0
      → Installed (records content) w (at_device c)
  unfolding device_does
  is-installed content (given supported pcp condition message reply) i n = absurd (let z : ◌≡◌ {A = ℕ} 0 1 = cc in omega arith)
  is-installed content (asked reply) i n = absurd (let z : ◌≡◌ {A = ℕ} 0 1 = cc in omega arith)
  is-installed content (finished code) i n = (let r : code ≡ 0x00 = cc in r, n)
  is-installed content (digest_given digest) i n = absurd (let z : ◌≡◌ {A = ℕ} 0 1 = cc in omega arith)

-- ---- a call

module _ (p : Plan) (w : World) where
  -- none is answered 23
  pub device_other : (E I : Type 0) (c : DeviceCall Bool) → May w (at_device c) → Run p w E I → (out_in w.device_end c).number ≡ repeat_differs → ⊥
  device_other E I c m r = does_other w.device_end.device w.device_end.image w.device_end.map (input_of c) (out_in w.device_end c)
      (call_does w.device_end c) (agree r)
    where
      agree : Run p w E I → (condition index : ℕ) (bytes : List ℕ) → input_of c ≡ hears condition (found (fragment 0x00 index bytes))
          → w.device_end.device.phase ≡ loading → RepeatsAt w.device_end index bytes → ⊥
      agree (untaken u) k index bytes i l x = (device_hears w c u.said m k (fragment 0x00 index bytes) i refl).0
      agree (taken t) k index bytes i l x = repeats_agree p w t (input_of c) (device_hears w c t.said m) k index bytes i l x

  pub gateway_keeps : {E I : Type 0} (c : GatewayCall Bool) → w.gateway.fields ≡ p.offer → May w (at_gateway c) → Run p w E I
      → Run p (next (records p.content) w (at_gateway c)) E I
  gateway_keeps c o m (untaken u) = untaken (untaken_turn p w c o u (gateway_hears w c u.heard m))
  gateway_keeps c o m (taken t) = taken (taken_turn p w c o t (gateway_hears w c t.heard m))

  pub device_keeps : {E E' I I' : Type 0} (c : DeviceCall Bool) → (E → E') → (I → I') → (Executed (records p.content) w (at_device c) → E')
      → (Installed (records p.content) w (at_device c) → E → NotEnded w.gateway → I') → May w (at_device c) → Run p w E I
      → Run p (next (records p.content) w (at_device c)) E' I'
  unfolding next
  device_keeps c j k x y m (untaken u) =
      rw (next_is w.device_end c, says_is w.device_end c)
      (untaken_does p w j k u (input_of c) (out_in w.device_end c) (device_hears w c u.said m) (call_does w.device_end c))
  device_keeps c j k x y m (taken t) =
      rw (next_is w.device_end c, says_is w.device_end c)
      (taken_does p w j k t (input_of c) (out_in w.device_end c) (device_hears w c t.said m)
      (λ condition i s. x (is-executed w p.content c condition i s)) (λ i n. y (is-installed w p.content c i n)) (call_does w.device_end c))
