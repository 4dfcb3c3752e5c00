-- The calls of a clean run: what one end says is heard by the other as it was said, and how an exchange leaves both. Assumes nothing.
use Prim.Native.Nat.{ℕ}
use native.Mathlib.Omega.{arith}
use mathlib.Core.Path.{◌≡◌, refl, sym, ◌∙◌, ap, subst}
use mathlib.Core.Bool.{Bool, true}
use mathlib.Core.List.{List, [], ◌∷◌}
use lib.Dec.{eqb, leb}
use lib.ListN.{length}
use borrow.Author.Tests.{le-leb, eq-eqb, ne_eqb}
use Rattle.basis.specs.Choice.{pick, refusal, one_of}
use Rattle.basis.specs.Bytes.{over}
use Rattle.basis.proofs.Choosing.{pick_no}
use Rattle.basis.proofs.Lists.{take_over}
use Rattle.message.specs.Limits.{device_room, gateway_room}
use Rattle.message.specs.Messages.{DeviceMessage, GatewayMessage, Table, Reading, found, to_device, to_gateway}
use Rattle.codec.specs.Codec.{Sent, bytes_of, said}
use Rattle.codec.proofs.Frames.{length_frame}
use Rattle.round_trips.proofs.RoundTrip.{device_round_trip, gateway_round_trip}
use Rattle.device_record.specs.Record.{condition_ok}
use Rattle.device_record.specs.Record as device
use Rattle.device_rules.specs.Rules as device-rules
use Rattle.device_rules.proofs.Standing.{standing}
use Rattle.device_rules.proofs.Sound.{sound_record, sound_room}
use Rattle.gateway_record.specs.declared.Gateway.{Gateway}
use Rattle.gateway_record.specs.Record as gateway
use Rattle.gateway_rules.specs.Rules as gateway-rules
use Rattle.upgrade.specs.Calls.{aired, DeviceCall, given, asked, GatewayCall, at_device, at_gateway, next}
use Rattle.upgrade.specs.Records.{DeviceEnd, device_answer, device_next, World, records, device_does, gateway_does}
use Rattle.upgrade.proofs.Ends.{device_says, gateway_says}
use Rattle.upgrade.proofs.Count.{any, Fine, call_fine}
use Rattle.upgrade.proofs.CleanSetting.{Setting, gateway_in, gateway_good}
use Rattle.upgrade.specs.Clean.{arrive_at_device, arrive_at_gateway, answered_by_device, answered_by_gateway, gateway_asked, device_asked, asked_number}

-- what a message leaves at the device's end
abbrev pub left : device-rules.After → DeviceEnd
left a = record { device = a.device; image = a.image; map = a.map }

-- the two ends of a world; what lies on the air behind them is heard no more
pub record At (w : World) (e : DeviceEnd) (g : Gateway) : Type 0 where
  pub device_is : w.device_end ≡ e
  pub gateway_is : w.gateway ≡ g
  pub sound : Fine e

-- a message at the front of a buffer goes on the air
pub aired_message : (t : Table) (m : t.Message) (buffer : List ℕ) → aired (length (bytes_of t m)) (over (bytes_of t m) buffer) ≡ bytes_of t m ∷ []
unfolding aired bytes_of
aired_message t m buffer =
    pick_no _ _ _ (ne_eqb (length (bytes_of t m)) 0 (λ e. omega (arith, length_frame (t.code m) (t.content m))))
    ∙ ap (λ (l : List ℕ). l ∷ []) (take_over (bytes_of t m) buffer)

zero_nine : ◌≡◌ {A = ℕ} 0 9 → ⊥
zero_nine e = omega arith

-- what a message that is heard leads to, whichever buffer is lent
abbrev pub device_takes : DeviceEnd → DeviceMessage → (reply : List ℕ) → device-rules.After
device_takes e m reply = device-rules.handle e.device e.image e.map reply 0 (found m)

module _ (s : Setting) where
  abbrev pub gateway_takes : (phase : ℕ) → GatewayMessage → (reply : List ℕ) → gateway-rules.After
  gateway_takes phase m reply = gateway-rules.handle (gateway_in s phase) s.content reply (found m)

  abbrev pub asks_device : World → World
  asks_device = device_asked (records s.content) true s.device_reply s.gateway_reply

  abbrev pub asks_gateway : World → World
  asks_gateway = gateway_asked (records s.content) true s.device_reply s.gateway_reply

  -- the device has something to say, and asking it for that leads to these two ends
  pub record Spoke (w : World) (e : DeviceEnd) (g : Gateway) : Type 0 where
    pub speaks : asked_number (records s.content) true s.device_reply s.gateway_reply w ≡ 9 → ⊥
    pub leads : At (asks_device w) e g

  -- ---- single calls

  module _ (w : World) where
    -- what the run gives an end here, and where a call leads
    abbrev given_device : DeviceMessage → DeviceCall Bool
    given_device m = given true true 0 (bytes_of to_device m) (s.device_reply w)

    abbrev given_gateway : GatewayMessage → GatewayCall Bool
    given_gateway m = GatewayCall.given true true (bytes_of to_gateway m) (s.gateway_reply w)

    abbrev after_device : DeviceCall Bool → World
    after_device c = next (records s.content) w (at_device c)

    abbrev after_gateway : GatewayCall Bool → World
    after_gateway c = next (records s.content) w (at_gateway c)

    device-roomy : leb device_room (length (s.device_reply w)) ≡ true
    device-roomy = le-leb device_room (length (s.device_reply w)) (s.device_room w)

    gateway-roomy : leb gateway_room (length (s.gateway_reply w)) ≡ true
    gateway-roomy = le-leb gateway_room (length (s.gateway_reply w)) (s.gateway_room w)

    -- the device's calls
    module _ {e : DeviceEnd} {g : Gateway} (here : At w e g) where
      good : device.record_ok e.device ≡ true
      good = sound_record (standing any) e.device e.image e.map here.sound

      fits : device.memory_ok e.device e.image e.map ≡ true
      fits = sound_room (standing any) e.device e.image e.map here.sound

      -- it is asked
      device-sends : (r : Reading GatewayMessage) → device-rules.wanted e.device e.map ≡ r
          → device-rules.next_message_of w.device_end.device w.device_end.image w.device_end.map (s.device_reply w) ≡ said to_gateway r (s.device_reply w)
      unfolding device-rules.next_message_of refusal pick
      device-sends r q =
          ap (λ (x : DeviceEnd). device-rules.next_message_of x.device x.image x.map (s.device_reply w)) here.device_is
          ∙ rw (device-roomy, good, fits, q)

      device_says_lem : (m : GatewayMessage) → device-rules.wanted e.device e.map ≡ found m
          → device_says w.device_end (asked (s.device_reply w)) ≡ bytes_of to_gateway m ∷ []
      unfolding device_does said
      device_says_lem m q = rw (device-sends (found m) q) (aired_message to_gateway m (s.device_reply w))

      pub device_number_lem : (r : Reading GatewayMessage) → device-rules.wanted e.device e.map ≡ r
          → asked_number (records s.content) true s.device_reply s.gateway_reply w ≡ (said to_gateway r (s.device_reply w)).number
      unfolding device_does
      device_number_lem r q = ap (λ (sent : Sent). sent.number) (device-sends r q)

      device_asked_lem : At (after_device (asked (s.device_reply w))) e g
      unfolding next device_does
      device_asked_lem = record { device_is = here.device_is; gateway_is = here.gateway_is; sound = here.sound }

      -- any call that leads to d
      pub device_then_lem : (c : DeviceCall Bool) {d : DeviceEnd} → device_next e c ≡ d → At (after_device c) d g
      unfolding next
      device_then_lem c then =
          record {
            device_is = ap (λ (x : DeviceEnd). device_next x c) here.device_is ∙ then;
            gateway_is = here.gateway_is;
            sound = subst Fine then (call_fine e c here.sound);
          }

      -- it is given a message
      module _ (m : DeviceMessage) (v : to_device.valid m ≡ true) where
        device_hears : device_answer e true true 0 (bytes_of to_device m) (s.device_reply w) ≡ device_takes e m (s.device_reply w)
        unfolding device-rules.receive_of refusal pick condition_ok one_of
        device_hears = rw (device-roomy, good, fits, device_round_trip.written_read m v)

        device-replies : {a : List (List ℕ)} → ((reply : List ℕ) → aired (device_takes e m reply).length (device_takes e m reply).reply ≡ a)
            → device_says w.device_end (given_device m) ≡ a
        unfolding device_does
        device-replies r =
            ap (λ (x : DeviceEnd). device_says x (given_device m)) here.device_is ∙ rw device_hears (r (s.device_reply w))

        device_given : {d : DeviceEnd} → ((reply : List ℕ) → left (device_takes e m reply) ≡ d) → At (after_device (given_device m)) d g
        unfolding device_does
        device_given t = device_then_lem (given_device m) (ap left device_hears ∙ t (s.device_reply w))

    -- the gateway's calls
    module _ {e : DeviceEnd} (phase : ℕ) (known : leb phase gateway.ended ≡ true) (here : At w e (gateway_in s phase)) where
      same_length : eqb (length s.content) (length s.content) ≡ true
      same_length = eq-eqb (length s.content) (length s.content) refl

      -- it is asked
      gateway_says_lem : (m : DeviceMessage) → gateway-rules.wanted (gateway_in s phase) ≡ found m
          → gateway_says s.content w.gateway (GatewayCall.asked (s.gateway_reply w)) ≡ bytes_of to_device m ∷ []
      unfolding gateway_does gateway-rules.next_message_of refusal pick said
      gateway_says_lem m q =
          ap (λ (x : Gateway). gateway_says s.content x (GatewayCall.asked (s.gateway_reply w))) here.gateway_is
          ∙ rw (gateway-roomy, gateway_good s phase known, same_length, q) (aired_message to_device m (s.gateway_reply w))

      gateway_asked_lem : At (after_gateway (GatewayCall.asked (s.gateway_reply w))) e (gateway_in s phase)
      unfolding next gateway_does
      gateway_asked_lem = record { device_is = here.device_is; gateway_is = here.gateway_is; sound = here.sound }

      -- it is given a message
      module _ (m : GatewayMessage) (v : to_gateway.valid m ≡ true) where
        gateway_hears : gateway-rules.receive_of w.gateway s.content (s.gateway_reply w) true true (bytes_of to_gateway m)
            ≡ gateway_takes phase m (s.gateway_reply w)
        unfolding gateway-rules.receive_of refusal pick
        gateway_hears =
            ap (λ (x : Gateway). gateway-rules.receive_of x s.content (s.gateway_reply w) true true (bytes_of to_gateway m)) here.gateway_is
            ∙ rw (gateway-roomy, gateway_good s phase known, same_length, gateway_round_trip.written_read m v)

        gateway-replies : {h : Gateway} (n : DeviceMessage)
            → ((reply : List ℕ) → gateway_takes phase m reply ≡ gateway-rules.replied (gateway_in s phase) s.content reply h n)
            → gateway_says s.content w.gateway (given_gateway m) ≡ bytes_of to_device n ∷ []
        unfolding gateway_does
        gateway-replies n r = rw (gateway_hears, r (s.gateway_reply w)) (aired_message to_device n (s.gateway_reply w))

        gateway_given : {h : Gateway} → ((reply : List ℕ) → (gateway_takes phase m reply).gateway ≡ h) → At (after_gateway (given_gateway m)) e h
        unfolding next gateway_does
        gateway_given t =
            record {
              device_is = here.device_is;
              gateway_is = ap (λ (a : gateway-rules.After). a.gateway) gateway_hears ∙ t (s.gateway_reply w);
              sound = here.sound;
            }

  -- ---- exchanges

  module _ (w : World) (e : DeviceEnd) (phase : ℕ) (here : At w e (gateway_in s phase)) (known : leb phase gateway.ended ≡ true) where
    -- the device says m, the gateway replies n and is h, the device takes n and is d
    pub device_exchange : (m : GatewayMessage) (n : DeviceMessage) {h : Gateway} {d : DeviceEnd}
        → device-rules.wanted e.device e.map ≡ found m → to_gateway.valid m ≡ true
        → ((reply : List ℕ) → gateway_takes phase m reply ≡ gateway-rules.replied (gateway_in s phase) s.content reply h n)
        → to_device.valid n ≡ true
        → ((reply : List ℕ) → left (device_takes e n reply) ≡ d)
        → Spoke w d h
    unfolding device_asked answered_by_gateway arrive_at_device said
    device_exchange m n q v r u t =
        let w₁ : World = after_device w (asked (s.device_reply w)) in
        let w₂ : World = after_gateway w₁ (given_gateway w₁ m) in
        let asked₁ : At w₁ e (gateway_in s phase) = device_asked_lem w here in
        record {
          speaks = λ z. zero_nine (sym (device_number_lem w here (found m) q) ∙ z);
          leads =
              rw (device_says_lem w here m q, gateway-replies w₁ phase known asked₁ m v n r)
              (device_given w₂ (gateway_given w₁ phase known asked₁ m v (λ reply. ap (λ (a : gateway-rules.After). a.gateway) (r reply))) n u t);
        }

    -- the gateway says n, the device replies m and is d, the gateway takes m and is h
    pub gateway_exchange : (n : DeviceMessage) (m : GatewayMessage) {d : DeviceEnd} {h : Gateway}
        → gateway-rules.wanted (gateway_in s phase) ≡ found n → to_device.valid n ≡ true
        → ((reply : List ℕ) → left (device_takes e n reply) ≡ d)
        → ((reply : List ℕ) → aired (device_takes e n reply).length (device_takes e n reply).reply ≡ bytes_of to_gateway m ∷ [])
        → to_gateway.valid m ≡ true
        → ((reply : List ℕ) → (gateway_takes phase m reply).gateway ≡ h)
        → At (asks_gateway w) d h
    unfolding gateway_asked answered_by_device arrive_at_gateway
    gateway_exchange n m q u t r v z =
        let w₁ : World = after_gateway w (GatewayCall.asked (s.gateway_reply w)) in
        let w₂ : World = after_device w₁ (given_device w₁ n) in
        let asked₁ : At w₁ e (gateway_in s phase) = gateway_asked_lem w phase known here in
        rw (gateway_says_lem w phase known here n q, device-replies w₁ asked₁ n u r) (gateway_given w₂ phase known (device_given w₁ asked₁ n u t) m v z)
