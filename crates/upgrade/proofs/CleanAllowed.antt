-- The clean run is a list of calls that demand 3 allows, whatever its ends keep: what arrives was just said, so it is on the air. Assumes
-- nothing.
use Prim.Native.Nat.{ℕ}
use mathlib.Core.Path.{refl, sym, ◌∙◌, ap}
use mathlib.Core.List.Memᴰ
use mathlib.Core.List.{List, [], ◌∷◌, ◌++◌, Memᴰ}
use Rattle.upgrade.specs.Calls.{DeviceCall, given, asked, finished, digest_given, GatewayCall, Call, at_device, at_gateway, Ends, Both, next, May}
use Rattle.upgrade.specs.Clean.{arrive_at_device, arrive_at_gateway, answered_by_device, answered_by_gateway, gateway_asked, device_asked, UntilSilent, silent}
use Rattle.upgrade.specs.Clean.{spoken, ending, Reached, digests_given}
use Rattle.upgrade.proofs.Folds.{after_append, allowed_last}

-- all of these are on the air
abbrev Aired : List (List ℕ) → List (List ℕ) → Type 0
Aired ms air = (m : List ℕ) → Memᴰ m ms → Memᴰ m air

module _ (e : Ends) (start : Both e) where
  pub reached_start : Reached e start start
  reached_start = ([], tt, refl)

  reached-next : (w : Both e) (c : Call e.Fact) → Reached e start w → May w c → Reached e start (next e w c)
  reached-next w c (calls, allowed, q) m = (
    calls ++ (c ∷ []),
    allowed_last (next e) May start calls c allowed (rw q at m),
    ap (λ (v : Both e). next e v c) q ∙ sym (after_append (next e) start calls (c ∷ [])),
  )

  -- ---- digests given

  pub digest_given_lem : (w : Both e) (digest : List ℕ) → Reached e start w → Reached e start (next e w (at_device (digest_given digest)))
  unfolding May
  digest_given_lem w digest r = reached-next w (at_device (digest_given digest)) r tt

  pub digests_given_lem : (digests : List (List ℕ)) (w : Both e) → Reached e start w → Reached e start (digests_given e w digests)
  unfolding digests_given
  digests_given_lem [] w r = r
  digests_given_lem (d ∷ ds) w r = digests_given_lem ds (next e w (at_device (digest_given d))) (digest_given_lem w d r)

  module _ (affirmed : e.Fact) (device_reply gateway_reply : Both e → List ℕ) where
    abbrev at_device_then : Both e → List (List ℕ) → Both e
    at_device_then = arrive_at_device e affirmed device_reply gateway_reply

    abbrev at_gateway_then : Both e → List (List ℕ) → Both e
    at_gateway_then = arrive_at_gateway e affirmed device_reply gateway_reply

    -- ---- messages that arrive at an end

    at-device : (w : Both e) (ms : List (List ℕ)) → Aired ms w.from_gateway → Reached e start w → Reached e start (at_device_then w ms)
    unfolding arrive_at_device next May
    at-device w [] h r = r
    at-device w (m ∷ ms) h r =
        let c : DeviceCall e.Fact = given affirmed affirmed 0 m (device_reply w) in
        at-device (next e w (at_device c)) ms (λ n i. h n (Memᴰ.tail i)) (reached-next w (at_device c) r (h m (Memᴰ.head refl)))

    at-gateway : (w : Both e) (ms : List (List ℕ)) → Aired ms w.from_device → Reached e start w → Reached e start (at_gateway_then w ms)
    unfolding arrive_at_gateway next May
    at-gateway w [] h r = r
    at-gateway w (m ∷ ms) h r =
        let c : GatewayCall e.Fact = GatewayCall.given affirmed affirmed m (gateway_reply w) in
        at-gateway (next e w (at_gateway c)) ms (λ n i. h n (Memᴰ.tail i)) (reached-next w (at_gateway c) r (h m (Memᴰ.head refl)))

    -- what an end has said stays on the air
    device-said : (w : Both e) (ms : List (List ℕ)) → Aired w.from_device (at_device_then w ms).from_device
    unfolding arrive_at_device next
    device-said w [] n i = i
    device-said w (m ∷ ms) n i =
        let c : DeviceCall e.Fact = given affirmed affirmed 0 m (device_reply w) in
        device-said (next e w (at_device c)) ms n (Memᴰ.append_right (e.device.does w.device_end c).says i)

    gateway_said : (w : Both e) (ms : List (List ℕ)) → Aired w.from_gateway (at_gateway_then w ms).from_gateway
    unfolding arrive_at_gateway next
    gateway_said w [] n i = i
    gateway_said w (m ∷ ms) n i =
        let c : GatewayCall e.Fact = GatewayCall.given affirmed affirmed m (gateway_reply w) in
        gateway_said (next e w (at_gateway c)) ms n (Memᴰ.append_right (e.gateway.does w.gateway c).says i)

    -- ---- and their replies

    by-device : (w : Both e) (ms : List (List ℕ)) → Aired ms w.from_gateway → Reached e start w
        → Reached e start (answered_by_device e affirmed device_reply gateway_reply w ms)
    unfolding answered_by_device next May
    by-device w [] h r = r
    by-device w (m ∷ ms) h r =
        let c : DeviceCall e.Fact = given affirmed affirmed 0 m (device_reply w) in
        let v : Both e = next e w (at_device c) in
        let said : List (List ℕ) = (e.device.does w.device_end c).says in
        by-device (at_gateway_then v said) ms (λ n i. gateway_said v said n (h n (Memᴰ.tail i)))
        (at-gateway v said (λ n i. Memᴰ.append_left w.from_device i) (reached-next w (at_device c) r (h m (Memᴰ.head refl))))

    by-gateway : (w : Both e) (ms : List (List ℕ)) → Aired ms w.from_device → Reached e start w
        → Reached e start (answered_by_gateway e affirmed device_reply gateway_reply w ms)
    unfolding answered_by_gateway next May
    by-gateway w [] h r = r
    by-gateway w (m ∷ ms) h r =
        let c : GatewayCall e.Fact = GatewayCall.given affirmed affirmed m (gateway_reply w) in
        let v : Both e = next e w (at_gateway c) in
        let said : List (List ℕ) = (e.gateway.does w.gateway c).says in
        by-gateway (at_device_then v said) ms (λ n i. device-said v said n (h n (Memᴰ.tail i)))
        (at-device v said (λ n i. Memᴰ.append_left w.from_gateway i) (reached-next w (at_gateway c) r (h m (Memᴰ.head refl))))

    -- ---- the run

    pub gateway_asked_lem : (w : Both e) → Reached e start w → Reached e start (gateway_asked e affirmed device_reply gateway_reply w)
    unfolding gateway_asked next May
    gateway_asked_lem w r =
        let c : GatewayCall e.Fact = GatewayCall.asked (gateway_reply w) in
        by-device (next e w (at_gateway c)) (e.gateway.does w.gateway c).says (λ n i. Memᴰ.append_left w.from_gateway i)
        (reached-next w (at_gateway c) r tt)

    device_asked_lem : (w : Both e) → Reached e start w → Reached e start (device_asked e affirmed device_reply gateway_reply w)
    unfolding device_asked next May
    device_asked_lem w r =
        let c : DeviceCall e.Fact = asked (device_reply w) in
        by-gateway (next e w (at_device c)) (e.device.does w.device_end c).says (λ n i. Memᴰ.append_left w.from_device i)
        (reached-next w (at_device c) r tt)

    pub until_silent : {w v : Both e} → UntilSilent e affirmed device_reply gateway_reply w v → Reached e start w → Reached e start v
    until_silent (silent _) r = r
    until_silent {w = w} (spoken _ u) r = until_silent u (device_asked_lem w r)

    pub at_end : (v : Both e) → Reached e start v → Reached e start (ending e affirmed device_reply gateway_reply v)
    unfolding May
    at_end v r = device_asked_lem _ (reached-next _ (at_device (finished 0x00)) (gateway_asked_lem v r) tt)
