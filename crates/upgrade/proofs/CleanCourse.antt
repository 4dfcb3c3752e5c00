-- The clean run of a setting, from the first fragment to the end, and that it has one outcome. Assumes nothing.
use Prim.Native.Nat.{ℕ, zero, suc, ◌+◌, ◌-◌}
use native.Mathlib.Omega.{arith}
use mathlib.Core.Path.{◌≡◌, refl, ap}
use mathlib.Core.Bool.{true}
use mathlib.Core.List.{List}
use Rattle.device_record.specs.Record as device
use Rattle.gateway_record.specs.declared.Gateway.{Gateway}
use Rattle.gateway_record.specs.Record as gateway
use Rattle.upgrade.specs.Calls.{Ends, Both}
use Rattle.upgrade.specs.Records.{DeviceEnd, World, records}
use Rattle.upgrade.specs.Clean.{UntilSilent, silent, spoken, ending}
use Rattle.upgrade.proofs.CleanSetting.{Setting, total, gateway_in, end_in, loading_at, begun_with, some, total_some}
use Rattle.upgrade.proofs.CleanCalls.{At, Spoke, asks_device}
use Rattle.upgrade.proofs.CleanLoad.{Front, front_none, front_more}
use Rattle.upgrade.proofs.CleanSteps.{fetched_one, fetched_last, quiet, reported, executed, ended, succeeded}

-- asking until there is nothing to send ends in one way at most
pub one_silence : (e : Ends) (affirmed : e.Fact) (device_reply gateway_reply : Both e → List ℕ) {w v u : Both e}
    → UntilSilent e affirmed device_reply gateway_reply w v → UntilSilent e affirmed device_reply gateway_reply w u → v ≡ u
one_silence e affirmed device_reply gateway_reply (silent p) (silent q) = refl
one_silence e affirmed device_reply gateway_reply (silent p) (spoken q n) = absurd (q p)
one_silence e affirmed device_reply gateway_reply (spoken p m) (silent q) = absurd (p q)
one_silence e affirmed device_reply gateway_reply (spoken p m) (spoken q n) = one_silence e affirmed device_reply gateway_reply m n

module _ (s : Setting) where
  abbrev pub Until : World → World → Type 0
  Until = UntilSilent (records s.content) true s.device_reply s.gateway_reply

  -- all is stored and acknowledged
  pub record Fetched (v : World) : Type 0 where
    pub stored : ℕ
    pub last : ℕ
    pub image : List ℕ
    pub map : List ℕ
    pub here : At v (end_in s device.acked stored last image map) (gateway_in s gateway.run)

  abbrev pub Fetches : World → Type 0
  Fetches w = (v : World) × Until w v × Fetched v

  -- asked once more
  after_one : (w : World) {e : DeviceEnd} {g : Gateway} → Spoke s w e g → Fetches (asks_device s w) → Fetches w
  after_one w p f = (f.0, spoken p.speaks f.1, f.2)

  -- with the first k fragments, and n more behind the next one
  fetches : (n k : ℕ) (image map : List ℕ) (w : World) → Front s.content s.size (some s) k image map → k + suc n ≡ total s
      → At w (loading_at s k image map) (gateway_in s gateway.serve) → Fetches w
  fetches zero k image map w front e here =
      let last : Spoke s w _ _ = fetched_last s k image map front (omega arith) w here e in
      let told : Spoke s (asks_device s w) _ _ = reported s _ _ _ _ (asks_device s w) last.leads in
      after_one w last (after_one (asks_device s w) told (
        asks_device s (asks_device s w),
        silent (quiet s _ _ _ _ _ told.leads),
        record { stored = _; last = _; image = _; map = _; here = told.leads },
      ))
  fetches (suc n) k image map w front e here =
      let one : Spoke s w _ _ = fetched_one s k image map front (omega arith) w here (omega arith) in
      after_one w one
      (fetches n (k + 1) _ _ (asks_device s w) (front_more s.content s.size (some s) k image map front (omega arith) (omega arith)) (omega arith)
      one.leads)

  -- the announcement is taken up, and what is expected is set
  module _ (w : World) (here : At w (begun_with s s.expected) (gateway_in s gateway.serve)) where
    pub fetched : Fetches w
    fetched =
        fetches (total s - 1) 0 _ _ w (front_none s.content s.size (some s) s.first.image s.first.map s.image_room s.map_room)
        (omega (arith, total_some s)) here

    pub ends : (v : World) → Fetched v → (ending (records s.content) true s.device_reply s.gateway_reply v).gateway ≡ gateway_in s gateway.ended
    ends v f =
        (succeeded s _ _ _ _ _ (ended s _ _ _ _ _ (executed s _ _ _ _ v f.here))).leads.gateway_is

    -- whenever the device is silent after that, the rest of the run ends the gateway with success
    pub succeeds : (v : World) → Until w v → (ending (records s.content) true s.device_reply s.gateway_reply v).gateway
        ≡ gateway_in s gateway.ended
    succeeds v until =
        let (u, other, f) = fetched in
        rw (one_silence (records s.content) true s.device_reply s.gateway_reply until other) (ends u f)

    -- and the gateway is in Run
    pub runs : (v : World) → Until w v → v.gateway.phase ≡ gateway.run
    runs v until =
        let (u, other, f) = fetched in
        rw (one_silence (records s.content) true s.device_reply s.gateway_reply until other) (ap (λ (g : Gateway). g.phase) f.here.gateway_is)
