-- Demand 3: the theorem. Assumes nothing.
use Prim.Native.Nat.{ℕ, ◌+◌, ◌*◌, ◌-◌, ◌≤◌, ◌<◌}
use native.Mathlib.Nat.{mul_comm}
use native.Mathlib.Omega.{arith}
use mathlib.Core.Path.{◌≡◌, refl, sym, ◌∙◌, ap, ap₂, subst}
use mathlib.Core.Bool.{Bool, true}
use mathlib.Core.List.{List, [], ◌∷◌, ◌++◌}
use mathlib.Core.Logic.{◌⊎◌, inl, inr}
use lib.Dec.{leb}
use lib.ListN.{length, take, drop, get_or}
use borrow.Author.Tests.{leb-true}
use Rattle.basis.specs.Choice.{pick}
use Rattle.basis.specs.Numbers.{repeat_differs}
use Rattle.basis.proofs.Choosing.{and_left}
use Rattle.checksum.specs.Check.{check_of}
use Rattle.message.specs.declared.Fields.{Fields}
use Rattle.message.specs.Messages.{execute, execute_reply, found, to_device, to_gateway, gateway_row}
use Rattle.codec.specs.Codec.{sealed, frame, bytes_of}
use Rattle.device_record.specs.declared.Device.{Device}
use Rattle.device_record.specs.Record.{idle, loading, loaded, acked, failed}
use Rattle.device_rules.proofs.Views
use Rattle.device_rules.proofs.Views.{Input, hears, Out, spoken}
use Rattle.device_rules.proofs.Standing.{standing, standing_under, package_stands, package_length}
use Rattle.device_rules.proofs.Sound.{Sound}
use Rattle.gateway_record.specs.declared.Gateway.{Gateway}
use Rattle.gateway_record.specs.Record as gateway
use Rattle.message.specs.Limits.{size_ok}
use Rattle.device_record.proofs.Ranges.{size_range}
use Rattle.gateway_rules.proofs.Answered.{receive_other, ask_other}
use Rattle.gateway_rules.proofs.Views.{turned_keeps}
use Rattle.gateway_record.proofs.Package.{starts, started_fields, total_covers, below_total, total_some, fragment_is}
use Rattle.upgrade.specs.Fold.{after, Allowed}
use Rattle.upgrade.specs.Calls.{DeviceCall, given, asked, finished, GatewayCall, Call, at_device, at_gateway, next, May, digest_given}
use Rattle.upgrade.specs.Records.{DeviceEnd, device_does, gateway_does, gateway_next, World, records}
use Rattle.upgrade.specs.Claims.{Executed, reached, ExecutedImage, InstalledBefore}
use Rattle.upgrade.specs.Demand3.{Before, made, device_then, gateway_then, held_then, Ready, start, Demand3, Upgrade, RepeatsAgree, InstallLength}
use Rattle.upgrade.proofs.Folds.{after_append, allowed_front, allowed_rest, always}
use Rattle.upgrade.proofs.Air.{air_none}
use Rattle.upgrade.proofs.Run.{Plan, Stretch, Run, untaken, taken, run_later}
use Rattle.upgrade.proofs.DeviceCalls.{StillAt, DoesAt, holding_busy, input_of, out_in, call_does, next_is, says_is, number_is}
use Rattle.upgrade.proofs.GatewaySteps.{heard_in, gateway_turns}
use Rattle.upgrade.proofs.DeviceSteps.{not_success}
use Rattle.upgrade.proofs.BeforeStart.{Among, Lived, lived, lived_fresh}
use Rattle.upgrade.proofs.History.{ExecutedIn, executed_later, executed_now, installed_later, installed_now}
use Rattle.upgrade.proofs.Joined.{joined}
use Rattle.upgrade.proofs.Worlds.{device_hears, device_other, gateway_keeps, device_keeps}

-- ---- Execute answered 00: the phases in which it is, and that the image stays

abbrev Full : Device → Type 0
Full d = (d.phase ≡ idle → ⊥) × (d.phase ≡ loading → ⊥) × (d.phase ≡ failed → ⊥)

reply_zero : (result : ℕ) → spoken (execute_reply result) ≡ spoken (execute_reply 0x00) → result ≡ 0
unfolding bytes_of frame sealed gateway_row
reply_zero result e = ap (λ (l : List (List ℕ)). get_or (get_or l 0 []) 8 0) e

-- a size in range is not 0
size_some : (size : ℕ) → size_ok size ≡ true → 0 < size
size_some size e = omega (arith, size_range size e)

module _ (e : DeviceEnd) (condition : ℕ) (input : Input) (i : input ≡ hears condition (found execute)) where
  still-answered : (n : ℕ) (says : List (List ℕ)) → says ≡ spoken (execute_reply 0x00) → StillAt e input n says → Full e.device
  still-answered n says s (Views.refuses z k q) = absurd (let z : ◌≡◌ {A = ℕ} 0 1 = cc in omega arith)
  still-answered n says s (Views.unread c j l q) = absurd (let z : ◌≡◌ {A = ℕ} 0 1 = cc in omega arith)
  still-answered n says s (Views.skips c index bytes j z q) = absurd (let z : ◌≡◌ {A = ℕ} 0 1 = cc in omega arith)
  still-answered n says s (Views.queried c j z q) = absurd (let z : ◌≡◌ {A = ℕ} 0 1 = cc in omega arith)
  still-answered n says s (Views.declines c a result j r nz z q) = absurd (let z : ◌≡◌ {A = ℕ} 0 1 = cc in omega arith)
  still-answered n says s (Views.continues c a j r z q) = absurd (let z : ◌≡◌ {A = ℕ} 0 1 = cc in omega arith)
  still-answered n says s (Views.delays c result j nz z q) = absurd (nz (reply_zero result (sym q ∙ s)))
  still-answered n says s (Views.executes-on c j l z q) = omega arith
  still-answered n says s (Views.requests j l k z q) = absurd (let z : ◌≡◌ {A = ℕ} 0 1 = cc in omega arith)
  still-answered n says s (Views.says-loaded j l z q) = absurd (let z : ◌≡◌ {A = ℕ} 0 1 = cc in omega arith)
  still-answered n says s (Views.says-failed j l z q) = absurd (let z : ◌≡◌ {A = ℕ} 0 1 = cc in omega arith)
  still-answered n says s (Views.says-result j l z q) = absurd (let z : ◌≡◌ {A = ℕ} 0 1 = cc in omega arith)

  answered : (o : Out) → o.says ≡ spoken (execute_reply 0x00) → DoesAt e input o → Full e.device × (o.image ≡ e.image)
  answered o s (Views.still n says x q) = (still-answered n says (sym (ap (λ (z : Out). z.says) q) ∙ s) x, ap (λ (z : Out). z.image) q)
  answered o s (Views.begins c a j b q) = absurd (let z : ◌≡◌ {A = ℕ} 0 1 = cc in omega arith)
  answered o s (Views.stores c index bytes j x q) = absurd (let z : ◌≡◌ {A = ℕ} 0 1 = cc in omega arith)
  answered o s (Views.differs c index bytes j l r q) = absurd (let z : ◌≡◌ {A = ℕ} 0 1 = cc in omega arith)
  answered o s (Views.moves phase m q) = absurd (silent (sym (ap (λ (z : Out). z.says) q) ∙ s))
    where
      silent : [] ≡ spoken (execute_reply 0x00) → ⊥
      silent r = let z : ◌≡◌ {A = ℕ} 0 1 = cc in omega arith
  answered o s (Views.executes c j l q) = (full l, ap (λ (z : Out). z.image) q)
    where
      full : (e.device.phase ≡ loaded) ⊎ (e.device.phase ≡ acked) → Full e.device
      full (inl r) = omega arith
      full (inr r) = omega arith
  answered o s (Views.reports code j l ok q) = absurd (let z : ◌≡◌ {A = ℕ} 0 1 = cc in omega arith)
  answered o s (Views.takes-digest digest j l q) = absurd (let z : ◌≡◌ {A = ℕ} 0 1 = cc in omega arith)

  -- it takes up no announcement and stores no fragment
  answered-kept : (o : Out) → DoesAt e input o → (o.device.fields ≡ e.device.fields) × (o.device.last ≡ e.device.last)
  answered-kept o (Views.still n says x q) = (ap (λ (z : Out). z.device.fields) q, ap (λ (z : Out). z.device.last) q)
  answered-kept o (Views.begins c a j b q) = absurd (let z : ◌≡◌ {A = ℕ} 0 1 = cc in omega arith)
  answered-kept o (Views.stores c index bytes j x q) = absurd (let z : ◌≡◌ {A = ℕ} 0 1 = cc in omega arith)
  answered-kept o (Views.differs c index bytes j l r q) = absurd (let z : ◌≡◌ {A = ℕ} 0 1 = cc in omega arith)
  answered-kept o (Views.moves phase m q) = (ap (λ (z : Out). z.device.fields) q, ap (λ (z : Out). z.device.last) q)
  answered-kept o (Views.executes c j l q) = (ap (λ (z : Out). z.device.fields) q, ap (λ (z : Out). z.device.last) q)
  answered-kept o (Views.reports code j l ok q) = (ap (λ (z : Out). z.device.fields) q, ap (λ (z : Out). z.device.last) q)
  answered-kept o (Views.takes-digest digest j l q) = (ap (λ (z : Out). z.device.fields) q, ap (λ (z : Out). z.device.last) q)

-- the package stands in the image, and the record says how long it is
record Whole (content : List ℕ) (e : DeviceEnd) : Type 0 where
  image : take (length content) e.image ≡ content
  long : e.device.fields.size * (e.device.fields.total - 1) + e.device.last ≡ length content

-- ---- what the gateway offers

offer_then : (content : List ℕ) (cs : List (GatewayCall Bool)) (g : Gateway)
    → (after (gateway_next content) g cs).fields ≡ g.fields
offer_then content [] g = refl
offer_then content (c ∷ cs) g =
    offer_then content cs (gateway_next content g c) ∙ (turned_keeps g content (heard_in c) _ (gateway_turns content g c)).0

-- ---- the run

abbrev world_after : Before → List (Call Bool) → World
world_after b calls = reached (records b.content) (start b) calls

module _ (b : Before) (ready : Ready b) where
  offer-is : (gateway_then b).fields
      ≡ record {
        version = b.version;
        size = b.size;
        total = gateway.total_of (length b.content) b.size;
        code = pick b.checked (check_of b.content) 0;
      }
  offer-is =
      offer_then b.content b.gateway_calls _
      ∙ started_fields b.version b.size b.content _ (starts b.version b.size b.content b.checked ready.gateway_started)

  some : 0 < (gateway_then b).fields.size
  some =
      subst (λ (x : Fields). 0 < x.size) (sym offer-is)
      (size_some b.size (starts b.version b.size b.content b.checked ready.gateway_started).size_ok)

  long : 1 ≤ length b.content
  unfolding gateway.length_ok
  long =
      leb-true 1 (length b.content)
      (and_left (leb 1 (length b.content)) _ (starts b.version b.size b.content b.checked ready.gateway_started).length_ok)

  total : (gateway_then b).fields.total ≡ gateway.total_of (length b.content) (gateway_then b).fields.size
  total = subst (λ (x : Fields). x.total ≡ gateway.total_of (length b.content) x.size) (sym offer-is) refl

  abbrev plan : Plan
  plan =
      record {
        content = b.content;
        offer = (gateway_then b).fields;
        image = (device_then b).image;
        Held = Among (held_then b).fragments;
        size_some = some;
        total_is = total;
      }

  -- ---- the invariant, along the run

  record Inv (calls : List (Call Bool)) (w : World) : Type 0 where
    offer : w.gateway.fields ≡ (gateway_then b).fields
    run : Run plan w (ExecutedIn (records b.content) (start b) calls) (InstalledBefore (records b.content) (start b) calls)

  at-start : Inv [] (start b)
  at-start =
      let l : Lived (device_then b) (held_then b) =
      lived b.device_calls (made b) _ (lived_fresh b.running b.image b.map _ ready.device_made) in
      record {
        offer = refl;
        run = untaken record {
          offering = inl ready.offering;
          said = air_none to_device;
          heard = air_none to_gateway;
          sound = l.sound;
          resumable = λ h e index bytes m.
              ready.held h (l.fields_are (holding_busy _ h) ∙ e) index bytes m
              ∙ ap (λ (x : Fields). gateway.fragment_of b.content x.size index) (sym offer-is);
          image_kept = refl;
        };
      }

  keeps : (calls : List (Call Bool)) (c : Call Bool) → Inv calls (world_after b calls) → May (world_after b calls) c
      → Inv (calls ++ (c ∷ [])) (next (records b.content) (world_after b calls) c)
  unfolding next
  keeps calls (at_device c) i m =
      record {
        offer = i.offer;
        run = device_keeps plan (world_after b calls) c (executed_later (records b.content) (start b) calls (at_device c))
            (installed_later (records b.content) (start b) calls (at_device c))
            (executed_now (records b.content) (start b) calls (at_device c))
            (λ x h n. installed_now (records b.content) (start b) calls (at_device c) h x n) m i.run;
      }
  keeps calls (at_gateway c) i m =
      let g : Gateway = (world_after b calls).gateway in
      record {
        offer = (turned_keeps g b.content (heard_in c) _ (gateway_turns b.content g c)).0 ∙ i.offer;
        run = run_later plan _ (executed_later (records b.content) (start b) calls (at_gateway c))
            (installed_later (records b.content) (start b) calls (at_gateway c))
            (gateway_keeps plan (world_after b calls) c i.offer m i.run);
      }

  abbrev Allows : List (Call Bool) → Type 0
  Allows calls = Allowed (next (records b.content)) May (start b) calls

  inv : (calls : List (Call Bool)) → Allows calls → Inv calls (world_after b calls)
  inv = always (next (records b.content)) May Inv (start b) keeps at-start

  -- ---- what it tells

  module _ {E I : Type 0} (w : World) where
    -- past the package the image is as at the start
    past : Run plan w E I → drop (length b.content) w.device_end.image ≡ drop (length b.content) (device_then b).image
    past (untaken u) = ap (drop (length b.content)) u.image_kept
    past (taken t) = t.past_kept

    success : Run plan w E I → w.gateway.phase ≡ gateway.ended → w.gateway.ending ≡ 0 → I
    success (untaken u) q z = absurd (not_success w.gateway u.offering q z)
    success (taken t) q z = t.success q z

    -- a device that is full, and is given Execute, has the package, and says how long it is
    whole-there : (c : DeviceCall Bool) (condition : ℕ) → May w (at_device c) → input_of c ≡ hears condition (found execute) → Full w.device_end.device
        → Run plan w E I → Whole b.content w.device_end
    whole-there c condition m k full (untaken u) = absurd (device_hears w c u.said m condition execute k)
    whole-there c condition m k full (taken t) =
        record {
          image = package_stands b.content d image map stretches (rw t.fields_are (rw total (total_covers n size some))) full.0 full.1 full.2;
          long = package_length b.content d image map stretches (rw t.fields_are (rw total (total_some n size some long)))
              (rw t.fields_are (rw total low)) (rw t.fields_are (rw total high)) full.0 full.1 full.2;
        }
      where
        d : Device
        d = w.device_end.device

        image : List ℕ
        image = w.device_end.image

        map : List ℕ
        map = w.device_end.map

        n : ℕ
        n = length b.content

        size : ℕ
        size = (gateway_then b).fields.size

        stretches : Sound (standing (λ index bytes. bytes ≡ take d.fields.size (drop (index * d.fields.size) b.content))) d image map
        stretches =
            standing_under (Stretch plan) (λ index bytes. bytes ≡ take d.fields.size (drop (index * d.fields.size) b.content)) d image map
            (λ _ index bytes _ q. rw t.fields_are (q ∙ fragment_is b.content _ index)) t.sound

        low : (gateway.total_of n size - 1) * size ≤ n
        low = omega (arith, below_total n size some (gateway.total_of n size - 1) (omega (arith, total_some n size some long)))

        high : n ≤ gateway.total_of n size * size
        high = omega (arith, total_covers n size some, mul_comm size (gateway.total_of n size))

    answered-whole : (c : Call Bool) → Run plan w E I → May w c → Executed (records b.content) w c
        → Whole b.content (next (records b.content) w c).device_end
    unfolding next
    answered-whole (at_device (given supported pcp condition message reply)) r m x =
        let c : DeviceCall Bool = given supported pcp condition message reply in
        let k : input_of c ≡ hears condition (found execute) = ap (hears condition) x.0 in
        let o : Out = out_in w.device_end c in
        let does : DoesAt w.device_end (input_of c) o = call_does w.device_end c in
        let a : Full w.device_end.device × (o.image ≡ w.device_end.image) =
        answered w.device_end condition (input_of c) k o (sym (says_is w.device_end c) ∙ x.1) does in
        let same : (o.device.fields ≡ w.device_end.device.fields) × (o.device.last ≡ w.device_end.device.last) =
        answered-kept w.device_end condition (input_of c) k o does in
        let whole : Whole b.content w.device_end = whole-there c condition m k a.0 r in
        rw (next_is w.device_end c) (record {
          image = ap (take (length b.content)) a.1 ∙ whole.image;
          long = ap₂ (λ (f : Fields) (last : ℕ). f.size * (f.total - 1) + last) same.0 same.1 ∙ whole.long;
        })
    answered-whole (at_device (asked reply)) r m x = absurd x
    answered-whole (at_device (digest_given digest)) r m x = elim x [ ]
    answered-whole (at_device (finished code)) r m x = absurd x
    answered-whole (at_gateway c) r m x = absurd x

  executed-whole : (calls : List (Call Bool)) → Allows calls → (earlier : List (Call Bool)) (last : Call Bool) → calls ≡ earlier ++ (last ∷ [])
      → Executed (records b.content) (world_after b earlier) last → Whole b.content (world_after b calls).device_end
  executed-whole calls a earlier last split x =
      let a' : Allows (earlier ++ (last ∷ [])) = subst Allows split a in
      rw (split, after_append (next (records b.content)) (start b) earlier (last ∷ []))
      (answered-whole (world_after b earlier) last
      (inv earlier (allowed_front (next (records b.content)) May (start b) earlier (last ∷ []) a')).run
      (allowed_rest (next (records b.content)) May (start b) earlier (last ∷ []) a').0 x)

  -- ---- the first half

  executed-image : (calls : List (Call Bool)) → Allows calls → ExecutedImage (records b.content) (start b) b.content calls
  executed-image calls a earlier last split x = (
    (executed-whole calls a earlier last split x).image,
    λ some rest e. past (world_after b some) (inv some (allowed_front (next (records b.content)) May (start b) some rest (subst Allows e a))).run,
  )

pub demand_3 : Demand3
demand_3 b ready calls a =
    (executed-image b ready calls a, λ s. success b ready (world_after b calls) (inv b ready calls a).run s.0 s.1)

pub repeats_agree : RepeatsAgree
unfolding device_does gateway_does
repeats_agree b ready calls a (at_device c) m =
    subst (λ (n : ℕ). n ≡ repeat_differs → ⊥) (sym (number_is (world_after b calls).device_end c))
    (device_other (plan b ready) (world_after b calls) _ _ c m (inv b ready calls a).run)
repeats_agree b ready calls a (at_gateway (GatewayCall.given supported pcp message reply)) m =
    receive_other (world_after b calls).gateway b.content reply supported pcp message
repeats_agree b ready calls a (at_gateway (GatewayCall.asked reply)) m = ask_other (world_after b calls).gateway b.content reply

pub install_length : InstallLength
install_length b ready calls a earlier last split x = (executed-whole b ready calls a earlier last split x).long

-- ---- the halves joined

pub upgrade : Upgrade
upgrade b ready = joined (records b.content) (start b) b.content (demand_3 b ready)
