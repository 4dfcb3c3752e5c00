-- Demand 3 of what hosts keep: what it claims of the records in their bytes, it claims of them. Assumes nothing.
use Prim.Native.Nat.{ℕ, ◌+◌, ◌*◌, ◌-◌, ◌≤◌}
use mathlib.Core.Path.{◌≡◌, sym, ◌∙◌, ap, subst}
use mathlib.Core.Bool.{Bool}
use mathlib.Core.List.{List, [], ◌∷◌, ◌++◌, map, map-append}
use lib.ListN.{length, take, drop}
use Rattle.basis.proofs.Choosing.{by_cases}
use Rattle.device_record.specs.declared.Device.{Device}
use Rattle.device_record.specs.Record.{new_of}
use Rattle.gateway_record.specs.declared.Gateway.{Gateway}
use Rattle.gateway_record.specs.Record.{start_of}
use Rattle.layout_rules.specs.Layout.{device_length, gateway_at, gateway_length}
use Rattle.exports.specs.Exports.{fact, text_of, Left, device_new_of, gateway_start_of}
use Rattle.exports.proofs.ExportLaws.{long_enough}
use Rattle.exports.proofs.Carrying.{records_carried}
use Rattle.upgrade.specs.Fold.{after, Allowed}
use Rattle.upgrade.specs.Calls.{given, asked, finished, digest_given, GatewayCall, Call, at_device, at_gateway, next, May}
use Rattle.upgrade.specs.Records.{DeviceEnd, device_next, gateway_next, records, World}
use Rattle.upgrade.specs.Claims.{Executed, Installed, number_of, Ended, Success, reached, InstalledBefore, Demand3Of, RepeatsAgreeOf, InstallLengthOf}
use Rattle.upgrade.specs.Demand3.{Ready, start, device_then, gateway_then}
use Rattle.upgrade.proofs.Demand3.{demand_3, repeats_agree, install_length}
use Rattle.upgrade.proofs.Joined.{joined}
use Rattle.hosted.specs.Hosts.{DeviceHost, device_host_next, gateway_host_next, hosts, Hosts, Fitting, device_seen, seen, device_call_as}
use Rattle.hosted.specs.Hosts.{gateway_call_as, call_as}
use Rattle.hosted.specs.Hosted.{host_made, HostMade, HostedBefore, device_host_then, gateway_host_then, hosted_start, records_before, HostedReady}
use Rattle.hosted.specs.Hosted.{HostedDemand3}
use Rattle.hosted.specs.Hosted.{HostedUpgrade, HostedRepeatsAgree, HostedInstallLength}
use Rattle.hosted.proofs.Shown.{shown, allowed_shown, Split, split_shown, Headed, head_shown}
use Rattle.hosted.proofs.Runs.{kept_room, device_room, device_next_lem, device_says_lem, device_number_is, gateway_room, gateway_next_lem}
use Rattle.hosted.proofs.Runs.{still_fitting, one_call}
use Rattle.hosted.proofs.Runs.{gateway_number_is, hosted_runs}

-- ---- the two events, of hosts and of the records that they keep

module _ (content : List ℕ) (h : Hosts) (f : Fitting h) where
  executed-seen : (c : Call ℕ) → Executed (hosts content) h c → Executed (records content) (seen h) (call_as fact c)
  executed-seen (at_device (given supported pcp condition message reply)) x =
      (x.0, sym (device_says_lem h.device_end (given supported pcp condition message reply) f.device) ∙ x.1)
  executed-seen (at_device (asked reply)) x = absurd x
  executed-seen (at_device (finished code)) x = absurd x
  executed-seen (at_device (digest_given digest)) x = absurd x
  executed-seen (at_gateway c) x = absurd x

  executed-kept : (c : Call ℕ) → Executed (records content) (seen h) (call_as fact c) → Executed (hosts content) h c
  executed-kept (at_device (given supported pcp condition message reply)) x =
      (x.0, device_says_lem h.device_end (given supported pcp condition message reply) f.device ∙ x.1)
  executed-kept (at_device (asked reply)) x = absurd x
  executed-kept (at_device (finished code)) x = absurd x
  executed-kept (at_device (digest_given digest)) x = absurd x
  executed-kept (at_gateway c) x = absurd x

  installed-kept : (c : Call ℕ) → Installed (records content) (seen h) (call_as fact c) → Installed (hosts content) h c
  installed-kept (at_device (given supported pcp condition message reply)) x = absurd x
  installed-kept (at_device (asked reply)) x = absurd x
  installed-kept (at_device (finished code)) x = (x.0, device_number_is h.device_end (finished code) f.device ∙ x.1)
  installed-kept (at_device (digest_given digest)) x = absurd x
  installed-kept (at_gateway c) x = absurd x

-- ---- the claims

module _ (content : List ℕ) (begin : Hosts) (fits : Fitting begin) where
  abbrev At : List (Call ℕ) → Hosts
  At calls = reached (hosts content) begin calls

  abbrev of : Call ℕ → Call Bool
  of = call_as fact

  abbrev There : List (Call Bool) → World
  There calls = reached (records content) (seen begin) calls

  there : (calls : List (Call ℕ)) → seen (At calls) ≡ There (map of calls)
  there calls = (hosted_runs content begin fits calls).1

  fitting-at : (calls : List (Call ℕ)) → Fitting (At calls)
  fitting-at calls = (hosted_runs content begin fits calls).0

  may-there : (h : Hosts) (c : Call ℕ) → May h c → May (seen h) (of c)
  unfolding May
  may-there h (at_device (given supported pcp condition message reply)) m = m
  may-there h (at_device (asked reply)) m = tt
  may-there h (at_device (finished code)) m = tt
  may-there h (at_device (digest_given digest)) m = tt
  may-there h (at_gateway (GatewayCall.given supported pcp message reply)) m = m
  may-there h (at_gateway (GatewayCall.asked reply)) m = tt

  pub allowed_there : (calls : List (Call ℕ)) → Allowed (next (hosts content)) May begin calls
      → Allowed (next (records content)) May (seen begin) (map of calls)
  allowed_there calls a =
      allowed_shown (next (hosts content)) (next (records content)) seen of Fitting (still_fitting content) (one_call content) May May may-there calls begin
      fits a

  installed-before : (calls : List (Call ℕ)) → InstalledBefore (records content) (seen begin) (map of calls)
      → InstalledBefore (hosts content) begin calls
  installed-before calls h =
      let since : List (Call Bool) = h.installation ∷ h.since in
      let front : Split of calls h.earlier (h.execution ∷ (h.between ++ since)) = split_shown of calls _ _ h.split in
      let x : Headed of front.second h.execution (h.between ++ since) = head_shown of front.second _ _ front.second_is in
      let back : Split of x.rest h.between since = split_shown of x.rest _ _ x.rest_is in
      let y : Headed of back.second h.installation h.since = head_shown of back.second _ _ back.second_is in
      let until : List (Call ℕ) = front.first ++ (x.first ∷ back.first) in
      let until-is : map of until ≡ h.earlier ++ (h.execution ∷ h.between) =
      map-append of front.first (x.first ∷ back.first) ∙ (λ i. front.first_is i ++ (x.first_is i ∷ back.first_is i)) in
      record {
        earlier = front.first;
        execution = x.first;
        between = back.first;
        installation = y.first;
        since = y.rest;
        split = front.whole
            ∙ ap (λ (l : List (Call ℕ)). front.first ++ l) (x.whole ∙ ap (λ (l : List (Call ℕ)). x.first ∷ l)
            (back.whole ∙ ap (λ (l : List (Call ℕ)). back.first ++ l) y.whole));
        executed = executed-kept content (At front.first) (fitting-at front.first) x.first
            (rw (there front.first, front.first_is, x.first_is) h.executed);
        installed = installed-kept content (At until) (fitting-at until) y.first
            (rw (there until, until-is, y.first_is) h.installed);
        not_ended = λ ended. h.not_ended (subst (Ended (records content)) (there until ∙ ap There until-is) ended);
      }

  -- what the last call of the list was, it was there too
  module _ (calls earlier : List (Call ℕ)) (last : Call ℕ) (split : calls ≡ earlier ++ (last ∷ [])) (x : Executed (hosts content) (At earlier) last) where
    split-there : map of calls ≡ map of earlier ++ (of last ∷ [])
    split-there = ap (map of) split ∙ map-append of earlier (last ∷ [])

    executed-there : Executed (records content) (There (map of earlier)) (of last)
    executed-there =
        subst (λ (w : World). Executed (records content) w (of last)) (there earlier) (executed-seen content (At earlier) (fitting-at earlier) last x)

  pub halves_kept : Demand3Of (records content) (seen begin) content → Demand3Of (hosts content) begin content
  halves_kept halves calls a = (
    λ earlier last split x.
        let image = (halves (map of calls) (allowed_there calls a)).0 (map of earlier) (of last) (split-there calls earlier last split x)
        (executed-there calls earlier last split x) in (
          ap (λ (w : World). take (length content) w.device_end.image) (there calls) ∙ image.0,
          λ some rest e.
              ap (λ (w : World). drop (length content) w.device_end.image) (there some)
              ∙ image.1 (map of some) (map of rest) (ap (map of) e ∙ map-append of some rest),
        ),
    λ success. installed-before calls ((halves (map of calls) (allowed_there calls a)).1
        (subst (λ (w : World). Success (records content) w) (there calls) success)),
  )

  -- a call is answered with the number of the same call over records
  number-there : (h : Hosts) → Fitting h → (c : Call ℕ) → number_of (hosts content) h c ≡ number_of (records content) (seen h) (of c)
  number-there h f (at_device c) = device_number_is h.device_end c f.device
  number-there h f (at_gateway c) = gateway_number_is content h.gateway c f.gateway

  pub repeats_kept : RepeatsAgreeOf (records content) (seen begin) → RepeatsAgreeOf (hosts content) begin
  repeats_kept agree calls a c m e =
      agree (map of calls) (allowed_there calls a) (of c) (subst (λ (w : World). May w (of c)) (there calls) (may-there (At calls) c m))
      (sym (number-there (At calls) (fitting-at calls) c ∙ ap (λ (w : World). number_of (records content) w (of c)) (there calls)) ∙ e)

  pub length_kept : InstallLengthOf (records content) (seen begin) content → InstallLengthOf (hosts content) begin content
  length_kept long calls a earlier last split x =
      ap (λ (w : World). let d : Device = w.device_end.device in d.fields.size * (d.fields.total - 1) + d.last) (there calls)
      ∙ long (map of calls) (allowed_there calls a) (map of earlier) (of last) (split-there calls earlier last split x)
      (executed-there calls earlier last split x)

-- ---- the past

-- a making that is answered 0 leaves a fresh record in the bytes
module _ (buffer running : List ℕ) (m : HostMade buffer running) where
  pub made_number : (new_of (text_of running)).number ≡ 0
  unfolding device_new_of
  made_number = ap (λ (l : Left). l.answer) (long_enough device_length buffer _ _ m.fits) ∙ m.made

  pub made_room : device_length ≤ length (device_new_of buffer running).bytes
  unfolding device_new_of
  made_room = by_cases (λ (k : Left). device_length ≤ length k.bytes)
      (λ _. by_cases (λ (l : List ℕ). device_length ≤ length l) (λ _. kept_room device_length _ buffer m.fits) (λ _. m.fits)) (λ _. m.fits)

  pub made_seen : (image map : List ℕ) → device_seen (host_made buffer running image map)
      ≡ record { device = (new_of (text_of running)).device; image = image; map = map }
  made_seen image map = λ i. record { device = records_carried.device_new buffer running m.fits made_number i; image = image; map = map }

module _ (b : HostedBefore) (r : HostedReady b) where
  started-number : (start_of (text_of b.version) b.size b.content (fact b.checked)).number ≡ 0
  unfolding gateway_start_of
  started-number = ap (λ (l : Left). l.answer) (long_enough gateway_length b.gateway_buffer _ _ r.gateway_fits) ∙ r.gateway_started

  started-room : gateway_length ≤ length (gateway_start_of b.gateway_buffer b.version b.size b.content b.checked).bytes
  unfolding gateway_start_of
  started-room =
      by_cases (λ (k : Left). gateway_length ≤ length k.bytes)
      (λ _. by_cases (λ (l : List ℕ). gateway_length ≤ length l) (λ _. kept_room gateway_length _ b.gateway_buffer r.gateway_fits)
      (λ _. r.gateway_fits))
      (λ _. r.gateway_fits)

  pub device_then_lem : (device_length ≤ length (device_host_then b).bytes) × (device_seen (device_host_then b) ≡ device_then (records_before b))
  device_then_lem =
      let run = shown device_host_next device_next device_seen (device_call_as fact) (λ (h : DeviceHost). device_length ≤ length h.bytes) device_room
      device_next_lem
      b.device_calls (host_made b.device_buffer b.running b.image b.map) (made_room b.device_buffer b.running r.device_made) in (
        run.0,
        run.1 ∙ ap (λ (e : DeviceEnd). after device_next e (map (device_call_as fact) b.device_calls))
            (made_seen b.device_buffer b.running r.device_made b.image b.map),
      )

  gateway-then : (gateway_length ≤ length (gateway_host_then b)) × (gateway_at (gateway_host_then b) ≡ gateway_then (records_before b))
  gateway-then =
      let run = shown (gateway_host_next b.content) (gateway_next b.content) gateway_at (gateway_call_as fact)
      (λ (bytes : List ℕ). gateway_length ≤ length bytes) (gateway_room b.content) (gateway_next_lem b.content) b.gateway_calls _ started-room in (
        run.0,
        run.1 ∙ ap (λ (g : Gateway). after (gateway_next b.content) g (map (gateway_call_as fact) b.gateway_calls))
            (records_carried.gateway_start b.gateway_buffer b.version b.size b.content b.checked r.gateway_fits started-number),
      )

  pub fitting : Fitting (hosted_start b)
  fitting = record { device = device_then_lem.0; gateway = gateway-then.0 }

  pub started_there : seen (hosted_start b) ≡ start (records_before b)
  started_there = λ i. record { device_end = device_then_lem.1 i; gateway = gateway-then.1 i; from_device = []; from_gateway = [] }

  pub ready : Ready (records_before b)
  ready =
      record {
        device_made = made_number b.device_buffer b.running r.device_made;
        gateway_started = started-number;
        offering = sym (ap (λ (g : Gateway). g.phase) gateway-then.1) ∙ r.offering;
        held = r.held;
      }

-- ---- of what the hosts keep

pub hosted_demand_3 : HostedDemand3
hosted_demand_3 b r =
    halves_kept b.content (hosted_start b) (fitting b r)
    (rw (started_there b r) (demand_3 (records_before b) (ready b r)))

pub hosted_upgrade : HostedUpgrade
hosted_upgrade b r = joined (hosts b.content) (hosted_start b) b.content (hosted_demand_3 b r)

pub hosted_repeats_agree : HostedRepeatsAgree
hosted_repeats_agree b r =
    repeats_kept b.content (hosted_start b) (fitting b r)
    (rw (started_there b r) (repeats_agree (records_before b) (ready b r)))

pub hosted_install_length : HostedInstallLength
hosted_install_length b r =
    length_kept b.content (hosted_start b) (fitting b r)
    (rw (started_there b r) (install_length (records_before b) (ready b r)))
