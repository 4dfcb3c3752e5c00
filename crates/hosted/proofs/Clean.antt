-- The clean run of what hosts keep: each of its states shows the state of the clean run over records. Assumes nothing.
use Prim.Native.Nat.{ℕ, ◌*◌, ◌≤◌}
use mathlib.Core.Path.{◌≡◌, sym, ◌∙◌, ap, subst}
use mathlib.Core.Bool.{Bool, true}
use mathlib.Core.List.{List, [], ◌∷◌}
use lib.ListN.{length}
use Rattle.basis.specs.Bytes.{same}
use Rattle.md5_rules.specs.Md5.{md5_of}
use Rattle.device_record.specs.Record.{map_bytes}
use Rattle.gateway_record.specs.Record.{total_of}
use Rattle.exports.specs.Exports.{fact, text_of}
use Rattle.upgrade.specs.Calls.{DeviceCall, given, asked, finished, digest_given, GatewayCall, Call, at_device, at_gateway, Ends, next}
use Rattle.upgrade.specs.Records.{DeviceEnd, records, World}
use Rattle.upgrade.proofs.Ends.{device_says, device_number, gateway_says}
use Rattle.upgrade.specs.Demand3.{device_then, start}
use Rattle.upgrade.specs.Clean.{Reached, arrive_at_device, arrive_at_gateway, answered_by_device, answered_by_gateway, gateway_asked, device_asked}
use Rattle.upgrade.specs.Clean.{UntilSilent, silent}
use Rattle.upgrade.specs.Clean.{spoken, ending, digests_given, CleanStart, SucceedsFrom, CleanRunOf, CleanRunWithDigestsOf}
use Rattle.upgrade.proofs.CleanAllowed.{reached_start, digest_given_lem, digests_given_lem, gateway_asked_lem, until_silent, at_end}
use Rattle.upgrade.proofs.CleanRun.{clean_run, clean_run_with_digests}
use Rattle.hosted.specs.Hosts.{hosts, Hosts, Fitting, device_seen, seen, call_as}
use Rattle.hosted.proofs.HostEnds.{device_host_says, device_host_number, gateway_host_says}
use Rattle.hosted.specs.Hosted.{HostedBefore, device_host_then, hosted_start, records_before, HostedCleanStart, HostedCleanRun}
use Rattle.hosted.specs.Hosted.{HostedCleanRunWithDigests}
use Rattle.hosted.proofs.Runs.{device_says_lem, device_number_is, gateway_says_lem, still_fitting, one_call}
use Rattle.hosted.proofs.Demand3.{device_then_lem, fitting, started_there, ready}

module _ (content : List ℕ) (affirmed : ℕ) (holds : fact affirmed ≡ true) (device_reply gateway_reply : World → List ℕ) where
  -- the run of hosts, and that of records
  abbrev host_device_reply : Hosts → List ℕ
  host_device_reply h = device_reply (seen h)

  abbrev host_gateway_reply : Hosts → List ℕ
  host_gateway_reply h = gateway_reply (seen h)

  -- a state of hosts that shows a world
  record Shows (h : Hosts) (w : World) : Type 0 where
    fits : Fitting h
    is : seen h ≡ w

  -- ---- a call

  shows-next : (h : Hosts) (w : World) (c : Call ℕ) → Shows h w → Shows (next (hosts content) h c) (next (records content) w (call_as fact c))
  shows-next h w c s =
      record {
        fits = still_fitting content h c s.fits;
        is = one_call content h c s.fits ∙ ap (λ (v : World). next (records content) v (call_as fact c)) s.is;
      }

  module _ (h : Hosts) (w : World) (s : Shows h w) where
    abbrev host_given_device : (m : List ℕ) → DeviceCall ℕ
    host_given_device m = given affirmed affirmed 0 m (host_device_reply h)

    abbrev host_given_gateway : (m : List ℕ) → GatewayCall ℕ
    host_given_gateway m = GatewayCall.given affirmed affirmed m (host_gateway_reply h)

    device_given : (m : List ℕ) → Shows (next (hosts content) h (at_device (host_given_device m)))
        (next (records content) w (at_device (given true true 0 m (device_reply w))))
    device_given m =
        record {
          fits = still_fitting content h (at_device (host_given_device m)) s.fits;
          is = one_call content h (at_device (host_given_device m)) s.fits
              ∙ (λ i. next (records content) (s.is i) (at_device (given (holds i) (holds i) 0 m (device_reply (s.is i)))));
        }

    device-replies : (m : List ℕ) → device_host_says h.device_end (host_given_device m) ≡ device_says w.device_end (given true true 0 m (device_reply w))
    device-replies m =
        device_says_lem h.device_end (host_given_device m) s.fits.device
        ∙ (λ i. device_says (s.is i).device_end (given (holds i) (holds i) 0 m (device_reply (s.is i))))

    gateway_given : (m : List ℕ) → Shows (next (hosts content) h (at_gateway (host_given_gateway m)))
        (next (records content) w (at_gateway (GatewayCall.given true true m (gateway_reply w))))
    gateway_given m =
        record {
          fits = still_fitting content h (at_gateway (host_given_gateway m)) s.fits;
          is = one_call content h (at_gateway (host_given_gateway m)) s.fits
              ∙ (λ i. next (records content) (s.is i) (at_gateway (GatewayCall.given (holds i) (holds i) m (gateway_reply (s.is i)))));
        }

    gateway-replies : (m : List ℕ) → gateway_host_says content h.gateway (host_given_gateway m)
        ≡ gateway_says content w.gateway (GatewayCall.given true true m (gateway_reply w))
    gateway-replies m =
        gateway_says_lem content h.gateway (host_given_gateway m) s.fits.gateway
        ∙ (λ i. gateway_says content (s.is i).gateway (GatewayCall.given (holds i) (holds i) m (gateway_reply (s.is i))))

    device-asks : Shows (next (hosts content) h (at_device (asked (host_device_reply h)))) (next (records content) w (at_device (asked (device_reply w))))
    device-asks =
        record {
          fits = still_fitting content h (at_device (asked (host_device_reply h))) s.fits;
          is = one_call content h (at_device (asked (host_device_reply h))) s.fits
              ∙ (λ i. next (records content) (s.is i) (at_device (asked (device_reply (s.is i)))));
        }

    device-speaks : device_host_says h.device_end (asked (host_device_reply h)) ≡ device_says w.device_end (asked (device_reply w))
    device-speaks =
        device_says_lem h.device_end (asked (host_device_reply h)) s.fits.device
        ∙ (λ i. device_says (s.is i).device_end (asked (device_reply (s.is i))))

    device-answers : device_host_number h.device_end (asked (host_device_reply h)) ≡ device_number w.device_end (asked (device_reply w))
    device-answers =
        device_number_is h.device_end (asked (host_device_reply h)) s.fits.device
        ∙ (λ i. device_number (s.is i).device_end (asked (device_reply (s.is i))))

    gateway-asks : Shows (next (hosts content) h (at_gateway (GatewayCall.asked (host_gateway_reply h))))
        (next (records content) w (at_gateway (GatewayCall.asked (gateway_reply w))))
    gateway-asks =
        record {
          fits = still_fitting content h (at_gateway (GatewayCall.asked (host_gateway_reply h))) s.fits;
          is = one_call content h (at_gateway (GatewayCall.asked (host_gateway_reply h))) s.fits
              ∙ (λ i. next (records content) (s.is i) (at_gateway (GatewayCall.asked (gateway_reply (s.is i)))));
        }

    gateway-speaks : gateway_host_says content h.gateway (GatewayCall.asked (host_gateway_reply h))
        ≡ gateway_says content w.gateway (GatewayCall.asked (gateway_reply w))
    gateway-speaks =
        gateway_says_lem content h.gateway (GatewayCall.asked (host_gateway_reply h)) s.fits.gateway
        ∙ (λ i. gateway_says content (s.is i).gateway (GatewayCall.asked (gateway_reply (s.is i))))

  -- ---- messages that arrive: the same at hosts (`there`) and records (`here`)

  module _ (there : Hosts → List (List ℕ) → Hosts) (here : World → List (List ℕ) → World) where
    abbrev Alike : Type 0
    Alike = (ms : List (List ℕ)) (h : Hosts) (w : World) → Shows h w → Shows (there h ms) (here w ms)

    alike : Alike → (ms ns : List (List ℕ)) (h : Hosts) (w : World) → ms ≡ ns → Shows h w → Shows (there h ms) (here w ns)
    alike same ms ns h w e s = subst (λ (l : List (List ℕ)). Shows (there h ms) (here w l)) e (same ms h w s)

  abbrev hosts_at_device : Hosts → List (List ℕ) → Hosts
  hosts_at_device = arrive_at_device (hosts content) affirmed host_device_reply host_gateway_reply

  abbrev at_device_then : World → List (List ℕ) → World
  at_device_then = arrive_at_device (records content) true device_reply gateway_reply

  arrive-device : Alike hosts_at_device at_device_then
  unfolding arrive_at_device
  arrive-device [] h w s = s
  arrive-device (m ∷ ms) h w s = arrive-device ms _ _ (device_given h w s m)

  abbrev hosts_at_gateway : Hosts → List (List ℕ) → Hosts
  hosts_at_gateway = arrive_at_gateway (hosts content) affirmed host_device_reply host_gateway_reply

  abbrev at_gateway_then : World → List (List ℕ) → World
  at_gateway_then = arrive_at_gateway (records content) true device_reply gateway_reply

  arrive-gateway : Alike hosts_at_gateway at_gateway_then
  unfolding arrive_at_gateway
  arrive-gateway [] h w s = s
  arrive-gateway (m ∷ ms) h w s = arrive-gateway ms _ _ (gateway_given h w s m)

  -- ---- and their replies

  abbrev hosts_by_device : Hosts → List (List ℕ) → Hosts
  hosts_by_device = answered_by_device (hosts content) affirmed host_device_reply host_gateway_reply

  abbrev by_device : World → List (List ℕ) → World
  by_device = answered_by_device (records content) true device_reply gateway_reply

  answered-device : Alike hosts_by_device by_device
  unfolding answered_by_device
  answered-device [] h w s = s
  answered-device (m ∷ ms) h w s =
      let c : DeviceCall ℕ = given affirmed affirmed 0 m (host_device_reply h) in
      let d : DeviceCall Bool = given true true 0 m (device_reply w) in
      answered-device ms (hosts_at_gateway (next (hosts content) h (at_device c)) (device_host_says h.device_end c))
      (at_gateway_then (next (records content) w (at_device d)) (device_says w.device_end d))
      (alike hosts_at_gateway at_gateway_then arrive-gateway _ _ _ _ (device-replies h w s m) (device_given h w s m))

  abbrev hosts_by_gateway : Hosts → List (List ℕ) → Hosts
  hosts_by_gateway = answered_by_gateway (hosts content) affirmed host_device_reply host_gateway_reply

  abbrev by_gateway : World → List (List ℕ) → World
  by_gateway = answered_by_gateway (records content) true device_reply gateway_reply

  answered-gateway : Alike hosts_by_gateway by_gateway
  unfolding answered_by_gateway
  answered-gateway [] h w s = s
  answered-gateway (m ∷ ms) h w s =
      let c : GatewayCall ℕ = GatewayCall.given affirmed affirmed m (host_gateway_reply h) in
      let d : GatewayCall Bool = GatewayCall.given true true m (gateway_reply w) in
      answered-gateway ms (hosts_at_device (next (hosts content) h (at_gateway c)) (gateway_host_says content h.gateway c))
      (at_device_then (next (records content) w (at_gateway d)) (gateway_says content w.gateway d))
      (alike hosts_at_device at_device_then arrive-device _ _ _ _ (gateway-replies h w s m) (gateway_given h w s m))

  -- ---- an end is asked once

  abbrev host_asks_gateway : Hosts → Hosts
  host_asks_gateway = gateway_asked (hosts content) affirmed host_device_reply host_gateway_reply

  abbrev host_asks_device : Hosts → Hosts
  host_asks_device = device_asked (hosts content) affirmed host_device_reply host_gateway_reply

  shows-gateway-asked : (h : Hosts) (w : World) → Shows h w → Shows (host_asks_gateway h) (gateway_asked (records content) true device_reply gateway_reply w)
  unfolding gateway_asked
  shows-gateway-asked h w s =
      alike hosts_by_device by_device answered-device _ _ _ _ (gateway-speaks h w s) (gateway-asks h w s)

  shows-device-asked : (h : Hosts) (w : World) → Shows h w → Shows (host_asks_device h) (device_asked (records content) true device_reply gateway_reply w)
  unfolding device_asked
  shows-device-asked h w s =
      alike hosts_by_gateway by_gateway answered-gateway _ _ _ _ (device-speaks h w s) (device-asks h w s)

  -- ---- until the device has nothing to send

  abbrev HostUntil : Hosts → Hosts → Type 0
  HostUntil = UntilSilent (hosts content) affirmed host_device_reply host_gateway_reply

  abbrev Until : World → World → Type 0
  Until = UntilSilent (records content) true device_reply gateway_reply

  until-kept : {w v : World} → Until w v → (h : Hosts) → Shows h w → (k : Hosts) × HostUntil h k × Shows k v
  until-kept {w = w} (silent e) h s = (h, silent (device-answers h w s ∙ e), s)
  until-kept {w = w} (spoken e u) h s =
      let (k, more, t) = until-kept u (host_asks_device h) (shows-device-asked h w s) in
      (k, spoken (λ q. e (sym (device-answers h w s) ∙ q)) more, t)

  until-seen : {h k : Hosts} → HostUntil h k → (w : World) → Shows h w → (v : World) × Until w v × Shows k v
  until-seen {h = h} (silent e) w s = (w, silent (sym (device-answers h w s) ∙ e), s)
  until-seen {h = h} (spoken e u) w s =
      let (v, more, t) = until-seen u _ (shows-device-asked h w s) in
      (v, spoken (λ q. e (device-answers h w s ∙ q)) more, t)

  shows-ending : (h : Hosts) (w : World) → Shows h w
      → Shows (ending (hosts content) affirmed host_device_reply host_gateway_reply h) (ending (records content) true device_reply gateway_reply w)
  shows-ending h w s = shows-device-asked _ _ (shows-next _ _ (at_device (finished 0x00)) (shows-gateway-asked h w s))

  -- ---- the run

  -- from a state that allowed calls lead to
  shown-from : (begin first : Hosts) (start w : World) → Reached (hosts content) begin first → Shows first w
      → SucceedsFrom (records content) true device_reply gateway_reply start w
      → SucceedsFrom (hosts content) affirmed host_device_reply host_gateway_reply begin first
  shown-from begin first start w reached s (silence, rest) =
      let e : Ends = hosts content in
      let (k, until, t) = until-kept silence.1 first s in (
        (k, until),
        λ h silence.
            let (v, until, t) = until-seen silence w s in
            let there : Reached e begin h = until_silent e begin affirmed host_device_reply host_gateway_reply silence reached in
            let end : Shows _ _ = shows-ending h v t in (
              there,
              ap (λ (x : World). x.gateway.phase) t.is ∙ (rest v until).1,
              at_end e begin affirmed host_device_reply host_gateway_reply h there,
              (
                ap (λ (x : World). x.gateway.phase) end.is ∙ (rest v until).3.0,
                ap (λ (x : World). x.gateway.ending) end.is ∙ (rest v until).3.1,
              ),
            ),
      )

  first-there : (begin : Hosts) → Reached (hosts content) begin (host_asks_gateway begin)
  first-there begin =
      let e : Ends = hosts content in
      gateway_asked_lem e begin affirmed host_device_reply host_gateway_reply begin (reached_start e begin)

  shown-run : (begin : Hosts) (w : World) → Shows begin w → CleanRunOf (records content) true device_reply gateway_reply w
      → CleanRunOf (hosts content) affirmed host_device_reply host_gateway_reply begin
  shown-run begin w s r = shown-from begin (host_asks_gateway begin) w _ (first-there begin) (shows-gateway-asked begin w s) r

  shows-digests : (digests : List (List ℕ)) (h : Hosts) (w : World) → Shows h w
      → Shows (digests_given (hosts content) h digests) (digests_given (records content) w digests)
  unfolding digests_given
  shows-digests [] h w s = s
  shows-digests (d ∷ ds) h w s = shows-digests ds _ _ (shows-next h w (at_device (digest_given d)) s)

  shown-with-digests : (begin : Hosts) (w : World) → Shows begin w → CleanRunWithDigestsOf (records content) true device_reply gateway_reply w content
      → CleanRunWithDigestsOf (hosts content) affirmed host_device_reply host_gateway_reply begin content
  shown-with-digests begin w s r others =
      let call : DeviceCall ℕ = digest_given (md5_of content) in
      let there : Hosts = digests_given (hosts content) (host_asks_gateway begin) others in
      let here : World = digests_given (records content) (gateway_asked (records content) true device_reply gateway_reply w) others in
      let t : Shows there here = shows-digests others _ _ (shows-gateway-asked begin w s) in (
        device_number_is there.device_end call t.fits.device
            ∙ ap (λ (v : World). device_number v.device_end (digest_given (md5_of content))) t.is
            ∙ (r others).0,
        shown-from begin (next (hosts content) there (at_device call)) w _
            (digest_given_lem (hosts content) begin there (md5_of content) (digests_given_lem (hosts content) begin others _ (first-there begin)))
            (shows-next there here (at_device call) t) (r others).1,
      )

module _ (b : HostedBefore) (device_reply gateway_reply : World → List ℕ) (c : HostedCleanStart b device_reply gateway_reply) where
  then_is : device_seen (device_host_then b) ≡ device_then (records_before b)
  then_is = (device_then_lem b c.ready).1

  clean-start : CleanStart (records_before b) device_reply gateway_reply
  clean-start =
      record {
        ready = ready b c.ready;
        device_idle = sym (ap (λ (e : DeviceEnd). e.device.phase) then_is) ∙ c.device_idle;
        other_version = sym (ap (λ (e : DeviceEnd). same e.device.running (text_of b.version)) then_is) ∙ c.other_version;
        image_room = subst (λ (e : DeviceEnd). b.size * total_of (length b.content) b.size ≤ length e.image) then_is c.image_room;
        map_room = subst (λ (e : DeviceEnd). map_bytes (total_of (length b.content) b.size) ≤ length e.map) then_is c.map_room;
        device_room = c.device_room;
        gateway_room = c.gateway_room;
      }

pub hosted_clean_run : HostedCleanRun
hosted_clean_run b affirmed device_reply gateway_reply holds c =
    shown-run b.content affirmed holds device_reply gateway_reply (hosted_start b) (start (records_before b))
    (record { fits = fitting b c.ready; is = started_there b c.ready })
    (clean_run (records_before b) device_reply gateway_reply (clean-start b device_reply gateway_reply c))

pub hosted_clean_run_with_digests : HostedCleanRunWithDigests
hosted_clean_run_with_digests b affirmed device_reply gateway_reply holds c =
    shown-with-digests b.content affirmed holds device_reply gateway_reply (hosted_start b) (start (records_before b))
    (record { fits = fitting b c.ready; is = started_there b c.ready })
    (clean_run_with_digests (records_before b) device_reply gateway_reply (clean-start b device_reply gateway_reply c))
