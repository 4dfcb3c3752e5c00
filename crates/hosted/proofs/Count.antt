-- The count, the room and the test at completion of what hosts keep: those of the record in its bytes. Assumes nothing.
use Prim.Native.Nat.{ℕ, ◌≤◌}
use mathlib.Core.Path.{◌≡◌, sym, ◌∙◌}
use mathlib.Core.Bool.{Bool}
use mathlib.Core.List.{List, [], map}
use lib.ListN.{length}
use Rattle.layout_rules.specs.Layout.{device_length}
use Rattle.exports.specs.Exports.{fact, text_of}
use Rattle.upgrade.specs.Fold.{after}
use Rattle.upgrade.specs.Calls.{DeviceCall}
use Rattle.upgrade.specs.Records.{device_next, device_records}
use Rattle.upgrade.specs.Counted.{Counted, lent_next, Roomy}
use Rattle.upgrade.specs.Tested.{Tested}
use Rattle.upgrade.proofs.Count.{count, room}
use Rattle.upgrade.proofs.TestedBytes.{completed_is_tested}
use Rattle.hosted.specs.Hosts.{DeviceHost, device_hosts, device_host_next, device_seen, device_call_as}
use Rattle.hosted.specs.Hosted.{host_made, HostMade, HostedCount, HostedRoom, HostedCompletedIsTested}
use Rattle.hosted.proofs.Shown.{shown}
use Rattle.hosted.proofs.Runs.{device_room, device_next_lem, device_number_is}
use Rattle.hosted.proofs.Demand3.{made_number, made_room, made_seen}

abbrev Fits : DeviceHost → Type 0
Fits h = device_length ≤ length h.bytes

abbrev lent_call_as : (List ℕ × DeviceCall ℕ) → (List ℕ × DeviceCall Bool)
lent_call_as (image, c) = (image, device_call_as fact c)

counted_kept : (h : DeviceHost) → Fits h → Counted device_records (device_seen h) → Counted device_hosts h
counted_kept h f k =
    record {
      count = k.count;
      record_holds = k.record_holds;
      not_29 = λ image c e. k.not_29 image (device_call_as fact c) (sym (device_number_is (device_hosts.lend h image) c f) ∙ e);
    }

roomy_kept : (h : DeviceHost) → Fits h → Roomy device_records (device_seen h) → Roomy device_hosts h
roomy_kept h f k =
    record { room_holds = k.room_holds; not_14 = λ c e. k.not_14 (device_call_as fact c) (sym (device_number_is h c f) ∙ e) }

pub hosted_count : HostedCount
hosted_count buffer running map' m calls =
    let made : DeviceHost = host_made buffer running [] map' in
    let run = shown (lent_next device_hosts) (lent_next device_records) device_seen lent_call_as Fits
    (λ (h : DeviceHost) (c : List ℕ × DeviceCall ℕ). device_room (device_hosts.lend h c.0) c.1)
    (λ (h : DeviceHost) (c : List ℕ × DeviceCall ℕ). device_next_lem (device_hosts.lend h c.0) c.1)
    calls made (made_room buffer running m) in
    counted_kept _ run.0
    (rw (run.1, made_seen buffer running m [] map') (count (text_of running) map' (made_number buffer running m) (map lent_call_as calls)))

-- the record after any calls, with one image and one map, is the one to which the same calls lead over records
module _ (buffer running image map' : List ℕ) (m : HostMade buffer running) (calls : List (DeviceCall ℕ)) where
  run : let made : DeviceHost = host_made buffer running image map' in
      Fits (after device_host_next made calls)
      × (device_seen (after device_host_next made calls) ≡ after device_next (device_seen made) (map (device_call_as fact) calls))
  run = shown device_host_next device_next device_seen (device_call_as fact) Fits device_room device_next_lem calls (host_made buffer running image map')
      (made_room buffer running m)

pub hosted_room : HostedRoom
hosted_room buffer running image map' m calls =
    let (fits, is) = run buffer running image map' m calls in
    roomy_kept _ fits
    (rw (is, made_seen buffer running m image map') (room (text_of running) image map' (made_number buffer running m) (map (device_call_as fact) calls)))

tested_kept : (h : DeviceHost) → Tested device_records (device_seen h) → Tested device_hosts h
tested_kept h t = record { all_stored = t.all_stored; check = t.check; digest = t.digest }

pub hosted_completed_is_tested : HostedCompletedIsTested
hosted_completed_is_tested buffer running image map' m calls =
    let (fits, is) = run buffer running image map' m calls in
    tested_kept _
    (rw (is, made_seen buffer running m image map')
    (completed_is_tested (text_of running) image map' (made_number buffer running m) (map (device_call_as fact) calls)))
