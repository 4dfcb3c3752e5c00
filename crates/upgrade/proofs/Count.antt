-- The count: on any run from a fresh record with one map, and any image in each call, in phases 1 to 6 the stored count is the number of set
-- bits among the first total, and no call is refused with 29; where the image too is one, none is refused with 14. Assumes nothing.
use Prim.Native.Nat.{ℕ}
use native.Mathlib.Omega.{arith}
use mathlib.Core.Bool.{Bool}
use mathlib.Core.Path.{◌≡◌}
use mathlib.Core.List.{List, [], ◌∷◌}
use Rattle.basis.proofs.Choosing.{by_cases}
use Rattle.device_record.specs.declared.Made.{Made}
use Rattle.device_record.specs.Record.{new_of}
use Rattle.device_rules.proofs.Holds.{Rule}
use Rattle.device_rules.proofs.Views.{receive_does, install_does}
use Rattle.device_rules.proofs.Sound.{Sound, sound_fresh, sound_room}
use Rattle.device_rules.proofs.Standing.{standing, standing_does}
use Rattle.device_rules.proofs.Not29Not14.{receive_neither, ask_neither, install_neither}
use Rattle.upgrade.specs.Fold.{after}
use Rattle.upgrade.specs.Counted.{Counted, Count, Roomy, Room, lent_next}
use Rattle.upgrade.specs.Calls.{DeviceCall, given, asked, finished, digest_given}
use Rattle.upgrade.specs.Records.{DeviceEnd, device_next, device_records, device_does}
use Rattle.upgrade.proofs.Ends.{device_number}
use Rattle.upgrade.proofs.DeviceCalls.{digest_given_does, digest_given_neither}
use Rattle.upgrade.proofs.AnyImage.{Kept, kept_by, kept_record, kept_given, kept_installed, kept_digest_given, given_unmet, asked_unmet}
use Rattle.upgrade.proofs.AnyImage.{installed_unmet, digest_given_unmet}

-- of the stored bytes nothing in particular is known
pub any : ℕ → List ℕ → Type 0
any index bytes = Unit {0}

abbrev pub Fine : DeviceEnd → Type 0
Fine e = Sound (standing any) e.device e.image e.map

pub made_fine : (version image map : List ℕ) → (new_of version).number ≡ 0 → Fine (record { device = (new_of version).device; image = image; map = map })
unfolding new_of
made_fine version image map =
    by_cases (λ (m : Made). m.number ≡ 0 → Fine (record { device = m.device; image = image; map = map }))
    (λ v _. sound_fresh (standing any) version image map v) (λ _ z. absurd (omega arith))

pub call_fine : (e : DeviceEnd) (c : DeviceCall Bool) → Fine e → Fine (device_next e c)
unfolding device_does any
call_fine e (given supported pcp condition message reply) s =
    standing_does any e.device e.image e.map _ _ (receive_does e.device e.image e.map reply supported pcp condition message)
    (λ _ _ _ _ _. tt) s
call_fine e (asked reply) s = s
call_fine e (finished code) s =
    standing_does any e.device e.image e.map _ _ (install_does e.device e.image e.map code) (λ _ _ _ _ _. tt) s
call_fine e (digest_given digest) s =
    standing_does any e.device e.image e.map _ _ (digest_given_does e.device e.image e.map digest) (λ _ _ _ _ _. tt) s

pub run_fine : (calls : List (DeviceCall Bool)) (e : DeviceEnd) → Fine e → Fine (after device_next e calls)
run_fine [] e s = s
run_fine (c ∷ cs) e s = run_fine cs (device_next e c) (call_fine e c s)

-- ---- one map and one image

pub room : Room
unfolding device_does
room version image map made calls =
    roomy (after device_next first calls) (run_fine calls first (made_fine version image map made))
  where
    first : DeviceEnd
    first = record { device = (new_of version).device; image = image; map = map }

    rule : Rule
    rule = standing any

    not_14 : (e : DeviceEnd) → Fine e → (c : DeviceCall Bool) → device_number e c ≡ 14 → ⊥
    not_14 e s (given supported pcp condition message reply) =
        (receive_neither rule e.device e.image e.map s reply supported pcp condition message).1
    not_14 e s (asked reply) = (ask_neither rule e.device e.image e.map s reply).1
    not_14 e s (finished code) = (install_neither rule e.device e.image e.map s code).1
    not_14 e s (digest_given digest) = (digest_given_neither rule e.device e.image e.map s digest).1

    roomy : (e : DeviceEnd) → Fine e → Roomy device_records e
    roomy e s = record { room_holds = sound_room rule e.device e.image e.map s; not_14 = not_14 e s }

-- ---- one map, any image in each call

abbrev KeptIn : DeviceEnd → Type 0
KeptIn e = Kept e.device e.map

call_kept : (e : DeviceEnd) (c : List ℕ × DeviceCall Bool) → KeptIn e → KeptIn (lent_next device_records e c)
unfolding device_does
call_kept e (image, given supported pcp condition message reply) k =
    kept_given e.device image e.map reply supported pcp condition message k
call_kept e (image, asked reply) k = k
call_kept e (image, finished code) k = kept_installed e.device e.map code k
call_kept e (image, digest_given digest) k = kept_digest_given e.device e.map digest k

run_kept : (calls : List (List ℕ × DeviceCall Bool)) (e : DeviceEnd) → KeptIn e → KeptIn (after (lent_next device_records) e calls)
run_kept [] e k = k
run_kept (c ∷ cs) e k = run_kept cs (lent_next device_records e c) (call_kept e c k)

pub count : Count
unfolding device_does
count version map made calls =
    counted (after (lent_next device_records) first calls)
    (run_kept calls first (kept_by (standing any) first.device [] map (made_fine version [] map made)))
  where
    first : DeviceEnd
    first = record { device = (new_of version).device; image = []; map = map }

    not_29 : (e : DeviceEnd) → KeptIn e → (image : List ℕ) (c : DeviceCall Bool)
        → device_number (record { device = e.device; image = image; map = e.map }) c ≡ 29 → ⊥
    not_29 e k image (given supported pcp condition message reply) =
        given_unmet e.device image e.map reply supported pcp condition message (kept_record e.device e.map k)
    not_29 e k image (asked reply) = asked_unmet e.device image e.map reply k
    not_29 e k image (finished code) = installed_unmet e.device e.map code k
    not_29 e k image (digest_given digest) = digest_given_unmet e.device e.map digest k

    counted : (e : DeviceEnd) → KeptIn e → Counted device_records e
    counted e k =
        record {
          count = λ some known. (k.sound.download (λ z. omega arith)).counts;
          record_holds = kept_record e.device e.map k;
          not_29 = not_29 e k;
        }
