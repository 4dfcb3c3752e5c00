-- The device's calls as its view has them, and what is known of its phases. Assumes nothing.
use Prim.Native.Nat.{ℕ, ◌≤◌, ◌<◌}
use native.Mathlib.Omega.{arith}
use mathlib.Core.Path.{◌≡◌, refl}
use mathlib.Core.Bool.{Bool, true, false}
use mathlib.Core.List.{List, []}
use mathlib.Core.Logic.{◌⊎◌, inl, inr}
use lib.Dec.{leb}
use borrow.Author.Tests.{eqb-false, leb-true, not-true}
use Rattle.basis.specs.Numbers.{short_record}
use Rattle.basis.specs.Bytes.{same}
use Rattle.basis.proofs.Choosing.{by_cases, and_left, and_right}
use Rattle.message.specs.declared.Fields.{Fields}
use Rattle.message.specs.Messages.{announce_reply, to_device}
use Rattle.codec.specs.Codec.{read_of}
use Rattle.device_record.specs.declared.Device.{Device}
use Rattle.device_record.specs.declared.Expected.{Expected}
use Rattle.device_record.specs.Record.{idle, loading, loaded, acked, failed, installing, holding, in_phase, begun, with_outcome, with_digest, map_bytes}
use Rattle.bitmap.specs.Bitmap.{cleared}
use Rattle.device_rules.specs.declared.DigestAnswer.{DigestAnswer}
use Rattle.device_rules.specs.Rules.{announce_result, completion}
use Rattle.device_rules.proofs.Holds.{Rule}
use Rattle.device_rules.proofs.Sound.{Sound}
use Rattle.device_rules.proofs.Not29Not14.{Neither, give_neither}
use Rattle.device_rules.proofs.Views
use Rattle.device_rules.proofs.Views.{Input, hears, asks, installs, digests, Out, out, spoken, stored_out, receive_out, ask_out, install_out}
use Rattle.device_rules.proofs.Views.{Begins, Resumes, Stores}
use Rattle.device_rules.proofs.Views.{Repeats, Still, Moves, Does, still, refuses, receive_does, ask_does, install_does, give_does}
use Rattle.upgrade.specs.Calls.{DeviceCall, given, asked, finished, digest_given, aired}
use Rattle.upgrade.specs.Records.{DeviceEnd, device_digest_answer, device_next, device_does}
use Rattle.upgrade.proofs.Ends.{device_says, device_number}

-- the end that a call leaves
abbrev pub end_of : Out → DeviceEnd
end_of o = record { device = o.device; image = o.image; map = o.map }

-- the view's outcomes, of an end
abbrev pub DoesAt : DeviceEnd → Input → Out → Type 0
DoesAt e = Does e.device e.image e.map

abbrev pub StillAt : DeviceEnd → Input → (n : ℕ) (says : List (List ℕ)) → Type 0
StillAt e = Still e.device e.image e.map

abbrev pub BeginsAt : DeviceEnd → (condition : ℕ) → Fields → Type 0
BeginsAt e = Begins e.device e.image e.map

abbrev pub ResumesAt : DeviceEnd → (condition : ℕ) → Fields → Type 0
ResumesAt e = Resumes e.device e.image e.map

abbrev pub StoresAt : DeviceEnd → (index : ℕ) → List ℕ → Type 0
StoresAt e = Stores e.device e.image e.map

abbrev pub RepeatsAt : DeviceEnd → (index : ℕ) → List ℕ → Type 0
RepeatsAt e = Repeats e.device e.image e.map

abbrev pub MovesAt : DeviceEnd → Input → (phase : ℕ) → Type 0
MovesAt e = Moves e.device e.image e.map

-- what they leave
abbrev pub still_at : DeviceEnd → (n : ℕ) (says : List (List ℕ)) → Out
still_at e n says = out n e.device e.image e.map says

abbrev pub begun_at : DeviceEnd → Fields → Out
begun_at e a = out 0 (begun a e.device) e.image (cleared (map_bytes a.total) e.map) (spoken (announce_reply 0x00))

abbrev pub stored_at : DeviceEnd → (index : ℕ) → List ℕ → Out
stored_at e = stored_out e.device e.image e.map

abbrev pub moved_at : DeviceEnd → (phase : ℕ) (says : List (List ℕ)) → Out
moved_at e phase says = out 0 (in_phase phase e.device) e.image e.map says

abbrev pub outcome_at : DeviceEnd → (code : ℕ) (running : List ℕ) → Out
outcome_at e code running = out 0 (with_outcome code running e.device) e.image e.map []

abbrev pub digest_given_at : DeviceEnd → (digest : List ℕ) → Out
digest_given_at e digest = out 0 (with_digest digest e.device) e.image e.map []

-- ---- a digest given, of whichever length

abbrev pub digest_given_out : Device → (image map digest : List ℕ) → Out
digest_given_out d image map digest =
    let g : DigestAnswer = device_digest_answer d digest in
    out g.number g.device image map []

pub digest_given_does : (d : Device) (image map digest : List ℕ) → Does d image map (digests digest) (digest_given_out d image map digest)
digest_given_does d image map digest =
    by_cases (λ (g : DigestAnswer). Does d image map (digests digest) (out g.number g.device image map []))
    (λ _. give_does d image map digest) (λ _. still short_record [] (refuses (λ z. omega arith) (λ z. omega arith) refl) refl)

pub digest_given_neither : (rule : Rule) (d : Device) (image map : List ℕ) → Sound rule d image map → (digest : List ℕ)
    → Neither (device_digest_answer d digest).number
digest_given_neither rule d image map s digest =
    by_cases (λ (g : DigestAnswer). Neither g.number) (λ _. give_neither rule d image map s digest) (λ _. omega arith)

-- ---- a call

abbrev pub input_of : DeviceCall Bool → Input
input_of (given supported pcp condition message reply) = hears condition (read_of to_device supported pcp message)
input_of (asked reply) = asks
input_of (finished code) = installs code
input_of (digest_given digest) = digests digest

abbrev pub out_in : DeviceEnd → DeviceCall Bool → Out
out_in e (given supported pcp condition message reply) = receive_out e.device e.image e.map reply supported pcp condition message
out_in e (asked reply) = ask_out e.device e.image e.map reply
out_in e (finished code) = install_out e.device e.image e.map code
out_in e (digest_given digest) = digest_given_out e.device e.image e.map digest

pub call_does : (e : DeviceEnd) (c : DeviceCall Bool) → DoesAt e (input_of c) (out_in e c)
call_does e (given supported pcp condition message reply) =
    receive_does e.device e.image e.map reply supported pcp condition message
call_does e (asked reply) = ask_does e.device e.image e.map reply
call_does e (finished code) = install_does e.device e.image e.map code
call_does e (digest_given digest) = digest_given_does e.device e.image e.map digest

pub next_is : (e : DeviceEnd) (c : DeviceCall Bool) → device_next e c ≡ end_of (out_in e c)
unfolding device_does
next_is e (given supported pcp condition message reply) = refl
next_is e (asked reply) = refl
next_is e (finished code) = refl
next_is e (digest_given digest) = refl

pub says_is : (e : DeviceEnd) (c : DeviceCall Bool) → device_says e c ≡ (out_in e c).says
unfolding device_does aired
says_is e (given supported pcp condition message reply) = refl
says_is e (asked reply) = refl
says_is e (finished code) = refl
says_is e (digest_given digest) = refl

pub number_is : (e : DeviceEnd) (c : DeviceCall Bool) → device_number e c ≡ (out_in e c).number
unfolding device_does
number_is e (given supported pcp condition message reply) = refl
number_is e (asked reply) = refl
number_is e (finished code) = refl
number_is e (digest_given digest) = refl

-- a phase to which the device moves without a word
abbrev pub Moved : Device → (phase : ℕ) → Type 0
Moved d phase = (phase ≡ idle) ⊎ ((phase ≡ acked) × (d.phase ≡ loaded))

pub moves_to : (e : DeviceEnd) (input : Input) (phase : ℕ) → MovesAt e input phase → Moved e.device phase
moves_to e input phase (Views.gives_up c index bytes i p q) = inl q
moves_to e input phase (Views.acknowledged c i p q) = inr (q, p)
moves_to e input phase (Views.rejected c result i n p q) = inl q
moves_to e input phase (Views.abandons c result i p q) = inl q
moves_to e input phase (Views.reported c result i p q) = inl q

-- ---- phases

pub holding_below : (phase : ℕ) → holding phase ≡ true → phase < installing
unfolding holding
holding_below phase h = omega (arith, leb-true phase acked (and_right (leb loading phase) _ h))

pub holding_busy : (phase : ℕ) → holding phase ≡ true → phase ≡ idle → ⊥
unfolding holding
holding_busy phase h e = omega (arith, leb-true loading phase (and_left (leb loading phase) _ h))

pub completion_low : (stored last : ℕ) (a : Fields) (x : Expected) (image : List ℕ) → completion stored last a x image ≤ failed
unfolding completion
completion_low stored last a x image =
    by_cases (λ (p : ℕ). p ≤ failed) (λ _. by_cases (λ (p : ℕ). p ≤ failed) (λ _. omega arith) (λ _. omega arith)) (λ _. omega arith)

-- an announcement answered 00 is not of the running version
pub other_version : (d : Device) (condition : ℕ) (a : Fields) (image map : List ℕ) → announce_result d condition a image map ≡ 0
    → same a.version d.running ≡ false
unfolding announce_result
other_version d condition a image map =
    by_cases P (λ _ z. absurd (omega arith))
    (λ _. by_cases P (λ t z. absurd (eqb-false condition 0 (not-true _ t) z)) (λ _. by_cases P (λ _ z. absurd (omega arith)) (λ t _. t)))
  where
    P : ℕ → Type 0
    P n = n ≡ 0 → same a.version d.running ≡ false
