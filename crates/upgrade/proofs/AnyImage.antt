-- What every call keeps of the device's record and its map, whatever image each call is lent: they stand as with some image that has room.
-- Assumes nothing.
use Prim.Native.Nat.{ℕ, ◌*◌, ◌≤◌}
use native.Mathlib.Omega.{arith}
use mathlib.Core.Path.{◌≡◌, refl, sym, ◌∙◌}
use mathlib.Core.Bool.{Bool, true, false, true≢false}
use mathlib.Core.List.{List, [], ◌∷◌}
use lib.Dec.{leb}
use lib.ListN.{length}
use borrow.Author.Tests.{eqb-true, leb-true, lt-leb}
use Rattle.basis.specs.Choice.{pick, refusal}
use Rattle.basis.proofs.Choosing.{by_cases, pick_yes, pick_no, and_left, passes, refusal_among}
use Rattle.message.specs.Messages.{GatewayMessage, Reading, found, refused, to_gateway}
use Rattle.codec.specs.Codec.{said}
use Rattle.message.specs.declared.Fields.{Fields}
use Rattle.device_record.specs.declared.Device.{Device}
use Rattle.device_record.specs.Record.{idle, loading, installing, holding, in_phase, record_ok, memory_ok}
use Rattle.device_rules.specs.Rules.{After, announce_result, resumes, receive_of, next_message_of, install_finished_of}
use Rattle.device_rules.proofs.Holds.{Rule}
use Rattle.device_rules.proofs.Views
use Rattle.device_rules.proofs.Views.{receive_does, install_does}
use Rattle.device_rules.proofs.Sound.{Download, Sound, sound_record, sound_room, sound_under, sound_begun, sound_stored, sound_differs, sound_digest}
use Rattle.device_rules.proofs.Sound.{sound_idle, sound_moved}
use Rattle.device_rules.proofs.Sound.{sound_executed, sound_outcome, sound_does}
use Rattle.device_rules.proofs.Not29Not14.{heard_neither, ask_neither, install_neither}
use Rattle.device_rules.proofs.Guarded.{asking_passed, receiving_passed}
use Rattle.upgrade.specs.Records.{device_digest_answer}
use Rattle.upgrade.proofs.DeviceCalls.{digest_given_does, digest_given_neither}

-- of the image's bytes nothing is asked
abbrev pub free : Rule
free = record { P = λ f image last index. Unit {0}; depends = λ f image other last later index e l p. tt }

pub record Kept (d : Device) (map : List ℕ) : Type 0 where
  pub image : List ℕ
  pub sound : Sound free d image map

pub kept_by : (rule : Rule) (d : Device) (image map : List ℕ) → Sound rule d image map → Kept d map
kept_by rule d image map s = record { image = image; sound = sound_under rule free d image map (λ _ _ _ _ _. tt) s }

pub kept_record : (d : Device) (map : List ℕ) → Kept d map → record_ok d ≡ true
kept_record d map k = sound_record free d k.image map k.sound

-- ---- another image

module _ (d : Device) (image other map : List ℕ) where
  sound-lent : ((d.phase ≡ idle → ⊥) → d.fields.size * d.fields.total ≤ length other) → Sound free d image map → Sound free d other map
  sound-lent room s =
      record {
        phase_known = s.phase_known;
        outcome_known = s.outcome_known;
        flag_known = s.flag_known;
        running_good = s.running_good;
        target_good = s.target_good;
        download = λ h.
            let w : Download free d image map = s.download h in
            record {
              holds = record {
                size_ok = w.holds.size_ok;
                total_ok_lem = w.holds.total_ok_lem;
                image_room = room h;
                map_room = w.holds.map_room;
                each = λ _ _ _. tt;
              };
              counts = w.counts;
              last_fits = w.last_fits;
              unfinished = w.unfinished;
              full = w.full;
            };
      }

  moves-lent : (input : Views.Input) (phase : ℕ) → Views.Moves d other map input phase → Views.Moves d image map input phase
  moves-lent input phase (Views.gives_up condition index bytes i p e) = Views.gives_up condition index bytes i p e
  moves-lent input phase (Views.acknowledged condition i p e) = Views.acknowledged condition i p e
  moves-lent input phase (Views.rejected condition result i n p e) = Views.rejected condition result i n p e
  moves-lent input phase (Views.abandons condition result i p e) = Views.abandons condition result i p e
  moves-lent input phase (Views.reported condition result i p e) = Views.reported condition result i p e

-- in Loading, the room that 14 tests
loading_room : (d : Device) (image map : List ℕ) → memory_ok d image map ≡ true → d.phase ≡ loading → d.fields.size * d.fields.total ≤ length image
unfolding memory_ok holding
loading_room d image map e p = leb-true _ _ (and_left _ _ (sym (pick_yes _ _ true (rw p refl)) ∙ e))

-- what is taken up afresh is taken up from Idle too
begins_idle : (d : Device) (image map : List ℕ) (condition : ℕ) (f : Fields) → Views.Begins d image map condition f
    → Views.Begins (in_phase idle d) image map condition f
unfolding announce_result resumes holding pick
begins_idle d image map condition f b =
    record {
      valid = b.valid;
      result = sym (pick_no (leb installing d.phase) 0x01 _ (lt-leb installing d.phase b.phase)) ∙ b.result;
      not_resumed = refl;
      phase = omega arith;
      ready = b.ready;
      other_version = b.other_version;
      image_room = b.image_room;
      map_room = b.map_room;
    }

-- ---- the calls

kept_does : (d : Device) (image map : List ℕ) (input : Views.Input) (o : Views.Out) → Views.Does d image map input o → memory_ok d image map ≡ true
    → Kept d map → Kept o.device o.map
kept_does d image map input o (Views.still n says x e) room k = rw e k
kept_does d image map input o (Views.begins condition f i b e) room k =
    rw e (record {
      image = image;
      sound = sound_begun free free (in_phase idle d) image map condition f (begins_idle d image map condition f b)
          (sound-lent (in_phase idle d) k.image image map (λ h. absurd (h refl)) (sound_idle free d k.image map k.sound));
    })
kept_does d image map input o (Views.stores condition index bytes i st e) room k =
    rw e (record {
      image = _;
      sound = sound_stored free d image map index bytes st tt
          (sound-lent d k.image image map (λ _. loading_room d image map room st.phase) k.sound);
    })
kept_does d image map input o (Views.differs condition index bytes i p r e) room k =
    rw e (record { image = k.image; sound = sound_differs free d k.image map p k.sound })
kept_does d image map input o (Views.moves phase m e) room k =
    rw e (record { image = k.image; sound = sound_moved free d k.image map input phase (moves-lent d k.image image map input phase m) k.sound })
kept_does d image map input o (Views.executes condition i p e) room k =
    rw e (record { image = k.image; sound = sound_executed free d k.image map p k.sound })
kept_does d image map input o (Views.reports code i p c e) room k =
    rw e (record { image = k.image; sound = sound_outcome free d k.image map code p c k.sound })
kept_does d image map input o (Views.takes-digest digest i p e) room k =
    rw e (record { image = k.image; sound = sound_digest free d k.image map digest k.sound })

pub kept_given : (d : Device) (image map reply : List ℕ) (supported pcp : Bool) (condition : ℕ) (message : List ℕ) → Kept d map
    → let a : After = receive_of d image map reply supported pcp condition message in
    Kept a.device a.map
unfolding receive_of
kept_given d image map reply supported pcp condition message k = at (memory_ok d image map) refl
  where
    at : (t : Bool) → memory_ok d image map ≡ t
        → let a : After = receive_of d image map reply supported pcp condition message in
        Kept a.device a.map
    at true e = kept_does d image map _ _ (receive_does d image map reply supported pcp condition message) e k
    at false e =
        by_cases (λ (a : After). Kept a.device a.map)
        (λ t. absurd (true≢false (sym (receiving_passed d image map reply condition (eqb-true _ 0 t)).held ∙ e))) (λ _. k)

pub kept_installed : (d : Device) (map : List ℕ) (code : ℕ) → Kept d map → Kept (install_finished_of d code).device map
kept_installed d map code k =
    record { image = k.image; sound = sound_does free d k.image map _ _ (install_does d k.image map code) (λ _ _ _ _ _. tt) k.sound }

pub kept_digest_given : (d : Device) (map digest : List ℕ) → Kept d map → Kept (device_digest_answer d digest).device map
kept_digest_given d map digest k =
    record { image = k.image; sound = sound_does free d k.image map _ _ (digest_given_does d k.image map digest) (λ _ _ _ _ _. tt) k.sound }

-- ---- 29 is not met

abbrev pub Not29 : ℕ → Type 0
Not29 n = n ≡ 29 → ⊥

abbrev Unmet : {M : Type 0} → Reading M → Type 0
Unmet (found m) = Unit {0}
Unmet (refused n) = Not29 n

module _ (d : Device) (image map reply : List ℕ) where
  -- the tests from 29 on
  tests-unmet : record_ok d ≡ true → Not29 (refusal ((29, record_ok d) ∷ (14, memory_ok d image map) ∷ []))
  tests-unmet e = rw (passes 29 (record_ok d) ((14, memory_ok d image map) ∷ []) e) (refusal_among Not29 _ (omega arith) (omega arith))

  pub given_unmet : (supported pcp : Bool) (condition : ℕ) (message : List ℕ) → record_ok d ≡ true
      → Not29 (receive_of d image map reply supported pcp condition message).number
  unfolding receive_of refusal
  given_unmet supported pcp condition message e =
      by_cases (λ (a : After). Not29 a.number) (λ _. (heard_neither d image map reply supported pcp condition message).0)
      (λ _. by_cases Not29 (λ _. by_cases Not29 (λ _. tests-unmet e) (λ _. omega arith)) (λ _. omega arith))

  said-unmet : (r : Reading GatewayMessage) → Unmet r → Not29 (said to_gateway r reply).number
  unfolding said
  said-unmet (found m) h = omega arith
  said-unmet (refused n) h = h

  -- where 14 passes, what is said does not depend on the image
  pub asked_unmet : Kept d map → Not29 (next_message_of d image map reply).number
  unfolding next_message_of refusal
  asked_unmet k = at (memory_ok d image map) refl
    where
      at : (t : Bool) → memory_ok d image map ≡ t → Not29 (next_message_of d image map reply).number
      at true e = rw (e, sym (sound_room free d k.image map k.sound)) (ask_neither free d k.image map k.sound reply).0
      at false e =
          said-unmet _
          (by_cases Unmet (λ t. absurd (true≢false (sym (asking_passed d image map reply (eqb-true _ 0 t)).held ∙ e)))
          (λ _. by_cases Not29 (λ _. tests-unmet (kept_record d map k)) (λ _. omega arith)))

pub installed_unmet : (d : Device) (map : List ℕ) (code : ℕ) → Kept d map → Not29 (install_finished_of d code).number
installed_unmet d map code k = (install_neither free d k.image map k.sound code).0

pub digest_given_unmet : (d : Device) (map digest : List ℕ) → Kept d map → Not29 (device_digest_answer d digest).number
digest_given_unmet d map digest k = (digest_given_neither free d k.image map k.sound digest).0
