-- What every call keeps of the device's record and buffers: known fields, and in every phase but Idle a download that holds, counts its set
-- bits, and is full unless Loading or Failed. Such a record is never refused with 29, nor with 14. Assumes nothing.
use Prim.Native.Nat.{ℕ, ◌+◌, ◌*◌, ◌≤◌, ◌<◌}
use native.Mathlib.Omega.{arith}
use mathlib.Core.Path.{◌≡◌, refl, sym, ap}
use mathlib.Core.Bool.{Bool, true, false, ◌&&◌, not}
use mathlib.Core.List.{List}
use mathlib.Core.Logic.{◌⊎◌, inl, inr}
use lib.Dec.{eqb}
use lib.Arith.{lt_of_le-ne}
use lib.ListN.{length}
use borrow.Author.Tests.{eqb-true, eqb-false, ne_eqb, le-leb}
use Rattle.basis.specs.Choice.{pick, one_of}
use Rattle.basis.specs.Bytes.{patched}
use Rattle.basis.proofs.Choosing.{by_cases, and_left, and_right, and_both}
use Rattle.message.specs.Limits.{size_ok, total_ok, is_word}
use Rattle.message.specs.Version.{good_version}
use Rattle.message.specs.Messages.{fragment, install_code, found, device_row}
use Rattle.message.specs.declared.Fields.{Fields}
use Rattle.device_record.specs.declared.Device.{Device}
use Rattle.device_record.specs.declared.Expected.{Expected}
use Rattle.device_record.specs.Record.{idle, loading, loaded, acked, failed, installing, reporting, fresh, in_phase, begun, with_outcome, with_digest}
use Rattle.device_record.specs.Record.{download_ok, record_ok}
use Rattle.device_record.specs.Record.{memory_ok, map_bytes}
use Rattle.bitmap.specs.Bitmap.{marked, mark, cleared, set_bits}
use Rattle.device_rules.specs.Rules.{completion}
use Rattle.bitmap.proofs.Bitmaps.{set_bits_le, set_bits_mark, set_bits_cleared}
use Rattle.device_record.proofs.Maps.{map_bytes_cover, byte_within}
use Rattle.device_record.proofs.Ranges.{total_range, phase_holds}
use Rattle.device_rules.specs.Decisions.{last_after}
use Rattle.device_rules.proofs.Tested.{fragment_fits}
use Rattle.device_rules.proofs.Holds.{Rule, Holds, holds_cleared, holds_stored, holds_under}
use Rattle.device_rules.proofs.Views

-- ---- the invariant

pub record Download (rule : Rule) (d : Device) (image map : List ℕ) : Type 0 where
  pub holds : Holds rule d.fields image map d.last
  pub counts : d.stored ≡ set_bits map d.fields.total
  pub last_fits : d.last ≤ d.fields.size
  pub unfinished : d.phase ≡ loading → d.stored < d.fields.total
  pub full : (d.phase ≡ loading → ⊥) → (d.phase ≡ failed → ⊥) → d.stored ≡ d.fields.total

pub record Sound (rule : Rule) (d : Device) (image map : List ℕ) : Type 0 where
  pub phase_known : d.phase ≤ reporting
  pub outcome_known : install_code d.outcome ≡ true
  pub flag_known : d.expected.set ≤ 1
  pub running_good : good_version d.running ≡ true
  pub target_good : good_version d.fields.version ≡ true
  pub download : (d.phase ≡ idle → ⊥) → Download rule d image map

-- ---- 29 and 14 are not met

not_both : (a b : Bool) → (a ≡ true → b ≡ false) → not (a && b) ≡ true
not_both true b h = ap not (h refl)
not_both false b h = refl

module _ (rule : Rule) (d : Device) (image map : List ℕ) (s : Sound rule d image map) where
  download-ok : Download rule d image map → download_ok d ≡ true
  unfolding download_ok
  download-ok w =
      and_both (and_both w.holds.size_ok w.holds.total_ok_lem)
      (and_both (le-leb d.stored d.fields.total (omega (arith, w.counts, set_bits_le map d.fields.total)))
      (and_both
      (not_both (eqb d.phase loading) (eqb d.stored d.fields.total)
      (λ p. ne_eqb d.stored d.fields.total (λ e. omega (arith, w.unfinished (eqb-true d.phase loading p)))))
      (le-leb d.last d.fields.size w.last_fits)))

  pub sound_record : record_ok d ≡ true
  unfolding record_ok
  sound_record =
      and_both (and_both (le-leb d.phase reporting s.phase_known) (and_both s.outcome_known (le-leb d.expected.set 1 s.flag_known)))
      (and_both (and_both s.running_good s.target_good)
      (by_cases (λ (t : Bool). t ≡ true) (λ _. refl) (λ p. download-ok (s.download (eqb-false d.phase idle p)))))

  pub sound_room : memory_ok d image map ≡ true
  unfolding memory_ok
  sound_room =
      by_cases (λ (t : Bool). t ≡ true)
      (λ p.
      let w : Download rule d image map = s.download (λ e. omega (arith, phase_holds d.phase p)) in
      and_both (le-leb (d.fields.size * d.fields.total) (length image) w.holds.image_room)
      (le-leb (map_bytes d.fields.total) (length map) w.holds.map_room))
      (λ _. refl)

-- ---- each change keeps it

pub sound_fresh : (rule : Rule) (version image map : List ℕ) → good_version version ≡ true → Sound rule (fresh version) image map
unfolding install_code one_of
sound_fresh rule version image map v =
    record { phase_known = omega arith; outcome_known = refl; flag_known = omega arith; running_good = v; target_good = v; download = λ h. absurd (h refl) }

-- another rule that follows from the one that holds
pub sound_under : (rule other : Rule) (d : Device) (image map : List ℕ)
    → ((d.phase ≡ idle → ⊥) → (index : ℕ) → index < d.fields.total → marked map index ≡ true → rule.P d.fields image d.last index
    → other.P d.fields image d.last index)
    → Sound rule d image map → Sound other d image map
sound_under rule other d image map so s =
    record {
      phase_known = s.phase_known;
      outcome_known = s.outcome_known;
      flag_known = s.flag_known;
      running_good = s.running_good;
      target_good = s.target_good;
      download = λ h.
          let w : Download rule d image map = s.download h in
          record {
            holds = holds_under rule other d.fields image map d.last (so h) w.holds;
            counts = w.counts;
            last_fits = w.last_fits;
            unfinished = w.unfinished;
            full = w.full;
          };
    }

-- the map was cleared: any rule will do
pub sound_begun : (rule other : Rule) (d : Device) (image map : List ℕ) (condition : ℕ) (f : Fields) → Views.Begins d image map condition f
    → Sound rule d image map → Sound other (begun f d) image (cleared (map_bytes f.total) map)
unfolding device_row
sound_begun rule other d image map condition f b s =
    let v₁ : (size_ok f.size && (total_ok f.total && is_word f.code)) ≡ true = and_right (good_version f.version) _ b.valid in
    let size : size_ok f.size ≡ true = and_left (size_ok f.size) _ v₁ in
    let total : total_ok f.total ≡ true = and_left (total_ok f.total) (is_word f.code) (and_right (size_ok f.size) _ v₁) in
    record {
      phase_known = omega arith;
      outcome_known = s.outcome_known;
      flag_known = omega arith;
      running_good = s.running_good;
      target_good = and_left (good_version f.version) _ b.valid;
      download = λ _. record {
        holds = holds_cleared other f image map 0 size total b.image_room b.map_room;
        counts = sym (set_bits_cleared (map_bytes f.total) map f.total (map_bytes_cover f.total));
        last_fits = omega arith;
        unfinished = λ _. (total_range f.total total).0;
        full = λ h _. absurd (h refl);
      };
    }

completion_phase : (stored last : ℕ) (f : Fields) (x : Expected) (image : List ℕ)
    → let p : ℕ = completion stored last f x image in
    (p ≤ reporting) × (p ≡ loading → stored ≡ f.total → ⊥) × ((p ≡ loading → ⊥) → stored ≡ f.total)
unfolding completion
completion_phase stored last f x image =
    by_cases (λ (p : ℕ). (p ≤ reporting) × (p ≡ loading → stored ≡ f.total → ⊥) × ((p ≡ loading → ⊥) → stored ≡ f.total))
    (λ t. by_cases (λ (p : ℕ). (p ≤ reporting) × (p ≡ loading → stored ≡ f.total → ⊥) × ((p ≡ loading → ⊥) → stored ≡ f.total))
    (λ _. (omega arith, (λ z. absurd (omega arith)), λ _. eqb-true stored f.total t))
    (λ _. (omega arith, (λ z. absurd (omega arith)), λ _. eqb-true stored f.total t)))
    (λ t. (omega arith, (λ _. eqb-false stored f.total t), λ h. absurd (h refl)))

pub sound_stored : (rule : Rule) (d : Device) (image map : List ℕ) (index : ℕ) (bytes : List ℕ) → Views.Stores d image map index bytes
    → let o : Views.Out = Views.stored_out d image map index bytes in
    rule.P d.fields o.image o.device.last index → Sound rule d image map → Sound rule o.device o.image o.map
sound_stored rule d image map index bytes st new s =
    let w : Download rule d image map = s.download (λ e. omega (arith, st.phase)) in
    let fits : length bytes ≤ d.fields.size = fragment_fits d.fields index (length bytes) st.long in
    let last : ℕ = last_after d.fields index (length bytes) d.last in
    let filled : List ℕ = patched (index * d.fields.size) bytes image in
    let (known, on, done) = completion_phase (d.stored + 1) last d.fields d.expected filled in
    let counts : d.stored + 1 ≡ set_bits (mark index map) d.fields.total =
    omega (
      arith,
      w.counts,
      set_bits_mark index map d.fields.total (byte_within index d.fields.total map st.below w.holds.map_room) st.below st.new,
    ) in
    record {
      phase_known = known;
      outcome_known = s.outcome_known;
      flag_known = s.flag_known;
      running_good = s.running_good;
      target_good = s.target_good;
      download = λ _. record {
        holds = holds_stored rule d.fields image map d.last index bytes st.below fits new w.holds;
        counts = counts;
        last_fits = by_cases (λ (n : ℕ). n ≤ d.fields.size) (λ _. fits) (λ _. w.last_fits);
        unfinished = λ p. lt_of_le-ne (omega (arith, set_bits_le (mark index map) d.fields.total)) (on p);
        full = λ p _. done p;
      };
    }

-- the phase alone changes: to Idle, or on from a phase in which the download is full
pub sound_idle : (rule : Rule) (d : Device) (image map : List ℕ) → Sound rule d image map → Sound rule (in_phase idle d) image map
sound_idle rule d image map s =
    record {
      phase_known = omega arith;
      outcome_known = s.outcome_known;
      flag_known = s.flag_known;
      running_good = s.running_good;
      target_good = s.target_good;
      download = λ h. absurd (h refl);
    }

-- phases in which the download is full
abbrev Past : ℕ → Type 0
Past phase = (phase ≡ idle → ⊥) × (phase ≡ loading → ⊥) × (phase ≡ failed → ⊥)

sound_on : (rule : Rule) (d : Device) (image map : List ℕ) (phase outcome : ℕ) (running : List ℕ) → Past d.phase → phase ≤ reporting
    → (phase ≡ loading → ⊥) → install_code outcome ≡ true → good_version running ≡ true → Sound rule d image map
    → Sound rule
    (record { phase = phase; running = running; fields = d.fields; stored = d.stored; last = d.last; outcome = outcome; expected = d.expected })
    image map
sound_on rule d image map phase outcome running past known on code version s =
    let w : Download rule d image map = s.download past.0 in
    record {
      phase_known = known;
      outcome_known = code;
      flag_known = s.flag_known;
      running_good = version;
      target_good = s.target_good;
      download = λ _. record {
        holds = w.holds;
        counts = w.counts;
        last_fits = w.last_fits;
        unfinished = λ p. absurd (on p);
        full = λ _ _. w.full past.1 past.2;
      };
    }

pub sound_moved : (rule : Rule) (d : Device) (image map : List ℕ) (input : Views.Input) (phase : ℕ) → Views.Moves d image map input phase
    → Sound rule d image map → Sound rule (in_phase phase d) image map
sound_moved rule d image map input phase (Views.gives_up condition index bytes i p e) s = rw e (sound_idle rule d image map s)
sound_moved rule d image map input phase (Views.acknowledged condition i p e) s =
    sound_on rule d image map phase d.outcome d.running (omega arith) (omega arith) (omega arith) s.outcome_known s.running_good s
sound_moved rule d image map input phase (Views.rejected condition result i n p e) s = rw e (sound_idle rule d image map s)
sound_moved rule d image map input phase (Views.abandons condition result i p e) s = rw e (sound_idle rule d image map s)
sound_moved rule d image map input phase (Views.reported condition result i p e) s = rw e (sound_idle rule d image map s)

-- a repeat that differs: Failed, with what is stored
pub sound_differs : (rule : Rule) (d : Device) (image map : List ℕ) → d.phase ≡ loading → Sound rule d image map
    → Sound rule (in_phase failed d) image map
sound_differs rule d image map p s =
    let w : Download rule d image map = s.download (λ e. omega (arith, p)) in
    record {
      phase_known = omega arith;
      outcome_known = s.outcome_known;
      flag_known = s.flag_known;
      running_good = s.running_good;
      target_good = s.target_good;
      download = λ _. record {
        holds = w.holds;
        counts = w.counts;
        last_fits = w.last_fits;
        unfinished = λ e. absurd (omega arith);
        full = λ _ f. absurd (f refl);
      };
    }

-- a digest given: nothing that counts of the download changes
pub sound_digest : (rule : Rule) (d : Device) (image map digest : List ℕ) → Sound rule d image map → Sound rule (with_digest digest d) image map
sound_digest rule d image map digest s =
    record {
      phase_known = s.phase_known;
      outcome_known = s.outcome_known;
      flag_known = omega arith;
      running_good = s.running_good;
      target_good = s.target_good;
      download = λ p. let w : Download rule d image map = s.download p in
          record { holds = w.holds; counts = w.counts; last_fits = w.last_fits; unfinished = w.unfinished; full = w.full };
    }

pub sound_executed : (rule : Rule) (d : Device) (image map : List ℕ) → (d.phase ≡ loaded) ⊎ (d.phase ≡ acked)
    → Sound rule d image map → Sound rule (in_phase installing d) image map
sound_executed rule d image map p s =
    sound_on rule d image map installing d.outcome d.running (past p) (omega arith) (omega arith) s.outcome_known s.running_good s
  where
    past : (d.phase ≡ loaded) ⊎ (d.phase ≡ acked) → Past d.phase
    past (inl e) = omega arith
    past (inr e) = omega arith

pub sound_outcome : (rule : Rule) (d : Device) (image map : List ℕ) (code : ℕ) → d.phase ≡ installing → install_code code ≡ true
    → Sound rule d image map → Sound rule (with_outcome code (pick (eqb code 0x00) d.fields.version d.running) d) image map
sound_outcome rule d image map code p k s =
    sound_on rule d image map reporting code (pick (eqb code 0x00) d.fields.version d.running) (omega arith) (omega arith) (omega arith) k
    (by_cases (λ (v : List ℕ). good_version v ≡ true) (λ _. s.target_good) (λ _. s.running_good)) s

-- any call; of a fragment that it stores the rule has to be shown
pub sound_does : (rule : Rule) (d : Device) (image map : List ℕ) (input : Views.Input) (o : Views.Out) → Views.Does d image map input o
    → ((condition index : ℕ) (bytes : List ℕ) → input ≡ Views.hears condition (found (fragment 0x00 index bytes))
    → Views.Stores d image map index bytes
    → let o : Views.Out = Views.stored_out d image map index bytes in rule.P d.fields o.image o.device.last index)
    → Sound rule d image map → Sound rule o.device o.image o.map
sound_does rule d image map input o (Views.still n says x e) new s = rw e s
sound_does rule d image map input o (Views.begins condition f i b e) new s = rw e (sound_begun rule rule d image map condition f b s)
sound_does rule d image map input o (Views.stores condition index bytes i st e) new s =
    rw e (sound_stored rule d image map index bytes st (new condition index bytes i st) s)
sound_does rule d image map input o (Views.differs condition index bytes i p r e) new s = rw e (sound_differs rule d image map p s)
sound_does rule d image map input o (Views.takes-digest digest i p e) new s = rw e (sound_digest rule d image map digest s)
sound_does rule d image map input o (Views.moves phase m e) new s = rw e (sound_moved rule d image map input phase m s)
sound_does rule d image map input o (Views.executes condition i p e) new s = rw e (sound_executed rule d image map p s)
sound_does rule d image map input o (Views.reports code i p k e) new s = rw e (sound_outcome rule d image map code p k s)
