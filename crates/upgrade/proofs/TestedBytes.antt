-- What is Loaded, Acked, Installing or Reporting has passed check and digest: a call that leads there from another phase is the one that stored
-- the last missing fragment, and no other changes the completed bytes, the code or the digest. Assumes nothing.
use Prim.Native.Nat.{ℕ, ◌*◌}
use native.Mathlib.Omega.{arith}
use mathlib.Core.Path.{◌≡◌, refl, sym}
use mathlib.Core.Bool.{Bool, true}
use mathlib.Core.List.{List, [], ◌∷◌}
use mathlib.Core.Logic.{◌⊎◌, inl, inr}
use lib.Dec.{eqb}
use lib.ListN.{length, take}
use borrow.Author.Tests.{eqb-true}
use Rattle.basis.specs.Bytes.{same, patched}
use Rattle.basis.proofs.Choosing.{by_cases, and_left, and_right, or_either}
use Rattle.basis.proofs.Lists.{same_true}
use Rattle.device_record.specs.declared.Device.{Device}
use Rattle.device_record.specs.declared.Made.{Made}
use Rattle.device_record.specs.Record.{loaded, acked, installing, in_phase, new_of}
use Rattle.device_rules.specs.Decisions.{check_passes, digest_passes, passes, true_length, last_after, completion}
use Rattle.device_rules.proofs.Views
use Rattle.upgrade.specs.Fold.{after}
use Rattle.upgrade.specs.Calls.{DeviceCall}
use Rattle.upgrade.specs.Records.{DeviceEnd, device_next, device_records}
use Rattle.upgrade.specs.Tested.{Completed, completed_bytes, Tested, CompletedIsTested}
use Rattle.upgrade.proofs.Count.{Fine, made_fine, run_fine}
use Rattle.upgrade.proofs.DeviceCalls.{call_does, next_is, input_of, out_in}

-- the completed bytes pass, where the phase says that all are stored
abbrev Passing : Device → (image : List ℕ) → Type 0
Passing d image = Completed d.phase → passes d.fields.code d.expected (take (true_length d.fields d.last) image) ≡ true

-- ---- one call

module _ (d : Device) (image map : List ℕ) (p : Passing d image) where
  onward : (d.phase ≡ loaded) ⊎ ((d.phase ≡ acked) ⊎ (d.phase ≡ installing)) → Completed d.phase
  onward (inl e) = record { not_idle = λ z. omega arith; not_loading = λ z. omega arith; not_failed = λ z. omega arith }
  onward (inr (inl e)) = record { not_idle = λ z. omega arith; not_loading = λ z. omega arith; not_failed = λ z. omega arith }
  onward (inr (inr e)) = record { not_idle = λ z. omega arith; not_loading = λ z. omega arith; not_failed = λ z. omega arith }

  -- the phase after a fragment says whether its bytes pass
  stored : (index : ℕ) (bytes : List ℕ) → let o : Views.Out = Views.stored_out d image map index bytes in Passing o.device o.image
  unfolding completion
  stored index bytes =
      let last : ℕ = last_after d.fields index (length bytes) d.last in
      let filled : List ℕ = patched (index * d.fields.size) bytes image in
      let P : ℕ → Type 0 = λ n. Completed n → passes d.fields.code d.expected (take (true_length d.fields last) filled) ≡ true in
      by_cases P (λ _. by_cases P (λ t _. t) (λ _ c. absurd (c.not_failed refl))) (λ _ c. absurd (c.not_loading refl))

  moved : (input : Views.Input) (phase : ℕ) → Views.Moves d image map input phase → Passing (in_phase phase d) image
  moved input phase (Views.gives_up condition index bytes i e t) c = absurd (c.not_idle t)
  moved input phase (Views.acknowledged condition i e t) c = p (onward (inl e))
  moved input phase (Views.rejected condition result i n e t) c = absurd (c.not_idle t)
  moved input phase (Views.abandons condition result i e t) c = absurd (c.not_idle t)
  moved input phase (Views.reported condition result i e t) c = absurd (c.not_idle t)

  either : (d.phase ≡ loaded) ⊎ (d.phase ≡ acked) → Completed d.phase
  either (inl e) = onward (inl e)
  either (inr e) = onward (inr (inl e))

  passing-does : (input : Views.Input) (o : Views.Out) → Views.Does d image map input o → Passing o.device o.image
  passing-does input o (Views.still n says x e) = rw e p
  passing-does input o (Views.begins condition f i b e) = rw e (λ c. absurd (c.not_loading refl))
  passing-does input o (Views.stores condition index bytes i st e) = rw e (stored index bytes)
  passing-does input o (Views.differs condition index bytes i h r e) = rw e (λ c. absurd (c.not_failed refl))
  passing-does input o (Views.takes-digest digest i h e) = rw e (λ c. absurd (c.not_loading h))
  passing-does input o (Views.moves phase m e) = rw e (moved input phase m)
  passing-does input o (Views.executes condition i h e) = rw e (λ _. p (either h))
  passing-does input o (Views.reports code i h k e) = rw e (λ _. p (onward (inr (inr h))))

-- ---- any list of calls

abbrev PassingEnd : DeviceEnd → Type 0
PassingEnd e = Passing e.device e.image

call_passing : (e : DeviceEnd) (c : DeviceCall Bool) → PassingEnd e → PassingEnd (device_next e c)
call_passing e c p = rw (next_is e c) (passing-does e.device e.image e.map p (input_of c) (out_in e c) (call_does e c))

run_passing : (calls : List (DeviceCall Bool)) (e : DeviceEnd) → PassingEnd e → PassingEnd (after device_next e calls)
run_passing [] e p = p
run_passing (c ∷ cs) e p = run_passing cs (device_next e c) (call_passing e c p)

-- ---- what it says of check and digest

tested_by : (e : DeviceEnd) → Fine e → PassingEnd e → Tested device_records e
unfolding passes check_passes digest_passes
tested_by e s p =
    let bytes : List ℕ = completed_bytes device_records e in
    let d : Device = e.device in
    record {
      all_stored = λ c. (s.download c.not_idle).full c.not_loading c.not_failed;
      check = λ c n. code_is (or_either (eqb d.fields.code 0) _ (and_left (check_passes d.fields.code bytes) _ (p c))) n;
      digest = λ c set. digest-is (or_either (eqb d.expected.set 0) _ (and_right (check_passes d.fields.code bytes) _ (p c))) set;
    }
  where
    code_is : {code sum : ℕ} → (eqb code 0 ≡ true) ⊎ (eqb code sum ≡ true) → (code ≡ 0 → ⊥) → sum ≡ code
    code_is {code} {sum} (inl t) n = absurd (n (eqb-true code 0 t))
    code_is {code} {sum} (inr t) n = sym (eqb-true code sum t)

    digest-is : {set : ℕ} {sum digest : List ℕ} → (eqb set 0 ≡ true) ⊎ (same sum digest ≡ true) → set ≡ 1 → sum ≡ digest
    digest-is {set} (inl t) one = absurd (omega (arith, eqb-true set 0 t))
    digest-is {set} {sum} {digest} (inr t) one = same_true sum digest t

fresh_passing : (version image : List ℕ) → (new_of version).number ≡ 0 → Passing (new_of version).device image
unfolding new_of
fresh_passing version image =
    by_cases (λ (m : Made). m.number ≡ 0 → Passing m.device image) (λ _ _ c. absurd (c.not_idle refl)) (λ _ z. absurd (omega arith))

pub completed_is_tested : CompletedIsTested
completed_is_tested version image map made calls =
    tested_by (after device_next first calls) (run_fine calls first (made_fine version image map made))
    (run_passing calls first (fresh_passing version image made))
  where
    first : DeviceEnd
    first = record { device = (new_of version).device; image = image; map = map }
