-- What the answer 00 to an announcement tells. Assumes nothing.
use Prim.Native.Nat.{ℕ, ◌*◌, ◌≤◌, ◌<◌}
use native.Mathlib.Omega.{arith}
use mathlib.Core.Path.{◌≡◌, refl}
use mathlib.Core.Bool.{Bool, true, false, not}
use mathlib.Core.List.{List}
use lib.Dec.{eqb, leb, ltb}
use lib.ListN.{length}
use borrow.Author.Tests.{eqb-true, eqb-false, leb-false, ltb-false, not-true, not-false}
use Rattle.basis.specs.Choice.{pick}
use Rattle.basis.specs.Bytes.{same}
use Rattle.message.specs.declared.Fields.{Fields}
use Rattle.device_record.specs.declared.Device.{Device}
use Rattle.device_record.specs.Record.{installing, map_bytes}
use Rattle.device_rules.specs.Decisions.{announce_result}

not_first : (t : Bool) (a b : ℕ) → (t ≡ true → a ≡ 0 → ⊥) → pick t a b ≡ 0 → (t ≡ false) × (b ≡ 0)
unfolding pick
not_first true a b h e = absurd (h refl e)
not_first false a b h e = (refl, e)

module _ (d : Device) (image map : List ℕ) (condition : ℕ) (f : Fields) where
  -- an announcement is answered 00
  pub record Accepted : Type 0 where
    pub phase : d.phase < installing
    pub ready : condition ≡ 0
    pub other_version : same f.version d.running ≡ false
    pub image_room : f.size * f.total ≤ length image
    pub map_room : map_bytes f.total ≤ length map

  pub accepted_facts : announce_result d condition f image map ≡ 0 → Accepted
  unfolding announce_result
  accepted_facts r =
      let (a, r₁) = not_first (leb installing d.phase) 0x01 _ (λ _ z. omega arith) r in
      let (b, r₂) = not_first (not (eqb condition 0)) condition _ (λ t. eqb-false condition 0 (not-true _ t)) r₁ in
      let (c, r₃) = not_first (same f.version d.running) 0x03 _ (λ _ z. omega arith) r₂ in
      let (i, r₄) = not_first (ltb (length image) (f.size * f.total)) 0x05 _ (λ _ z. omega arith) r₃ in
      let (m, _) = not_first (ltb (length map) (map_bytes f.total)) 0x09 0x00 (λ _ z. omega arith) r₄ in
      record {
        phase = leb-false installing d.phase a;
        ready = eqb-true condition 0 (not-false _ b);
        other_version = c;
        image_room = ltb-false (length image) (f.size * f.total) i;
        map_room = ltb-false (length map) (map_bytes f.total) m;
      }
