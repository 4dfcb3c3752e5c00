-- The rule that at the place of every stored index stand bytes of which something holds: Held's fragments before the start, the package's
-- stretches after it, and nothing in particular for the count. Assumes nothing.
use Prim.Native.Nat.{ℕ, ◌+◌, ◌*◌, ◌-◌, ◌≤◌, ◌<◌, min}
use native.Mathlib.Nat.{mul_comm, suc-mul}
use native.Mathlib.Omega.{arith}
use mathlib.Core.Path.{◌≡◌, sym, ◌∙◌, ap}
use mathlib.Core.Bool.{true≢false}
use mathlib.Core.List.{List}
use lib.ListN.{length, take, drop, length-take, length-drop}
use lib.Seq.{take-take}
use borrow.Author.Tests.{eq-eqb, eqb-true, eqb-false}
use Rattle.basis.specs.Choice.{pick}
use Rattle.basis.specs.Bytes.{patched}
use Rattle.basis.proofs.Choosing.{by_cases, pick_yes}
use Rattle.basis.proofs.Lists.{same_eq}
use Rattle.message.specs.Messages.{fragment, found}
use Rattle.message.specs.declared.Fields.{Fields}
use Rattle.device_record.specs.declared.Device.{Device}
use Rattle.device_record.specs.Record.{idle, loading, failed}
use Rattle.device_rules.proofs.Images.{Stands, place_within, patched_stands, joined}
use Rattle.device_rules.specs.Decisions.{is_last, last_after, stored_bytes}
use Rattle.device_rules.proofs.Tested.{fragment_fits, fragment_whole}
use Rattle.device_rules.proofs.Holds.{Rule, Holds, holds_all}
use Rattle.device_rules.proofs.Views
use Rattle.device_rules.proofs.Sound.{Download, Sound, sound_under, sound_does}

module _ (Q : (index : ℕ) → List ℕ → Type 0) where
  -- bytes of which Q holds stand at the index's place: size many, those of the last index as many as the last length says
  pub record Stored (f : Fields) (image : List ℕ) (last index : ℕ) : Type 0 where
    pub bytes : List ℕ
    pub known : Q index bytes
    pub fits : length bytes ≤ f.size
    pub stands : Stands image (index * f.size) bytes
    pub whole : (index + 1 ≡ f.total → ⊥) → length bytes ≡ f.size
    pub ends : index + 1 ≡ f.total → length bytes ≡ last

  -- so they are what a repeat is compared with
  pub stored_is : (f : Fields) (image : List ℕ) (last index : ℕ) (p : Stored f image last index) → stored_bytes f last index image ≡ p.bytes
  stored_is f image last index p =
      let long : length p.bytes ≡ pick (is_last f index) last f.size =
      by_cases (λ (n : ℕ). length p.bytes ≡ n) (λ t. p.ends (eqb-true (index + 1) f.total t))
      (λ t. p.whole (eqb-false (index + 1) f.total t)) in
      rw (← long) p.stands

  pub stored_elsewhere : (f : Fields) (image other : List ℕ) (last later index : ℕ)
      → take f.size (drop (index * f.size) image) ≡ take f.size (drop (index * f.size) other) → (index + 1 ≡ f.total → last ≡ later)
      → Stored f image last index → Stored f other later index
  stored_elsewhere f image other last later index e same p =
      let n : ℕ = length p.bytes in
      record {
        bytes = p.bytes;
        known = p.known;
        fits = p.fits;
        stands =
            sym (take-take n f.size (drop (index * f.size) other) p.fits) ∙ ap (take n) (sym e)
            ∙ take-take n f.size (drop (index * f.size) image) p.fits ∙ p.stands;
        whole = p.whole;
        ends = λ t. p.ends t ∙ same t;
      }

  abbrev pub standing : Rule
  standing =
      record {
        P = Stored;
        depends = stored_elsewhere;
      }

  module _ (d : Device) (image map : List ℕ) where
    -- a fragment of which Q holds, just stored
    pub stored_new : (index : ℕ) (bytes : List ℕ) → Sound standing d image map → Views.Stores d image map index bytes → Q index bytes
        → Stored d.fields (patched (index * d.fields.size) bytes image) (last_after d.fields index (length bytes) d.last) index
    stored_new index bytes s st q =
        let h : Holds standing d.fields image map d.last = (s.download (λ e. omega (arith, st.phase))).holds in
        let fits : length bytes ≤ d.fields.size = fragment_fits d.fields index (length bytes) st.long in
        record {
          bytes = bytes;
          known = q;
          fits = fits;
          stands = patched_stands (index * d.fields.size) bytes image
              (omega (arith, h.image_room, place_within d.fields.size d.fields.total index (length bytes) st.below fits));
          whole = fragment_whole d.fields index (length bytes) st.long;
          ends = λ t. sym (pick_yes _ (length bytes) d.last (eq-eqb (index + 1) d.fields.total t));
        }

    -- what is stored comes again with the bytes that stand there, if there is one way only in which Q holds
    pub repeats_same : ((index : ℕ) (a b : List ℕ) → Q index a → Q index b → a ≡ b) → (index : ℕ) (bytes : List ℕ) → Sound standing d image map
        → d.phase ≡ loading → Views.Repeats d image map index bytes → Q index bytes → ⊥
    repeats_same one index bytes s p r q =
        let f : Fields = d.fields in
        let h : Stored f image d.last index = (s.download (λ e. omega (arith, p))).holds.each index r.below r.stored in
        let stored : stored_bytes f d.last index image ≡ bytes =
        stored_is f image d.last index h ∙ one index h.bytes bytes h.known q in
        true≢false (sym (same_eq bytes (stored_bytes f d.last index image) (sym stored)) ∙ r.other)

    -- any call
    pub standing_does : (input : Views.Input) (o : Views.Out) → Views.Does d image map input o
        → ((condition index : ℕ) (bytes : List ℕ) → input ≡ Views.hears condition (found (fragment 0x00 index bytes))
        → Views.Stores d image map index bytes
        → Q index bytes)
        → Sound standing d image map → Sound standing o.device o.image o.map
    standing_does input o does q s =
        sound_does standing d image map input o does (λ condition index bytes i st. stored_new index bytes s st (q condition index bytes i st)) s

    -- full: every index has its bytes
    pub stored_all : Sound standing d image map → (d.phase ≡ idle → ⊥) → (d.phase ≡ loading → ⊥) → (d.phase ≡ failed → ⊥)
        → (index : ℕ) → index < d.fields.total → Stored d.fields image d.last index
    stored_all s a b c =
        let w : Download standing d image map = s.download a in
        holds_all standing d.fields image map d.last w.holds (sym w.counts ∙ w.full b c)

-- what holds of the bytes may say less, or something else that follows for the indices that are marked
pub standing_under : (Q R : (index : ℕ) → List ℕ → Type 0) (d : Device) (image map : List ℕ)
    → ((d.phase ≡ idle → ⊥) → (index : ℕ) (bytes : List ℕ) → index < d.fields.total → Q index bytes → R index bytes)
    → Sound (standing Q) d image map → Sound (standing R) d image map
standing_under Q R d image map so =
    sound_under (standing Q) (standing R) d image map
    (λ h index l _ p. record {
      bytes = p.bytes;
      known = so h index p.bytes l p.known;
      fits = p.fits;
      stands = p.stands;
      whole = p.whole;
      ends = p.ends;
    })

-- full with the package's stretches: the image begins with the package
pub package_stands : (content : List ℕ) (d : Device) (image map : List ℕ)
    → Sound (standing (λ index bytes. bytes ≡ take d.fields.size (drop (index * d.fields.size) content))) d image map
    → length content ≤ d.fields.size * d.fields.total → (d.phase ≡ idle → ⊥) → (d.phase ≡ loading → ⊥) → (d.phase ≡ failed → ⊥)
    → take (length content) image ≡ content
package_stands content d image map s l a b c =
    let Q : ℕ → List ℕ → Type 0 = λ index bytes. bytes ≡ take d.fields.size (drop (index * d.fields.size) content) in
    joined d.fields.size content image d.fields.total l
    (λ i k. let p : Stored Q d.fields image d.last i = stored_all Q d image map s a b c i k in rw p.known at p.stands)

-- full with the package's stretches: all fragments, true length, are as long as the package
pub package_length : (content : List ℕ) (d : Device) (image map : List ℕ)
    → Sound (standing (λ index bytes. bytes ≡ take d.fields.size (drop (index * d.fields.size) content))) d image map
    → 1 ≤ d.fields.total → (d.fields.total - 1) * d.fields.size ≤ length content → length content ≤ d.fields.total * d.fields.size
    → (d.phase ≡ idle → ⊥) → (d.phase ≡ loading → ⊥) → (d.phase ≡ failed → ⊥)
    → d.fields.size * (d.fields.total - 1) + d.last ≡ length content
package_length content d image map s some low high a b c =
    let f : Fields = d.fields in
    let i : ℕ = f.total - 1 in
    let Q : ℕ → List ℕ → Type 0 = λ index bytes. bytes ≡ take f.size (drop (index * f.size) content) in
    let p : Stored Q f image d.last i = stored_all Q d image map s a b c i (omega arith) in
    let n : length p.bytes ≡ min f.size (length content - i * f.size) =
    ap length p.known ∙ length-take f.size (drop (i * f.size) content) ∙ ap (min f.size) (length-drop (i * f.size) content) in
    let e : length p.bytes ≡ d.last = p.ends (omega arith) in
    let all : f.total * f.size ≡ i * f.size + f.size = ap (λ (k : ℕ). k * f.size) (omega arith) ∙ suc-mul i f.size ∙ omega arith in
    let swap : f.size * i ≡ i * f.size = mul_comm f.size i in
    omega arith
