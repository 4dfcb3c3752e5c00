-- The device's calls keep the invariant of the runs: one clause for each outcome of its view. Assumes nothing.
use Prim.Native.Nat.{ℕ, ◌+◌, ◌*◌, ◌<◌, ◌≤◌}
use native.Mathlib.Omega.{arith}
use mathlib.Core.Path.{◌≡◌, refl, sym, ◌∙◌, ap, subst}
use mathlib.Core.Bool.{true, false, false≢true, true≢false}
use mathlib.Core.List.{List, [], ◌++◌}
use mathlib.Core.Logic.{◌⊎◌, inl, inr}
use lib.ListN.{length, drop}
use Rattle.basis.specs.Bytes.{same, patched}
use Rattle.basis.proofs.Lists.{same_eq}
use Rattle.message.specs.declared.Fields.{Fields}
use Rattle.message.specs.Messages.{DeviceMessage, announce, fragment, execute, GatewayMessage, announce_reply, execute_reply, found, to_device, to_gateway}
use Rattle.device_record.specs.declared.Device.{Device}
use Rattle.device_record.specs.Record.{loading, failed, installing, reporting, holding}
use Rattle.device_rules.proofs.Images.{drop_patched, place_within}
use Rattle.device_rules.proofs.Sound.{sound_begun}
use Rattle.device_rules.proofs.Standing.{standing, repeats_same, standing_does, standing_under}
use Rattle.device_rules.proofs.Views
use Rattle.device_rules.proofs.Views.{Input, hears, installs, Out, spoken}
use Rattle.gateway_record.specs.declared.Gateway.{Gateway}
use Rattle.gateway_record.specs.Record as gateway
use Rattle.gateway_record.proofs.Package.{stretch_fits, stretch_within}
use Rattle.upgrade.specs.Records.{DeviceEnd, World}
use Rattle.upgrade.proofs.Air.{Air, air_none, air_one, air_map, air_more}
use Rattle.upgrade.proofs.DeviceCalls.{end_of, DoesAt, StillAt, BeginsAt, ResumesAt, StoresAt, RepeatsAt, still_at, begun_at, stored_at}
use Rattle.upgrade.proofs.DeviceCalls.{moved_at, outcome_at, digest_given_at, Moved, moves_to, holding_below, completion_low, other_version}
use Rattle.upgrade.proofs.Run.{Plan, SoundEnd, NotEnded, Offering, Stretch, RunsTarget, GatewaySaid, DeviceSaid, more_served, more_said, Untaken, Taken}
use Rattle.upgrade.proofs.Run.{Run, untaken, taken}

-- P holds of the message that the input brings
abbrev pub Brought : (DeviceMessage → Type 0) → Input → Type 0
Brought P input = (condition : ℕ) (m : DeviceMessage) → input ≡ hears condition (found m) → P m

-- the world after a call at the device
abbrev pub with_device : World → DeviceEnd → (says : List (List ℕ)) → World
with_device w e says = record { device_end = e; gateway = w.gateway; from_device = says ++ w.from_device; from_gateway = w.from_gateway }

-- ---- what is said where nothing changes

-- an announcement of the download that is held is answered 00
abbrev Resumption : DeviceEnd → Input → Type 0
Resumption e input = (condition : ℕ) × (a : Fields) × (input ≡ hears condition (found (announce a))) × ResumesAt e condition a

module _ (p : Plan) (e : DeviceEnd) {success : Type 0}
    (reports : e.device.phase ≡ reporting → e.device.outcome ≡ 0x00 → e.device.running ≡ p.offer.version → success) where
  abbrev Quiet : (says : List (List ℕ)) → Type 0
  Quiet says = Air to_gateway (DeviceSaid p ⊥ success) says

  quiet : (says : List (List ℕ)) → says ≡ [] → Quiet says
  quiet says e = rw e (air_none to_gateway)

  one : (m : GatewayMessage) (says : List (List ℕ)) → DeviceSaid p ⊥ success m → says ≡ spoken m → Quiet says
  one m says s e = rw e (air_one to_gateway m s)

  still-said : (input : Input) (n : ℕ) (says : List (List ℕ)) → StillAt e input n says
      → (Resumption e input × Air to_gateway (DeviceSaid p (Unit {0}) success) says) ⊎ Quiet says
  still-said input n says (Views.refuses z k e) = inr (quiet says e)
  still-said input n says (Views.unread c i l e) = inr (quiet says e)
  still-said input n says (Views.skips c index bytes i z e) = inr (quiet says e)
  still-said input n says (Views.queried c i z e) = inr (one _ says tt e)
  still-said input n says (Views.declines c a result i r nz z e) = inr (one _ says nz e)
  still-said input n says (Views.continues c a i r z e) = inl ((c, a, i, r), rw e (air_one to_gateway (announce_reply 0x00) (λ _. tt)))
  still-said input n says (Views.delays c result i nz z e) = inr (one _ says tt e)
  still-said input n says (Views.executes-on c i q z e) = inr (one _ says tt e)
  still-said input n says (Views.requests i q l z e) = inr (one _ says tt e)
  still-said input n says (Views.says-loaded i q z e) = inr (one _ says tt e)
  still-said input n says (Views.says-failed i q z e) = inr (one _ says tt e)
  still-said input n says (Views.says-result i q z e) = inr (one _ says (reports q) e)

-- ---- three facts

pub not_success : (g : Gateway) → Offering g → g.phase ≡ gateway.ended → g.ending ≡ 0 → ⊥
not_success g (inl p) q z = omega arith
not_success g (inr (p, n)) q z = n z

not_running : (p : Plan) (d : Device) → same p.offer.version d.running ≡ false → RunsTarget p d → ⊥
not_running p d other r = true≢false (sym (same_eq p.offer.version d.running (sym r.0)) ∙ other)

-- the package's stretch is stored at its place: nothing past the package changes
package_past : (p : Plan) (f : Fields) (image : List ℕ) (index : ℕ) (bytes : List ℕ) → f ≡ p.offer → f.size * f.total ≤ length image
    → index < f.total → Stretch p index bytes
    → drop (length p.content) (patched (index * f.size) bytes image) ≡ drop (length p.content) image
package_past p f image index bytes e room below stretch =
    let b : bytes ≡ gateway.fragment_of p.content f.size index = rw e stretch in
    let fits : length bytes ≤ f.size = rw b (stretch_fits p.content f.size index) in
    let counted : index < gateway.total_of (length p.content) f.size =
    subst (λ (x : ℕ). index < x) (rw e p.total_is) below in
    let within : index * f.size + length bytes ≤ length p.content =
    rw b (stretch_within p.content f.size index (rw e p.size_some) counted) in
    drop_patched (index * f.size) bytes image (omega (arith, place_within f.size f.total index (length bytes) below fits))
    (length p.content) within

-- a fragment that comes again is the package's stretch, as what stands in its place is
pub repeats_agree : (p : Plan) (w : World) {E I : Type 0} → Taken p w E I → (input : Input) → Brought (GatewaySaid p (Unit {0})) input
    → (condition index : ℕ) (bytes : List ℕ) → input ≡ hears condition (found (fragment 0x00 index bytes))
    → w.device_end.device.phase ≡ loading → RepeatsAt w.device_end index bytes → ⊥
repeats_agree p w t input h c index bytes i l r =
    repeats_same (Stretch p) w.device_end.device w.device_end.image w.device_end.map (λ _ a b x y. x ∙ sym y) index bytes t.sound l r
    (h c (fragment 0x00 index bytes) i refl).1

module _ (p : Plan) (w : World) {E E' I I' : Type 0} (j : E → E') (k : I → I') where
  abbrev e : DeviceEnd
  e = w.device_end

  abbrev After : DeviceEnd → (says : List (List ℕ)) → Type 0
  After e' says = Run p (with_device w e' says) E' I'

  -- ---- before the announcement is taken up

  module _ (u : Untaken p w) where
    -- it is taken up: nothing that was said before can end in success
    taken-up : same p.offer.version e.device.running ≡ false → (e' : DeviceEnd) (says : List (List ℕ)) → e'.image ≡ e.image
        → e'.device.fields ≡ p.offer → e'.device.phase < installing → SoundEnd (Stretch p) e'
        → Air to_gateway (DeviceSaid p (Unit {0}) (NotEnded w.gateway → I')) says → After e' says
    taken-up other e' says i s l sound new =
        taken record {
          said = air_map to_device (more_served p (λ b. absurd b)) w.from_gateway u.said;
          heard = air_more to_gateway says w.from_device new
              (air_map to_gateway (more_said p (λ b. absurd b) (λ r. absurd (not_running p e.device other r))) w.from_device u.heard);
          fields_are = s;
          sound = sound;
          installs = λ q. absurd (omega (arith, l, q));
          reports = λ q. absurd (omega (arith, l, q));
          success = λ q z. absurd (not_success w.gateway u.offering q z);
          past_kept = ap (drop (length p.content)) (i ∙ u.image_kept);
        }

    -- it is not: the device stays, or leaves its phase for one with less
    not_taken : (e' : DeviceEnd) (says : List (List ℕ)) → e'.image ≡ e.image → e'.device.fields ≡ e.device.fields
        → (RunsTarget p e.device → RunsTarget p e'.device) → (holding e'.device.phase ≡ true → holding e.device.phase ≡ true)
        → Air to_gateway (DeviceSaid p ⊥ (RunsTarget p e'.device)) says → SoundEnd p.Held e' → After e' says
    not_taken e' says i s r h new sound =
        untaken record {
          offering = u.offering;
          said = u.said;
          heard = air_more to_gateway says w.from_device new (air_map to_gateway (more_said p (λ b. b) r) w.from_device u.heard);
          sound = sound;
          resumable = λ q s'. u.resumable (h q) (sym s ∙ s');
          image_kept = i ∙ u.image_kept;
        }

    Next : Out → Type 0
    Next o = SoundEnd p.Held (end_of o) → After (end_of o) o.says

    begins-untaken : (condition : ℕ) (a : Fields) → a ≡ p.offer → BeginsAt e condition a → Next (begun_at e a)
    unfolding Next
    begins-untaken condition a s b _ =
        taken-up (rw (← s) b.other_version) _ _ refl s (omega arith)
        (sound_begun (standing p.Held) (standing (Stretch p)) e.device e.image e.map condition a b u.sound)
        (air_one to_gateway (announce_reply 0x00) (λ _. tt))

    resumes-untaken : (condition : ℕ) (a : Fields) → a ≡ p.offer → ResumesAt e condition a → (says : List (List ℕ))
        → Air to_gateway (DeviceSaid p (Unit {0}) (RunsTarget p e.device)) says → After e says
    resumes-untaken condition a s r says new =
        let fields : e.device.fields ≡ p.offer = sym r.fields ∙ s in
        let other : same p.offer.version e.device.running ≡ false =
        rw (← s) (other_version e.device condition a e.image e.map r.result) in
        taken-up other e says refl fields (holding_below e.device.phase r.phase)
        (standing_under p.Held (Stretch p) e.device e.image e.map
        (λ _ index bytes _ h. u.resumable r.phase fields index bytes h) u.sound)
        (air_map to_gateway (more_said p (λ t. t) (λ t. absurd (not_running p e.device other t))) says new)

    still-untaken : (input : Input) → Brought (GatewaySaid p ⊥) input → (n : ℕ) (says : List (List ℕ)) → StillAt e input n says
        → Next (still_at e n says)
    unfolding Next
    still-untaken input h n says s sound = either (still-said p e (λ q _ v. (v, λ r. omega arith)) input n says s)
      where
        either : (Resumption e input × Air to_gateway (DeviceSaid p (Unit {0}) (RunsTarget p e.device)) says)
            ⊎ Air to_gateway (DeviceSaid p ⊥ (RunsTarget p e.device)) says → After e says
        either (inl ((c, a, i, r), new)) = resumes-untaken c a (h c (announce a) i) r says new
        either (inr new) = not_taken e says refl refl (λ r. r) (λ q. q) new sound

    moves-untaken : (phase : ℕ) → Moved e.device phase → Next (moved_at e phase [])
    unfolding Next holding
    moves-untaken phase m = not_taken _ [] refl refl (λ r. (r.0, away m)) (before m) (air_none to_gateway)
      where
        away : Moved e.device phase → phase ≡ installing → ⊥
        away (inl q) r = omega arith
        away (inr (q, _)) r = omega arith

        before : Moved e.device phase → holding phase ≡ true → holding e.device.phase ≡ true
        before (inl q) h = absurd (false≢true (ap holding (sym q) ∙ h))
        before (inr (_, q)) h = ap holding q

    reports-untaken : (code : ℕ) (running : List ℕ) → e.device.phase ≡ installing → Next (outcome_at e code running)
    unfolding Next holding
    reports-untaken code running q =
        not_taken _ [] refl refl (λ r. absurd (r.1 q)) (λ h. absurd (false≢true h)) (air_none to_gateway)

    digest-untaken : (digest : List ℕ) → Next (digest_given_at e digest)
    unfolding Next
    digest-untaken digest = not_taken _ [] refl refl (λ r. r) (λ q. q) (air_none to_gateway)

    module _ (input : Input) (o : Out) (h : Brought (GatewaySaid p ⊥) input) where
      untaken-next : DoesAt e input o → Next o
      untaken-next (Views.still n says s q) = subst Next (sym q) (still-untaken input h n says s)
      untaken-next (Views.begins c a i b q) = subst Next (sym q) (begins-untaken c a (h c (announce a) i) b)
      untaken-next (Views.stores c index bytes i s q) = absurd (h c (fragment 0x00 index bytes) i refl).0
      untaken-next (Views.differs c index bytes i l r q) = absurd (h c (fragment 0x00 index bytes) i refl).0
      untaken-next (Views.moves phase m q) = subst Next (sym q) (moves-untaken phase (moves_to e input phase m))
      untaken-next (Views.executes c i l q) = absurd (h c execute i)
      untaken-next (Views.reports code i l ok q) = subst Next (sym q) (reports-untaken code _ l)
      untaken-next (Views.takes-digest digest i l q) = subst Next (sym q) (digest-untaken digest)

      pub untaken_does : DoesAt e input o → After (end_of o) o.says
      unfolding Next
      untaken_does does =
          untaken-next does
          (standing_does p.Held e.device e.image e.map input o does
          (λ c index bytes i _. absurd (h c (fragment 0x00 index bytes) i refl).0) u.sound)

  -- ---- after it

  module _ (t : Taken p w E I) where
    stays-taken : (e' : DeviceEnd) (says : List (List ℕ)) → e'.device.fields ≡ p.offer → (e'.device.phase ≡ installing → E')
        → (e'.device.phase ≡ reporting → e'.device.outcome ≡ 0x00 → NotEnded w.gateway → I')
        → drop (length p.content) e'.image ≡ drop (length p.content) p.image
        → Air to_gateway (DeviceSaid p (Unit {0}) (NotEnded w.gateway → I')) says → SoundEnd (Stretch p) e' → After e' says
    stays-taken e' says s i r l new sound =
        taken record {
          said = t.said;
          heard = air_more to_gateway says w.from_device new
              (air_map to_gateway (more_said p (λ u. u) (λ v n. k (v n))) w.from_device t.heard);
          fields_are = s;
          sound = sound;
          installs = i;
          reports = r;
          success = λ q z. k (t.success q z);
          past_kept = l;
        }

    Then : Out → Type 0
    Then o = SoundEnd (Stretch p) (end_of o) → After (end_of o) o.says

    still-taken : (input : Input) (n : ℕ) (says : List (List ℕ)) → StillAt e input n says → Then (still_at e n says)
    unfolding Then
    still-taken input n says s =
        stays-taken e says t.fields_are (λ q. j (t.installs q)) (λ q z l. k (t.reports q z l)) t.past_kept
        (either (still-said p e (λ q z _ l. k (t.reports q z l)) input n says s))
      where
        either : (Resumption e input × Air to_gateway (DeviceSaid p (Unit {0}) (NotEnded w.gateway → I')) says)
            ⊎ Air to_gateway (DeviceSaid p ⊥ (NotEnded w.gateway → I')) says
            → Air to_gateway (DeviceSaid p (Unit {0}) (NotEnded w.gateway → I')) says
        either (inl (_, new)) = new
        either (inr new) = air_map to_gateway (more_said p (λ _. tt) (λ v. v)) says new

    begins-taken : (a : Fields) → a ≡ p.offer → Then (begun_at e a)
    unfolding Then
    begins-taken a s =
        stays-taken _ _ s (λ q. absurd (omega (arith, q))) (λ q. absurd (omega (arith, q))) t.past_kept
        (air_one to_gateway (announce_reply 0x00) (λ _. tt))

    stores-taken : (index : ℕ) (bytes : List ℕ) → Stretch p index bytes → StoresAt e index bytes → Then (stored_at e index bytes)
    unfolding Then
    stores-taken index bytes b s =
        stays-taken _ [] t.fields_are (λ q. absurd (omega (arith, q, low))) (λ q. absurd (omega (arith, q, low)))
        (package_past p e.device.fields e.image index bytes t.fields_are room s.below b ∙ t.past_kept) (air_none to_gateway)
      where
        low : (stored_at e index bytes).device.phase ≤ failed
        low = completion_low _ _ _ _ _

        room : e.device.fields.size * e.device.fields.total ≤ length e.image
        room = (t.sound.download (λ q. omega (arith, s.phase))).holds.image_room

    moves-taken : (phase : ℕ) → Moved e.device phase → Then (moved_at e phase [])
    unfolding Then
    moves-taken phase m =
        stays-taken _ [] t.fields_are (λ q. absurd (away m (omega arith))) (λ q. absurd (away m (omega arith))) t.past_kept
        (air_none to_gateway)
      where
        away : Moved e.device phase → installing ≤ phase → ⊥
        away (inl q) r = omega arith
        away (inr (q, _)) r = omega arith

    executes-taken : E' → Then (moved_at e installing (spoken (execute_reply 0x00)))
    unfolding Then
    executes-taken x =
        stays-taken _ _ t.fields_are (λ _. x) (λ q. absurd (omega (arith, q))) t.past_kept (air_one to_gateway (execute_reply 0x00) tt)

    reports-taken : (code : ℕ) (running : List ℕ) → e.device.phase ≡ installing → (code ≡ 0x00 → E → NotEnded w.gateway → I')
        → Then (outcome_at e code running)
    unfolding Then
    reports-taken code running l x =
        stays-taken _ [] t.fields_are (λ q. absurd (omega (arith, q))) (λ _ z. x z (t.installs l)) t.past_kept (air_none to_gateway)

    digest-taken : (digest : List ℕ) → e.device.phase ≡ loading → Then (digest_given_at e digest)
    unfolding Then
    digest-taken digest l =
        stays-taken _ [] t.fields_are (λ q. absurd (omega (arith, l, q))) (λ q. absurd (omega (arith, l, q))) t.past_kept (air_none to_gateway)

    -- what makes Execute answered 00, and the install ended with 00 after it, is for the caller to say
    module _ (input : Input) (o : Out) (h : Brought (GatewaySaid p (Unit {0})) input)
        (x : (condition : ℕ) → input ≡ hears condition (found execute) → o.says ≡ spoken (execute_reply 0x00) → E')
        (y : input ≡ installs 0x00 → o.number ≡ 0 → E → NotEnded w.gateway → I') where
      taken_next : DoesAt e input o → Then o
      taken_next (Views.still n says s q) = subst Then (sym q) (still-taken input n says s)
      taken_next (Views.begins c a i b q) = subst Then (sym q) (begins-taken a (h c (announce a) i))
      taken_next (Views.stores c index bytes i s q) =
          subst Then (sym q) (stores-taken index bytes (h c (fragment 0x00 index bytes) i refl).1 s)
      taken_next (Views.differs c index bytes i l r q) = absurd (repeats_agree p w t input h c index bytes i l r)
      taken_next (Views.moves phase m q) = subst Then (sym q) (moves-taken phase (moves_to e input phase m))
      taken_next (Views.executes c i l q) = subst Then (sym q) (executes-taken (x c i (ap (λ (z : Out). z.says) q)))
      taken_next (Views.reports code i l ok q) =
          subst Then (sym q) (reports-taken code _ l (λ z. y (i ∙ ap installs z) (ap (λ (v : Out). v.number) q)))
      taken_next (Views.takes-digest digest i l q) = subst Then (sym q) (digest-taken digest l)

      pub taken_does : DoesAt e input o → After (end_of o) o.says
      unfolding Then
      taken_does does =
          taken_next does
          (standing_does (Stretch p) e.device e.image e.map input o does
          (λ c index bytes i _. (h c (fragment 0x00 index bytes) i refl).1) t.sound)
