-- The device's life before the start: it is sound, and what stands at the place of each marked index is a fragment that Held has; Held's
-- fields are the device's. Assumes nothing.
use Prim.Native.Nat.{ℕ}
use native.Mathlib.Omega.{arith}
use mathlib.Core.Path.{◌≡◌, refl, sym, ◌∙◌, subst}
use mathlib.Core.Bool.{Bool, false, ◌&&◌, not}
use mathlib.Core.List.{List, [], ◌∷◌, Memᴰ}
use mathlib.Core.Logic.{◌⊎◌, inl, inr}
use lib.Dec.{eqb}
use lib.ListN.{replicate}
use borrow.Author.Tests.{ne_eqb}
use Rattle.basis.specs.Choice.{pick}
use Rattle.basis.specs.Numbers.{repeat_differs}
use Rattle.basis.proofs.Choosing.{by_cases, pick_no, pick_yes}
use Rattle.message.specs.declared.Fields.{Fields}
use Rattle.message.specs.Version.{good_version}
use Rattle.message.specs.Messages.{DeviceMessage, query, announce, fragment, download_reply, execute, result_reply, Reading, found, refused}
use Rattle.device_record.specs.declared.Made.{Made}
use Rattle.device_record.specs.Record.{idle, loaded, acked, fresh, new_of}
use Rattle.device_rules.specs.Rules.{announce_result, resumes}
use Rattle.device_rules.proofs.Views
use Rattle.device_rules.proofs.Views.{Input, hears, asks, installs, digests, Out}
use Rattle.device_rules.proofs.Sound.{sound_fresh, sound_begun, sound_stored, sound_differs, sound_digest, sound_moved, sound_executed, sound_outcome}
use Rattle.device_rules.proofs.Standing.{standing, standing_under, stored_new}
use Rattle.upgrade.specs.Fold.{after}
use Rattle.upgrade.specs.Calls.{DeviceCall, given, asked, finished, digest_given}
use Rattle.upgrade.specs.Records.{DeviceEnd, device_next}
use Rattle.upgrade.specs.Held.{Held, held_by, held_next, held_after}
use Rattle.upgrade.proofs.DeviceCalls.{end_of, DoesAt, StillAt, BeginsAt, StoresAt, MovesAt, begun_at, stored_at, input_of, out_in, call_does, next_is, Moved}
use Rattle.upgrade.proofs.DeviceCalls.{moves_to}
use Rattle.upgrade.proofs.Run.{SoundEnd}

-- the fragment is among those held
abbrev pub Among : List (ℕ × List ℕ) → (index : ℕ) → List ℕ → Type 0
Among held index bytes = Memᴰ (index, bytes) held

pub record Lived (e : DeviceEnd) (h : Held) : Type 0 where
  pub sound : SoundEnd (Among h.fragments) e
  pub fields_are : (e.device.phase ≡ idle → ⊥) → h.fields ≡ e.device.fields

-- ---- what a call does to Held, by its number and what it brings

held_on : DeviceEnd → (n : ℕ) → Input → Held → Held
held_on e n (hears condition r) h = pick (eqb n 0) (held_by e condition r h) h
held_on e n asks h = h
held_on e n (installs code) h = h
held_on e n (digests digest) h = h

held_is : (e : DeviceEnd) (c : DeviceCall Bool) (h : Held) → held_next e c h ≡ held_on e (out_in e c).number (input_of c) h
unfolding held_next held_on
held_is e (given supported pcp condition message reply) h = refl
held_is e (asked reply) h = refl
held_is e (finished code) h = refl
held_is e (digest_given digest) h = refl

-- refused, nothing joins
held_refused : (e : DeviceEnd) (n : ℕ) (input : Input) (h : Held) → (n ≡ 0 → ⊥) → held_on e n input h ≡ h
unfolding held_on
held_refused e n (hears condition r) h z = pick_no _ _ _ (ne_eqb n 0 z)
held_refused e n asks h z = refl
held_refused e n (installs code) h z = refl
held_refused e n (digests digest) h z = refl

-- a message that brings nothing
held_same : (e : DeviceEnd) (n condition : ℕ) (r : Reading DeviceMessage) (input : Input) (h : Held) → input ≡ hears condition r
    → held_by e condition r h ≡ h → held_on e n input h ≡ h
unfolding held_on
held_same e n condition r input h i s = rw i (by_cases (λ (x : Held). x ≡ h) (λ _. s) (λ _. refl))

held_announce : (e : DeviceEnd) (condition : ℕ) (a : Fields) (h : Held)
    → (eqb (announce_result e.device condition a e.image e.map) 0 && not (resumes e.device a)) ≡ false
    → held_by e condition (found (announce a)) h ≡ h
unfolding held_by
held_announce e condition a h t = pick_no _ _ h t

held_fragment : (e : DeviceEnd) (condition result index : ℕ) (bytes : List ℕ) (h : Held) → (result ≡ 0x00 → ⊥)
    → held_by e condition (found (fragment result index bytes)) h ≡ h
unfolding held_by
held_fragment e condition result index bytes h z = pick_no _ _ h (ne_eqb result 0x00 z)

held_execute : (e : DeviceEnd) (n condition : ℕ) (input : Input) (h : Held) → input ≡ hears condition (found execute)
    → held_on e n input h ≡ h
unfolding held_by
held_execute e n condition input h i = held_same e n condition (found execute) input h i refl

held_installs : (e : DeviceEnd) (n code : ℕ) (input : Input) (h : Held) → input ≡ installs code → held_on e n input h ≡ h
unfolding held_on
held_installs e n code input h i = rw i

held_digests : (e : DeviceEnd) (n : ℕ) (digest : List ℕ) (input : Input) (h : Held) → input ≡ digests digest → held_on e n input h ≡ h
unfolding held_on
held_digests e n digest input h i = rw i

still_held : (e : DeviceEnd) (h : Held) (input : Input) (n : ℕ) (says : List (List ℕ)) → StillAt e input n says → held_on e n input h ≡ h
unfolding held_on held_by
still_held e h input n says (Views.refuses z k s) = held_refused e n input h z
still_held e h input n says (Views.unread c i l s) = held_same e n c (refused n) input h i refl
still_held e h input n says (Views.skips c index bytes i z s) =
    held_same e n c (found (fragment 0x81 index bytes)) input h i (held_fragment e c 0x81 index bytes h (λ z. omega arith))
still_held e h input n says (Views.queried c i z s) = held_same e n c (found query) input h i refl
still_held e h input n says (Views.declines c a result i r nz z s) =
    held_same e n c (found (announce a)) input h i
    (held_announce e c a h (rw (ne_eqb (announce_result e.device c a e.image e.map) 0 (λ q. nz (sym r ∙ q)))))
still_held e h input n says (Views.continues c a i r z s) =
    held_same e n c (found (announce a)) input h i (held_announce e c a h (rw (r.result, r.resumed)))
still_held e h input n says (Views.delays c result i nz z s) = held_execute e n c input h i
still_held e h input n says (Views.executes-on c i p z s) = held_execute e n c input h i
still_held e h input n says (Views.requests i p l z s) = rw i
still_held e h input n says (Views.says-loaded i p z s) = rw i
still_held e h input n says (Views.says-failed i p z s) = rw i
still_held e h input n says (Views.says-result i p z s) = rw i

moves_held : (e : DeviceEnd) (h : Held) (input : Input) (phase n : ℕ) → MovesAt e input phase → held_on e n input h ≡ h
unfolding held_by
moves_held e h input phase n (Views.gives_up c index bytes i p q) =
    held_same e n c (found (fragment 0x80 index bytes)) input h i (held_fragment e c 0x80 index bytes h (λ z. omega arith))
moves_held e h input phase n (Views.acknowledged c i p q) = held_same e n c (found (download_reply 0x00)) input h i refl
moves_held e h input phase n (Views.rejected c result i z p q) = held_same e n c (found (download_reply result)) input h i refl
moves_held e h input phase n (Views.abandons c result i p q) = held_same e n c (found (download_reply result)) input h i refl
moves_held e h input phase n (Views.reported c result i p q) = held_same e n c (found (result_reply result)) input h i refl

begins_held : (e : DeviceEnd) (h : Held) (input : Input) (condition : ℕ) (a : Fields) → input ≡ hears condition (found (announce a))
    → BeginsAt e condition a → held_on e 0 input h ≡ record { fields = a; fragments = [] }
unfolding held_on held_by
begins_held e h input condition a i b =
    rw i (pick_yes (eqb 0 0) _ _ refl ∙ pick_yes _ _ _ (rw (b.result, b.not_resumed)))

stores_held : (e : DeviceEnd) (h : Held) (input : Input) (condition index : ℕ) (bytes : List ℕ)
    → input ≡ hears condition (found (fragment 0x00 index bytes)) → held_on e 0 input h
    ≡ record { fields = h.fields; fragments = (index, bytes) ∷ h.fragments }
unfolding held_on held_by pick
stores_held e h input condition index bytes i = rw i

-- ---- one call, then any list

module _ (e : DeviceEnd) (h : Held) (l : Lived e h) (input : Input) where
  Then : Out → Type 0
  Then o = Lived (end_of o) (held_on e o.number input h)

  -- nothing joins, and what is held is held on
  lived-on : (o : Out) → held_on e o.number input h ≡ h → o.device.fields ≡ e.device.fields
      → ((o.device.phase ≡ idle → ⊥) → e.device.phase ≡ idle → ⊥) → SoundEnd (Among h.fragments) (end_of o) → Then o
  unfolding Then
  lived-on o same fields busy sound = rw same record { sound = sound; fields_are = λ q. l.fields_are (busy q) ∙ sym fields }

  lived-begins : (condition : ℕ) (a : Fields) → input ≡ hears condition (found (announce a)) → BeginsAt e condition a
      → Then (begun_at e a)
  unfolding Then
  lived-begins condition a i b =
      rw (begins_held e h input condition a i b)
      record {
        sound =
            sound_begun (standing (Among h.fragments)) (standing (Among [])) e.device e.image e.map condition a b l.sound;
        fields_are = λ _. refl;
      }

  lived-stores : (condition index : ℕ) (bytes : List ℕ) → input ≡ hears condition (found (fragment 0x00 index bytes))
      → StoresAt e index bytes → Then (stored_at e index bytes)
  unfolding Then
  lived-stores condition index bytes i s =
      let all : List (ℕ × List ℕ) = (index, bytes) ∷ h.fragments in
      let sound : SoundEnd (Among all) e =
      standing_under (Among h.fragments) (Among all) e.device e.image e.map (λ _ _ _ _ m. Memᴰ.tail m) l.sound in
      rw (stores_held e h input condition index bytes i)
      record {
        sound = sound_stored (standing (Among all)) e.device e.image e.map index bytes s
            (stored_new (Among all) e.device e.image e.map index bytes sound s (Memᴰ.head refl)) sound;
        fields_are = λ _. l.fields_are (λ q. omega (arith, s.phase));
      }

  lived-does : (o : Out) → DoesAt e input o → Then o
  lived-does o (Views.still n says s q) = subst Then (sym q) (lived-on _ (still_held e h input n says s) refl (λ p. p) l.sound)
  lived-does o (Views.begins c a i b q) =
      subst Then (sym q) (lived-begins c a i b)
  lived-does o (Views.stores c index bytes i s q) = subst Then (sym q) (lived-stores c index bytes i s)
  lived-does o (Views.differs c index bytes i p r q) =
      subst Then (sym q)
      (lived-on _ (held_refused e repeat_differs input h (λ z. omega arith)) refl (λ _ z. omega arith)
      (sound_differs (standing (Among h.fragments)) e.device e.image e.map p l.sound))
  lived-does o (Views.moves phase m q) =
      subst Then (sym q)
      (lived-on _ (moves_held e h input phase 0 m) refl (before (moves_to e input phase m))
      (sound_moved (standing (Among h.fragments)) e.device e.image e.map input phase m l.sound))
    where
      before : Moved e.device phase → (phase ≡ idle → ⊥) → e.device.phase ≡ idle → ⊥
      before (inl p) n r = n p
      before (inr (_, p)) n r = omega arith
  lived-does o (Views.executes c i p q) =
      subst Then (sym q)
      (lived-on _ (held_execute e 0 c input h i) refl (λ _. busy p)
      (sound_executed (standing (Among h.fragments)) e.device e.image e.map p l.sound))
    where
      busy : (e.device.phase ≡ loaded) ⊎ (e.device.phase ≡ acked) → e.device.phase ≡ idle → ⊥
      busy (inl a) r = omega arith
      busy (inr a) r = omega arith
  lived-does o (Views.reports code i p ok q) =
      subst Then (sym q)
      (lived-on _ (held_installs e 0 code input h i) refl (λ _ r. omega arith)
      (sound_outcome (standing (Among h.fragments)) e.device e.image e.map code p ok l.sound))
  lived-does o (Views.takes-digest digest i p q) =
      subst Then (sym q)
      (lived-on _ (held_digests e 0 digest input h i) refl (λ n. n)
      (sound_digest (standing (Among h.fragments)) e.device e.image e.map digest l.sound))

pub lived : (cs : List (DeviceCall Bool)) (e : DeviceEnd) (h : Held) → Lived e h → Lived (after device_next e cs) (held_after e h cs)
unfolding held_after
lived [] e h l = l
lived (c ∷ cs) e h l =
    lived cs (device_next e c) (held_next e c h)
    (rw (next_is e c, held_is e c h) (unfold Then in lived-does e h l (input_of c) (out_in e c) (call_does e c)))

-- ---- the making

pub lived_fresh : (version image map : List ℕ) (h : Held) → (new_of version).number ≡ 0
    → Lived (record { device = (new_of version).device; image = image; map = map }) h
unfolding new_of
lived_fresh version image map h =
    by_cases (λ (m : Made). m.number ≡ 0 → Lived (record { device = m.device; image = image; map = map }) h)
    {t = good_version version} {a = record { number = 0; device = fresh version }}
    {b = record { number = 17; device = fresh (replicate 16 0) }}
    (λ v _. record { sound = sound_fresh (standing (Among h.fragments)) version image map v; fields_are = λ n. absurd (n refl) })
    (λ _ z. absurd (omega (arith, z)))
