-- What mending gives: the claims of specs/Mended. Assumes nothing.
use Prim.Native.Nat.{ℕ, zero, suc, ◌+◌, ◌-◌, ◌≤◌, ◌<◌}
use native.Mathlib.Nat.{add-zero}
use native.Mathlib.Omega.{arith}
use mathlib.Core.Path.{◌≡◌, refl, sym, ◌∙◌, ap, ap₂}
use mathlib.Core.Bool.{Bool, true, false, true≢false}
use mathlib.Core.List.{List, [], ◌∷◌, ◌++◌, append_assoc}
use mathlib.Core.Logic.{◌⊎◌, inl, inr}
use lib.ListN.{length, take, drop, length-append, length-take, length-drop, take-append-drop, drop_of_length-le}
use lib.Seq.{drop-drop, length-take-le}
use lib.Dec.{eqb}
use borrow.Author.Tests.{leb-true, eqb-true, eqb-false, eq-eqb}
use Rattle.basis.specs.Bytes.{Bytes}
use Rattle.basis.proofs.Choosing.{by_cases}
use Rattle.message.specs.Recognition.{recognition}
use Rattle.capture_rules.specs.Capture.{Item, record_bytes, header_length, item_at, part_of}
use Rattle.capture_rules.specs.Reading.{ending, ends_from, reads_to_end, record_then, records_from, records_of}
use Rattle.capture_rules.specs.Mending.{sound_item, sound, first_sound, resume_at, Part, mended, place_behind}
use Rattle.capture_rules.specs.Mended.{followed, parts_from, parts_of, messages_in, records_in, mended_bytes}
use Rattle.capture_rules.specs.Mended.{Covers, Whole, SoundRecord, Stopped, MendedCapture}
use Rattle.capture_rules.proofs.Steps.{Found, is_found, fault_number, ends}
use Rattle.capture_rules.proofs.Records.{length_record, read_record, read_message, length_within, stands}
use Rattle.capture_rules.proofs.Mends.{first_above, fault_within}

le_cases : (a b : ℕ) → a ≤ b → (a ≡ b) ⊎ (a + 1 ≤ b)
le_cases a b h = by (eqb a b) refl
  where
    by : (t : Bool) → eqb a b ≡ t → (a ≡ b) ⊎ (a + 1 ≤ b)
    by true e = inl (eqb-true a b e)
    by false e = let n : a ≡ b → ⊥ = eqb-false a b e in inr (omega arith)

-- ---- the search for the first later place

module _ (capture : List ℕ) where
  first_below : (most at : ℕ) → first_sound capture most at ≤ at + most
  unfolding first_sound
  first_below zero at = omega arith
  first_below (suc most) at = by_cases (λ (x : ℕ). x ≤ at + suc most) (λ _. omega arith) (λ _. omega (arith, first_below most (at + 1)))

  none_before : (most at place : ℕ) → at ≤ place → place < first_sound capture most at → sound capture place ≡ false
  unfolding first_sound
  none_before zero at place h = λ l. absurd (omega arith)
  none_before (suc most) at place h =
      by_cases (λ (x : ℕ). place < x → sound capture place ≡ false) (λ _ l. absurd (omega arith))
      (λ s l. here-or-later s (λ k. none_before most (at + 1) place k l) (le_cases at place h))
    where
      here-or-later : sound capture at ≡ false → (at + 1 ≤ place → sound capture place ≡ false) → (at ≡ place) ⊎ (at + 1 ≤ place)
          → sound capture place ≡ false
      here-or-later s later (inl e) = ap (sound capture) (sym e) ∙ s
      here-or-later s later (inr k) = later k

  found-or-none : (most at : ℕ) → (sound capture (first_sound capture most at) ≡ true) ⊎ (first_sound capture most at ≡ at + most)
  unfolding first_sound
  found-or-none zero at = inr (sym (add-zero at))
  found-or-none (suc most) at =
      by_cases (λ (x : ℕ). (sound capture x ≡ true) ⊎ (x ≡ at + suc most)) (λ s. inl s) (λ _. shifted (found-or-none most (at + 1)))
    where
      shifted : (sound capture (first_sound capture most (at + 1)) ≡ true) ⊎ (first_sound capture most (at + 1) ≡ at + 1 + most)
          → (sound capture (first_sound capture most (at + 1)) ≡ true) ⊎ (first_sound capture most (at + 1) ≡ at + suc most)
      shifted (inl s) = inl s
      shifted (inr e) = inr (omega arith)

-- ---- what is sound

module _ (capture : List ℕ) (place : ℕ) where
  from-item : Bytes capture → (item : Item) → item_at capture place ≡ item → sound_item capture item ≡ true → SoundRecord capture place
  unfolding sound_item
  from-item bytes (Item.found to_device start count) e s =
      record {
        to_device = to_device;
        message = part_of capture start count;
        stands =
            ap (λ (n : ℕ). take (header_length + n) (drop place capture)) (length_within capture start count (is_found capture place e).within)
            ∙ stands capture place bytes e;
        recognised = eqb-true _ _ s;
      }
  from-item bytes Item.end e s = absurd (true≢false (sym s))
  from-item bytes (Item.fault number) e s = absurd (true≢false (sym s))

  -- behind the bytes before the place, and followed by the rest, the record is read as itself
  to_item : SoundRecord capture place → sound capture place ≡ true
  unfolding sound_item
  to_item r =
      let message : List ℕ = r.message in
      let bytes : List ℕ = record_bytes r.to_device message in
      let rest : List ℕ = drop (header_length + length message) (drop place capture) in
      let same_length : length (take (header_length + length message) (drop place capture)) ≡ length bytes = ap length r.stands in
      let within : place + (header_length + length message) ≤ length capture =
      omega (arith, simp (length-take, length-drop) at same_length, length_record r.to_device message) in
      let front : length (take place capture) ≡ place = length-take-le place capture (omega arith) in
      let whole : take place capture ++ (bytes ++ rest) ≡ capture =
      ap (λ (xs : List ℕ). take place capture ++ (xs ++ rest)) (sym r.stands)
      ∙ ap (◌++◌ (take place capture)) (take-append-drop (header_length + length message) (drop place capture))
      ∙ take-append-drop place capture in
      let item : item_at capture place ≡ Item.found r.to_device (place + header_length) (length message) =
      rw (whole, front) at (read_record (take place capture) r.to_device message rest) in
      let said : part_of capture (place + header_length) (length message) ≡ message =
      rw (whole, front) at (read_message (take place capture) r.to_device message rest) in
      ap (sound_item capture) item ∙ eq-eqb _ _ (ap (recognition true true) said ∙ r.recognised)

-- ---- each part

-- nothing of this kind is that
no_passed : {A : Type 0} {to_device : Bool} {s c start count : ℕ} → Part.found to_device s c ≡ Part.passed start count → A
no_passed e = let z : ◌≡◌ {A = ℕ} 0 1 = cc in absurd (omega arith)

end_passed : {A : Type 0} {start count : ℕ} → Part.end ≡ Part.passed start count → A
end_passed e = let z : ◌≡◌ {A = ℕ} 0 1 = cc in absurd (omega arith)

module _ (capture : List ℕ) where
  -- the end is given at the capture's end
  end-past : (at : ℕ) → item_at capture at ≡ Item.end → length capture ≤ at
  unfolding item_at
  end-past at =
      by_cases P (λ none _. leb-true _ _ none) (λ _. by_cases P (λ _. no) (λ _. by_cases P (λ _. no) (λ _. by_cases P (λ _. no) (λ _. nothing))))
    where
      P : Item → Type 0
      P item = item ≡ Item.end → length capture ≤ at

      no : {number : ℕ} → Item.fault number ≡ Item.end → length capture ≤ at
      no e = let z : ◌≡◌ {A = ℕ} 0 1 = cc in absurd (omega arith)

      nothing : {to_device : Bool} {start count : ℕ} → Item.found to_device start count ≡ Item.end → length capture ≤ at
      nothing e = let z : ◌≡◌ {A = ℕ} 0 1 = cc in absurd (omega arith)

  -- a part and what is known of those behind it
  cover : Bytes capture → (most at : ℕ) → at ≤ length capture → length capture < at + suc most
      → ((next : ℕ) → next ≤ length capture → length capture < next + most → Covers capture next (parts_from capture most next))
      → (item : Item) → item_at capture at ≡ item
      → Covers capture at (followed (mended capture item at) (parts_from capture most (place_behind (mended capture item at) at)))
  unfolding mended
  cover bytes most at h l later (Item.found to_device start count) e =
      let f : Found capture at to_device start count = is_found capture at e in
      (f.behind, stands capture at bytes e, later (start + count) f.within (omega (arith, f.behind)))
  cover bytes most at h l later Item.end e = omega (arith, end-past at e)
  cover bytes most at h l later (Item.fault number) e =
      let within : at < length capture = fault_within capture at (sym e) in
      let above : at + 1 ≤ resume_at capture at = first_above capture (length capture - (at + 1)) (at + 1) in
      let below : resume_at capture at ≤ at + 1 + (length capture - (at + 1)) = first_below capture (length capture - (at + 1)) (at + 1) in
      (refl, omega arith, later (at + (resume_at capture at - at)) (omega arith) (omega arith))

  covers_from : Bytes capture → (most at : ℕ) → at ≤ length capture → length capture < at + most → Covers capture at (parts_from capture most at)
  unfolding parts_from
  covers_from bytes zero at h l = absurd (omega arith)
  covers_from bytes (suc most) at h l = cover bytes most at h l (λ next h' l'. covers_from bytes most next h' l') (item_at capture at) refl

  -- ---- a stretch

  stop : (at start count : ℕ) (item : Item) → item_at capture at ≡ item → mended capture item at ≡ Part.passed start count → Stopped capture at start count
  unfolding mended
  stop at start count (Item.found to_device s c) e p = no_passed p
  stop at start count Item.end e p = end_passed p
  stop at start count (Item.fault number) e p =
      let s : at ≡ start = cc in
      let c : resume_at capture at - at ≡ count = cc in
      let within : at < length capture = fault_within capture at (sym e) in
      let above : at + 1 ≤ resume_at capture at = first_above capture (length capture - (at + 1)) (at + 1) in
      let below : resume_at capture at ≤ at + 1 + (length capture - (at + 1)) = first_below capture (length capture - (at + 1)) (at + 1) in
      let behind : resume_at capture at ≡ start + count = omega arith in
      record {
        number = number;
        which = fault_number capture at (sym e);
        fault = e;
        here = sym s;
        later = omega arith;
        within = omega arith;
        none_between = λ place l k. none_before capture (length capture - (at + 1)) (at + 1) place (omega arith) (rw behind k);
        goes_on = ending_at behind (found-or-none capture (length capture - (at + 1)) (at + 1));
      }
    where
      ending_at : resume_at capture at ≡ start + count
          → (sound capture (resume_at capture at) ≡ true) ⊎ (resume_at capture at ≡ at + 1 + (length capture - (at + 1)))
          → (sound capture (start + count) ≡ true) ⊎ (start + count ≡ length capture)
      ending_at b (inl t) = inl (rw b at t)
      ending_at b (inr t) = let w : at < length capture = fault_within capture at (sym e) in inr (omega arith)

  -- ---- a capture that is read to its end

  whole-step : (most at : ℕ) → ((next : ℕ) → ends_from capture most next ≡ true → Whole (parts_from capture most next))
      → (item : Item) → ending item (λ next. ends_from capture most next) ≡ true
      → Whole (followed (mended capture item at) (parts_from capture most (place_behind (mended capture item at) at)))
  unfolding mended
  whole-step most at later (Item.found to_device start count) e = later (start + count) e
  whole-step most at later Item.end e = tt
  whole-step most at later (Item.fault number) e = absurd (true≢false (sym e))

  whole_from : (most at : ℕ) → ends_from capture most at ≡ true → Whole (parts_from capture most at)
  unfolding parts_from ends_from
  whole_from zero at e = tt
  whole_from (suc most) at e = whole-step most at (λ next. whole_from most next) (item_at capture at) e

  same_step : Bytes capture → (most at : ℕ)
      → ((next : ℕ) → ends_from capture most next ≡ true → records_in capture (parts_from capture most next) ≡ drop next capture)
      → (item : Item) → item_at capture at ≡ item → ending item (λ next. ends_from capture most next) ≡ true
      → records_in capture (followed (mended capture item at) (parts_from capture most (place_behind (mended capture item at) at))) ≡ drop at capture
  unfolding mended records_in
  same_step bytes most at later (Item.found to_device start count) i e =
      let f : Found capture at to_device start count = is_found capture at i in
      let behind : at + (header_length + count) ≡ start + count = omega (arith, f.behind) in
      ap₂ ◌++◌ (sym (stands capture at bytes i))
      (later (start + count) e ∙ sym (drop-drop (header_length + count) at capture ∙ ap (λ (n : ℕ). drop n capture) behind))
      ∙ take-append-drop (header_length + count) (drop at capture)
  same_step bytes most at later Item.end i e = sym (drop_of_length-le capture (end-past at i))
  same_step bytes most at later (Item.fault number) i e = absurd (true≢false (sym e))

  same_from : Bytes capture → (most at : ℕ) → ends_from capture most at ≡ true → records_in capture (parts_from capture most at) ≡ drop at capture
  unfolding parts_from ends_from
  same_from bytes zero at e = absurd (true≢false (sym e))
  same_from bytes (suc most) at e = same_step bytes most at (λ next. same_from bytes most next) (item_at capture at) refl e

  -- the walker's records are those that mending gives
  records-step : (most at : ℕ)
      → ((next : ℕ) → ends_from capture most next ≡ true → messages_in capture (parts_from capture most next) ≡ records_from capture most next)
      → (item : Item) → ending item (λ next. ends_from capture most next) ≡ true
      → messages_in capture (followed (mended capture item at) (parts_from capture most (place_behind (mended capture item at) at)))
      ≡ record_then capture item (λ next. records_from capture most next)
  unfolding mended messages_in
  records-step most at later (Item.found to_device start count) e = ap (◌∷◌ (to_device, part_of capture start count)) (later (start + count) e)
  records-step most at later Item.end e = refl
  records-step most at later (Item.fault number) e = absurd (true≢false (sym e))

  records-from : (most at : ℕ) → ends_from capture most at ≡ true → messages_in capture (parts_from capture most at) ≡ records_from capture most at
  unfolding records_from ends_from parts_from messages_in
  records-from zero at e = refl
  records-from (suc most) at e = records-step most at (λ next. records-from most next) (item_at capture at) e

-- ---- what was mended

-- records one behind the other, each toward the device or from it
unfoldable pub written : List (Bool × List ℕ) → List ℕ
written [] = []
written (r ∷ rs) = record_bytes r.0 r.1 ++ written rs

pub records_written : (capture : List ℕ) (parts : List Part) → records_in capture parts ≡ written (messages_in capture parts)
unfolding records_in written messages_in
records_written capture [] = refl
records_written capture (Part.found to_device start count ∷ parts) =
    ap (◌++◌ (record_bytes to_device (part_of capture start count))) (records_written capture parts)
records_written capture (Part.passed start count ∷ parts) = records_written capture parts
records_written capture (Part.end ∷ parts) = records_written capture parts

-- behind any bytes, they are read to the end, and are these records
pub record Again (capture : List ℕ) (most at : ℕ) (rs : List (Bool × List ℕ)) : Type 0 where
  pub ended : ends_from capture most at ≡ true
  pub same : messages_in capture (parts_from capture most at) ≡ rs

again_end : (capture : List ℕ) (most at : ℕ) → length capture ≤ at → Again capture (suc most) at []
unfolding ends_from parts_from mended messages_in
again_end capture most at h =
    record {
      ended = ap (λ (i : Item). ending i (λ next. ends_from capture most next)) (sym (ends capture at h));
      same = ap (λ (i : Item). messages_in capture (followed (mended capture i at) (parts_from capture most (place_behind (mended capture i at) at))))
          (sym (ends capture at h));
    }

again_more : (capture : List ℕ) (most at next : ℕ) (to_device : Bool) (start count : ℕ) (message : List ℕ) (rs : List (Bool × List ℕ))
    → item_at capture at ≡ Item.found to_device start count → part_of capture start count ≡ message → start + count ≡ next → Again capture most next rs
    → Again capture (suc most) at ((to_device, message) ∷ rs)
unfolding ends_from parts_from mended messages_in
again_more capture most at next to_device start count message rs i m n a =
    record {
      ended = ap (λ (x : Item). ending x (λ next. ends_from capture most next)) i ∙ ap (ends_from capture most) n ∙ a.ended;
      same =
          ap (λ (x : Item). messages_in capture (followed (mended capture x at) (parts_from capture most (place_behind (mended capture x at) at)))) i
          ∙ ap₂ (λ (x : List ℕ) (k : ℕ). (to_device, x) ∷ messages_in capture (parts_from capture most k)) m n
          ∙ ap (◌∷◌ (to_device, message)) a.same;
    }

again : (rs : List (Bool × List ℕ)) (before : List ℕ) (most : ℕ) → length (written rs) < most → Again (before ++ written rs) most (length before) rs
unfolding written
again rs before zero h = absurd (omega arith)
again [] before (suc most) h = again_end (before ++ []) most (length before) (simp length-append (omega arith))
again (r ∷ rs) before (suc most) h =
    let rb : List ℕ = record_bytes r.0 r.1 in
    let l : length rb ≡ header_length + length r.1 = length_record r.0 r.1 in
    let j : (before ++ rb) ++ written rs ≡ before ++ (rb ++ written rs) = append_assoc before rb (written rs) in
    let place : length (before ++ rb) ≡ length before + header_length + length r.1 = simp length-append (omega arith) in
    again_more (before ++ (rb ++ written rs)) most (length before) (length (before ++ rb)) r.0 (length before + header_length) (length r.1) r.1 rs
    (read_record before r.0 r.1 (written rs)) (read_message before r.0 r.1 (written rs)) (sym place)
    (rw j at (again rs (before ++ rb) most (omega (arith, simp length-append at h))))

-- from the start on
pub all_again : (rs : List (Bool × List ℕ)) → Again (written rs) (suc (length (written rs))) 0 rs
all_again rs = again rs [] (suc (length (written rs))) (omega arith)

-- a mended capture is such records
mended_is : (capture : List ℕ) → mended_bytes capture ≡ written (messages_in capture (parts_of capture))
unfolding mended_bytes
mended_is capture = records_written capture (parts_of capture)

-- they are read to the end, and mending does not change them
written_ends : (rs : List (Bool × List ℕ)) → reads_to_end (written rs) ≡ true
unfolding reads_to_end
written_ends rs = (all_again rs).ended

written_mended : (rs : List (Bool × List ℕ)) → mended_bytes (written rs) ≡ written rs
unfolding parts_of
written_mended rs = mended_is (written rs) ∙ ap written (all_again rs).same

pub mended_capture : MendedCapture
unfolding parts_of reads_to_end records_of mended_bytes
mended_capture =
    record {
      covers = λ capture bytes. covers_from capture bytes (suc (length capture)) 0 (omega arith) (omega arith);
      covers_from = λ capture most at bytes. covers_from capture bytes most at;
      sound_stands = λ capture place bytes. from-item capture place bytes (item_at capture place) refl;
      stands_sound = to_item;
      stopped = λ capture at start count e. stop capture at start count (item_at capture at) refl e;
      whole = λ capture e. whole_from capture (suc (length capture)) 0 e;
      same_records = λ capture. records-from capture (suc (length capture)) 0;
      unchanged = λ capture bytes e. same_from capture bytes (suc (length capture)) 0 e;
      mended_ends = λ capture. rw (mended_is capture) (written_ends (messages_in capture (parts_of capture)));
      mended_again = λ capture. rw (mended_is capture) (written_mended (messages_in capture (parts_of capture)));
    }
