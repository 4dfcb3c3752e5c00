-- What a host makes of a kind and two places: the claims of specs/Captures. Assumes nothing.
use Prim.Native.Nat.{ℕ, ◌+◌, ◌-◌}
use native.Mathlib.Omega.{arith}
use mathlib.Core.Path.{◌≡◌, refl, sym, ◌∙◌, ap}
use mathlib.Core.Bool.{Bool, true, false}
use mathlib.Core.List.{List}
use mathlib.Core.Logic.{◌⊎◌, inl, inr}
use lib.ListN.{length}
use Rattle.basis.specs.Numbers.{bad_mark, cut_short}
use Rattle.capture_rules.specs.Capture.{Item, item_at, place_after}
use Rattle.capture_rules.specs.Mending.{Part, part_at, mended, place_behind}
use Rattle.capture_rules.specs.Writing.{write_at}
use Rattle.capture_rules.specs.Mended.{Stopped}
use Rattle.capture_rules.specs.Written.{WrittenRecord}
use Rattle.capture_rules.proofs.Steps.{is_found, fault_number}
use Rattle.capture_rules.proofs.Records.{no_record}
use Rattle.capture_rules.proofs.MendedCaptures.{mended_capture}
use Rattle.capture_rules.proofs.Written.{writing}
use Rattle.exports.specs.Exports.{fact}
use Rattle.exports.specs.Captures.{kind_of, capture_write_of, kind_at, next_at, mended_at, direction_kind, IsKind}
use Rattle.exports.specs.Captures.{RecordItem, PassedItem, EndItem, WrittenItem, CaptureItems}

-- ---- kinds

kind_found : (to_device : Bool) (start count : ℕ) → kind_of (Item.found to_device start count) ≡ direction_kind to_device
kind_found true start count = refl
kind_found false start count = refl

direction_is : (a b : Bool) → direction_kind a ≡ direction_kind b → a ≡ b
direction_is true true e = refl
direction_is true false e = absurd (omega arith)
direction_is false true e = absurd (omega arith)
direction_is false false e = refl

-- 0, 20 and 21 are the kind of no direction
not_end : (to_device : Bool) → direction_kind to_device ≡ 0 → ⊥
not_end true e = omega arith
not_end false e = omega arith

not_fault : (to_device : Bool) → (direction_kind to_device ≡ bad_mark) ⊎ (direction_kind to_device ≡ cut_short) → ⊥
not_fault true (inl e) = omega arith
not_fault true (inr e) = omega arith
not_fault false (inl e) = omega arith
not_fault false (inr e) = omega arith

no_end : (0 ≡ bad_mark) ⊎ (0 ≡ cut_short) → ⊥
no_end (inl e) = omega arith
no_end (inr e) = omega arith

module _ (capture : List ℕ) (at : ℕ) where
  -- ---- from what stands there

  of_record : (to_device : Bool) (start count : ℕ) → item_at capture at ≡ Item.found to_device start count → RecordItem capture at to_device start count
  unfolding mended
  of_record to_device start count e =
      record {
        kind = ap kind_of e ∙ kind_found to_device start count;
        begins = (is_found capture at e).behind;
        within = (is_found capture at e).within;
        next = ap (λ (i : Item). place_after i at) e;
        next_mended = ap (λ (i : Item). place_behind (mended capture i at) at) e;
      }

  of_passed : (start count : ℕ) → part_at capture at ≡ Part.passed start count → PassedItem capture at start count
  of_passed start count p = from (mended_capture.stopped capture at start count p)
    where
      from : Stopped capture at start count → PassedItem capture at start count
      from s =
          record {
            kind = numbered s.which;
            begins = s.here;
            some = s.later;
            within = s.within;
            next = ap (λ (i : Item). place_after i at) s.fault;
            next_mended = ap (λ (q : Part). place_behind q at) p;
          }
        where
          numbered : (s.number ≡ bad_mark) ⊎ (s.number ≡ cut_short) → (kind_at capture at ≡ bad_mark) ⊎ (kind_at capture at ≡ cut_short)
          numbered (inl e) = inl (ap kind_of s.fault ∙ e)
          numbered (inr e) = inr (ap kind_of s.fault ∙ e)

  of_end : item_at capture at ≡ Item.end → EndItem capture at
  unfolding mended
  of_end e =
      record {
        kind = ap kind_of e;
        none_left = no_record.only_at_end capture at e;
        next = ap (λ (i : Item). place_after i at) e;
        next_mended = ap (λ (i : Item). place_behind (mended capture i at) at) e;
      }

  is-kind : (item : Item) → item_at capture at ≡ item → IsKind (kind_of item)
  is-kind (Item.found true start count) e = inr (inl refl)
  is-kind (Item.found false start count) e = inr (inr (inl refl))
  is-kind Item.end e = inl refl
  is-kind (Item.fault number) e = inr (inr (inr (fault_number capture at (sym e))))

  -- ---- and back

  record_of : (to_device : Bool) (item : Item) → item_at capture at ≡ item → kind_of item ≡ direction_kind to_device
      → item_at capture at ≡ Item.found to_device (at + 4) (next_at capture at - (at + 4))
  record_of to_device (Item.found d start count) e k =
      let r : RecordItem capture at d start count = of_record d start count e in
      let same : d ≡ to_device = direction_is d to_device (sym (kind_found d start count) ∙ k) in
      let counted : count ≡ next_at capture at - (at + 4) = omega (arith, r.begins, r.next) in
      e ∙ (λ i. Item.found (same i) (r.begins i) (counted i))
  record_of to_device Item.end e k = absurd (not_end to_device (sym k))
  record_of to_device (Item.fault number) e k = absurd (not_fault to_device (numbered (fault_number capture at (sym e))))
    where
      numbered : (number ≡ bad_mark) ⊎ (number ≡ cut_short) → (direction_kind to_device ≡ bad_mark) ⊎ (direction_kind to_device ≡ cut_short)
      numbered (inl n) = inl (sym k ∙ n)
      numbered (inr n) = inr (sym k ∙ n)

  passed_of : (item : Item) → item_at capture at ≡ item → (kind_of item ≡ bad_mark) ⊎ (kind_of item ≡ cut_short)
      → part_at capture at ≡ Part.passed at (mended_at capture at - at)
  unfolding mended
  passed_of (Item.found true start count) e k = absurd (not_fault true k)
  passed_of (Item.found false start count) e k = absurd (not_fault false k)
  passed_of Item.end e k = absurd (no_end k)
  passed_of (Item.fault number) e k =
      let p : part_at capture at ≡ mended capture (Item.fault number) at = ap (λ (i : Item). mended capture i at) e in
      let length_is : mended_at capture at ≡ place_behind (mended capture (Item.fault number) at) at = ap (λ (q : Part). place_behind q at) p in
      p ∙ ap (Part.passed at) (omega (arith, length_is))

  end_of : (item : Item) → item_at capture at ≡ item → kind_of item ≡ 0 → item_at capture at ≡ Item.end
  end_of (Item.found true start count) e k = absurd (not_end true k)
  end_of (Item.found false start count) e k = absurd (not_end false k)
  end_of Item.end e k = e
  end_of (Item.fault number) e k = absurd (no_end (numbered (fault_number capture at (sym e))))
    where
      numbered : (number ≡ bad_mark) ⊎ (number ≡ cut_short) → (0 ≡ bad_mark) ⊎ (0 ≡ cut_short)
      numbered (inl n) = inl (sym k ∙ n)
      numbered (inr n) = inr (sym k ∙ n)

-- ---- written

write_item : (toward : ℕ) (message buffer : List ℕ) (at : ℕ) → (capture_write_of toward message buffer at).answer ≡ 0
    → WrittenItem (fact toward) message (capture_write_of toward message buffer at).bytes at
unfolding capture_write_of
write_item toward message buffer at e = from (writing.written (fact toward) message buffer at e)
  where
    from : WrittenRecord (fact toward) message buffer at (write_at (fact toward) message buffer at)
        → WrittenItem (fact toward) message (write_at (fact toward) message buffer at).buffer at
    from w =
        let r = of_record (write_at (fact toward) message buffer at).buffer at (fact toward) (at + 4) (length message) w.read in
        record { kind = r.kind; content = w.message_read; next = r.next; next_mended = r.next_mended }

pub capture_items : CaptureItems
capture_items =
    record {
      kinds = λ capture at. is-kind capture at (item_at capture at) refl;
      of_record = of_record;
      of_passed = of_passed;
      of_end = of_end;
      record_of = λ capture at to_device. record_of capture at to_device (item_at capture at) refl;
      passed_of = λ capture at. passed_of capture at (item_at capture at) refl;
      end_of = λ capture at. end_of capture at (item_at capture at) refl;
      written = write_item;
    }
