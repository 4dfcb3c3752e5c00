-- What the code's answers mean. Assumes nothing.
use Rattle.std.specs.Prelude.{ℕ, List, Option, Some, None, Result, Ok, Err}
use Rattle.capture.specs.declared.damage.Damage.{Damage}
use Rattle.capture.specs.declared.damage.Damage.TheVariants.{BadMark, CutShort}
use Rattle.basis.specs.declared.refusal.Refusal.{Refusal}
use Rattle.basis.specs.declared.refusal.Refusal.TheVariants as refusals
use Rattle.capture.specs.declared.Span.{Span}
use Rattle.capture.specs.declared.Walked.{Walked}
use Rattle.capture.specs.declared.mend.Stretch.{Stretch}
use Rattle.capture.specs.declared.mend.Mended.{Mended}
use Rattle.basis.specs.Numbers.{handled, bad_mark, cut_short}
use Rattle.basis.specs.Refusals as of_refusals
use Rattle.capture_rules.specs.Capture.{Item, Walk}
use Rattle.capture_rules.specs.Writing.{Wrote}
use Rattle.capture_rules.specs.Mending.{Part, Mend}

-- 20 or 21
abbrev pub number_of : Damage → ℕ
number_of BadMark = bad_mark
number_of CutShort = cut_short

abbrev pub refusal_of : Damage → Refusal
refusal_of BadMark = refusals.BadMark
refusal_of CutShort = refusals.CutShort

-- a record's values, the end, and 20 or 21
abbrev pub item_of : Result (Option Span) Damage → Item
item_of (Ok (Some s)) = Item.found s.to_device s.start s.length
item_of (Ok None) = Item.end
item_of (Err d) = Item.fault (number_of d)

abbrev pub told : Walked → Walk
told w = record { item = item_of w.step; at = w.at }

-- a writer's answer, with the buffer that it left: the place behind the record, or the number of the refusal, and the place stands
abbrev pub wrote : Result ℕ Refusal → (at : ℕ) → List ℕ → Wrote
wrote (Ok behind) at buffer = record { number = handled; at = behind; buffer = buffer }
wrote (Err refusal) at buffer = record { number = of_refusals.number_of refusal; at = at; buffer = buffer }

-- what the mending walker's answers mean
abbrev pub part_of_code : Option (Result Span Stretch) → Part
part_of_code (Some (Ok s)) = Part.found s.to_device s.start s.length
part_of_code (Some (Err s)) = Part.passed s.start s.length
part_of_code None = Part.end

abbrev pub mend_told : Mended → Mend
mend_told m = record { part = part_of_code m.part; at = m.at }
