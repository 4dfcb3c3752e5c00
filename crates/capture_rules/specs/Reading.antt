-- A capture read to its end: what the walker gives from a place on (01, "Capture and replay"). Each record passes a byte, so that there are
-- fewer records than `most`. Assumes nothing.
use Rattle.std.specs.Prelude.{ℕ, zero, suc, ◌+◌, Bool, true, false, List, [], ◌∷◌, length}
use Rattle.capture_rules.specs.Capture.{Item, item_at, part_of}

-- the walker comes to the end, with no 20 or 21 before it
abbrev pub ending : Item → (ℕ → Bool) → Bool
ending (Item.found to_device start count) next = next (start + count)
ending Item.end next = true
ending (Item.fault number) next = false

unfoldable pub ends_from : (capture : List ℕ) (most at : ℕ) → Bool
ends_from capture zero at = false
ends_from capture (suc most) at = ending (item_at capture at) (λ next. ends_from capture most next)

unfoldable pub reads_to_end : (capture : List ℕ) → Bool
reads_to_end capture = ends_from capture (suc (length capture)) 0

-- its records, of each whether it goes toward the device, and its message: one, and those from the place behind it on; none from the end on, nor
-- from 20 or 21
abbrev pub record_then : (capture : List ℕ) → Item → (ℕ → List (Bool × List ℕ)) → List (Bool × List ℕ)
record_then capture (Item.found to_device start count) next = (to_device, part_of capture start count) ∷ next (start + count)
record_then capture Item.end next = []
record_then capture (Item.fault number) next = []

unfoldable pub records_from : (capture : List ℕ) (most at : ℕ) → List (Bool × List ℕ)
records_from capture zero at = []
records_from capture (suc most) at = record_then capture (item_at capture at) (λ next. records_from capture most next)

unfoldable pub records_of : (capture : List ℕ) → List (Bool × List ℕ)
records_of capture = records_from capture (suc (length capture)) 0
