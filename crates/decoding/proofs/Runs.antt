-- The lines that are printed one after the other are those of the reader's items. Assumes nothing.
use Rattle.std.proofs.Common.{◌≡◌, ℕ, zero, suc, ◌+◌, refl, ap, List, [], ◌++◌, Result}
use Rattle.basis.specs.Choice.{pick}
use Rattle.capture_rules.specs.Capture.{Item, item_at, place_after, goes_on}
use Rattle.capture.specs.Items.{Entry, item_then, items_from}
use Rattle.decoding_rules.specs.Decode.{line_text, lines_from}
use Rattle.decoding.specs.Items.{items_text}

module _ (capture : List ℕ) where
  line_then : (item : Item) (at : ℕ) (f : ℕ → List ℕ) (g : ℕ → List (Result Entry (ℕ × ℕ))) → ((next : ℕ) → f next ≡ items_text (g next))
      → line_text capture at item ++ pick (goes_on item) (f (place_after item at)) [] ≡ items_text (item_then capture item at g)
  unfolding line_text goes_on pick items_text
  line_then (Item.found d s c) at f g e = ap (λ t. line_text capture at (Item.found d s c) ++ t) (e (s + c))
  line_then Item.end at f g e = refl
  line_then (Item.fault n) at f g e = refl

  pub lines_are : (most at : ℕ) → lines_from capture most at ≡ items_text (items_from capture most at)
  unfolding lines_from items_from items_text
  lines_are zero at = refl
  lines_are (suc most) at = line_then (item_at capture at) at (lines_from capture most) (items_from capture most) (lines_are most)
