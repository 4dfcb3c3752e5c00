-- The items of a capture, one after the other. Assumes nothing.
use Rattle.std.proofs.Common.{◌≡◌, ℕ, zero, suc, ◌+◌, ◌-◌, ◌*◌, ◌≤◌, ◌<◌, sym, refl, ◌∙◌, ap, Bool, List, [], ◌∷◌, length, arith, Ok, Err, Result}
use Rattle.capture_rules.specs.Capture.{Item, item_at}
use Rattle.capture_rules.specs.Mending.{Part, part_at, mended, resume_at}
use Rattle.capture_rules.proofs.Steps.{ends, is_found}
use Rattle.capture_rules.proofs.Mends.{first_above}
use Rattle.capture.specs.Items.{Entry, entry_of, item_then, items_from, items, part_then, pieces_from, pieces}
use Rattle.capture.proofs.Steps.{span_within}

-- ---- enough fuel is enough

same_then : (capture : List ℕ) (at : ℕ) (f g : ℕ → List (Result Entry (ℕ × ℕ))) → ((next : ℕ) → at < next → f next ≡ g next)
    → (item : Item) → item ≡ item_at capture at → item_then capture item at f ≡ item_then capture item at g
same_then capture at f g agree (Item.found d s c) e = ap (λ ys. Ok (entry_of capture at d s c) ∷ ys) (agree (s + c) (span_within capture at d s c e).0)
same_then capture at f g agree Item.end e = refl
same_then capture at f g agree (Item.fault n) e = refl

past : (capture : List ℕ) (at : ℕ) (f : ℕ → List (Result Entry (ℕ × ℕ))) → length capture ≤ at → item_then capture (item_at capture at) at f ≡ []
past capture at f h = ap (λ i. item_then capture i at f) (sym (ends capture at h))

pub enough : (capture : List ℕ) (n m at : ℕ) → length capture < at + n → length capture < at + m → items_from capture n at ≡ items_from capture m at
unfolding items_from
enough capture zero zero at h k = refl
enough capture zero (suc m) at h k = sym (past capture at _ (omega arith))
enough capture (suc n) zero at h k = past capture at _ (omega arith)
enough capture (suc n) (suc m) at h k =
    same_then capture at _ _ (λ next lt. enough capture n m next (omega arith) (omega arith)) (item_at capture at) refl

items_step : (capture : List ℕ) (at : ℕ) → items capture at ≡ item_then capture (item_at capture at) at (items capture)
unfolding items_from
items_step capture at =
    same_then capture at _ _ (λ next lt. enough capture (length capture) (suc (length capture)) next (omega arith) (omega arith)) (item_at capture at) refl

-- ---- the reader's next item

pub items_found : (capture : List ℕ) (at : ℕ) (d : Bool) (s c : ℕ) → Item.found d s c ≡ item_at capture at
    → items capture at ≡ Ok (entry_of capture at d s c) ∷ items capture (s + c)
items_found capture at d s c e = items_step capture at ∙ ap (λ i. item_then capture i at (items capture)) (sym e)

pub items_end : (capture : List ℕ) (at : ℕ) → Item.end ≡ item_at capture at → items capture at ≡ []
items_end capture at e = items_step capture at ∙ ap (λ i. item_then capture i at (items capture)) (sym e)

pub items_behind : (capture : List ℕ) → items capture (length capture) ≡ []
items_behind capture = items_end capture (length capture) (ends capture (length capture) (omega arith))

pub items_fault : (capture : List ℕ) (at number : ℕ) → Item.fault number ≡ item_at capture at
    → items capture at ≡ Err (at, number) ∷ items capture (length capture)
items_fault capture at number e =
    items_step capture at ∙ ap (λ i. item_then capture i at (items capture)) (sym e) ∙ ap (λ ys. Err (at, number) ∷ ys) (sym (items_behind capture))

-- ---- how many they are: a record has four bytes or more, and a fault is the last

most_then : (capture : List ℕ) (at : ℕ) (more : ℕ → List (Result Entry (ℕ × ℕ))) (item : Item) → item ≡ item_at capture at
    → ((next : ℕ) → 4 * length (more next) ≤ (length capture - next) + 4) → 4 * length (item_then capture item at more) ≤ (length capture - at) + 4
most_then capture at more (Item.found d s c) e most =
    let f = is_found capture at (sym e) in omega (arith, f.behind, f.within, most (s + c))
most_then capture at more Item.end e most = omega arith
most_then capture at more (Item.fault n) e most = omega arith

most_from : (capture : List ℕ) (most at : ℕ) → 4 * length (items_from capture most at) ≤ (length capture - at) + 4
unfolding items_from
most_from capture zero at = omega arith
most_from capture (suc most) at = most_then capture at (items_from capture most) (item_at capture at) refl (most_from capture most)

pub items_most : (capture : List ℕ) → 4 * length (items capture 0) ≤ length capture + 4
items_most capture = omega (arith, most_from capture (suc (length capture)) 0)

-- ---- the same of the mending reader

same_part : (capture : List ℕ) (at : ℕ) (f g : ℕ → List (Result Entry (ℕ × ℕ))) → ((next : ℕ) → at < next → f next ≡ g next)
    → (part : Part) → part ≡ part_at capture at → part_then capture part at f ≡ part_then capture part at g
unfolding mended
same_part capture at f g agree = by_item (item_at capture at) refl
  where
    by_item : (item : Item) → item ≡ item_at capture at → (part : Part) → part ≡ mended capture item at
        → part_then capture part at f ≡ part_then capture part at g
    by_item (Item.found d s c) e part p = rw p (ap (λ ys. Ok (entry_of capture at d s c) ∷ ys) (agree (s + c) (span_within capture at d s c e).0))
    by_item Item.end e part p = rw p refl
    by_item (Item.fault n) e part p =
        rw p (ap (λ ys. Err (at, resume_at capture at - at) ∷ ys) (agree (at + (resume_at capture at - at))
        (omega (arith, first_above capture (length capture - (at + 1)) (at + 1)))))

past_part : (capture : List ℕ) (at : ℕ) (f : ℕ → List (Result Entry (ℕ × ℕ))) → length capture ≤ at → part_then capture (part_at capture at) at f ≡ []
unfolding mended
past_part capture at f h = ap (λ i. part_then capture (mended capture i at) at f) (sym (ends capture at h))

pub enough_parts : (capture : List ℕ) (n m at : ℕ) → length capture < at + n → length capture < at + m → pieces_from capture n at ≡ pieces_from capture m at
unfolding pieces_from
enough_parts capture zero zero at h k = refl
enough_parts capture zero (suc m) at h k = sym (past_part capture at _ (omega arith))
enough_parts capture (suc n) zero at h k = past_part capture at _ (omega arith)
enough_parts capture (suc n) (suc m) at h k =
    same_part capture at _ _ (λ next lt. enough_parts capture n m next (omega arith) (omega arith)) (part_at capture at) refl

pub pieces_step : (capture : List ℕ) (at : ℕ) → pieces capture at ≡ part_then capture (part_at capture at) at (pieces capture)
unfolding pieces_from
pieces_step capture at =
    same_part capture at _ _ (λ next lt. enough_parts capture (length capture) (suc (length capture)) next (omega arith) (omega arith))
    (part_at capture at) refl

pub pieces_found : (capture : List ℕ) (at : ℕ) (d : Bool) (s c : ℕ) → Part.found d s c ≡ part_at capture at
    → pieces capture at ≡ Ok (entry_of capture at d s c) ∷ pieces capture (s + c)
pieces_found capture at d s c e = pieces_step capture at ∙ ap (λ i. part_then capture i at (pieces capture)) (sym e)

pub pieces_passed : (capture : List ℕ) (at : ℕ) (s c : ℕ) → Part.passed s c ≡ part_at capture at
    → pieces capture at ≡ Err (s, c) ∷ pieces capture (s + c)
pieces_passed capture at s c e = pieces_step capture at ∙ ap (λ i. part_then capture i at (pieces capture)) (sym e)

pub pieces_end : (capture : List ℕ) (at : ℕ) → Part.end ≡ part_at capture at → pieces capture at ≡ []
pieces_end capture at e = pieces_step capture at ∙ ap (λ i. part_then capture i at (pieces capture)) (sym e)
