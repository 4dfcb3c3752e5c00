-- The number by which `text_from` recurses cuts nothing off: more turns than the bytes of a capture print nothing more. Assumes nothing.
use Prim.Native.Nat.{ℕ, zero, suc, ◌+◌, ◌≤◌, ◌<◌}
use native.Mathlib.Nat.{suc-add}
use native.Mathlib.Omega.{arith}
use mathlib.Core.Path.{◌≡◌, refl, ap}
use mathlib.Core.Bool.{Bool, true, false}
use mathlib.Core.List.{List, [], ◌++◌}
use lib.ListN.{length}
use Rattle.basis.specs.Choice.{pick}
use Rattle.device_rules.specs.Rules.{After}
use Rattle.capture_rules.specs.Capture.{item_at, place_after, goes_on}
use Rattle.capture_rules.proofs.Steps.{ends, Past, past_record}
use Rattle.transcript.specs.Transcript.{after, printed, text_from}

-- nothing is printed at the end, however many turns are left
at_end : (capture : List ℕ) (most number at : ℕ) (s : After) → length capture ≤ at → text_from capture most number at s ≡ []
unfolding text_from after printed goes_on pick
at_end capture zero number at s h = refl
at_end capture (suc most) number at s h = rw (← ends capture at h)

same_if : (t : Bool) {a b : List ℕ} → (t ≡ true → a ≡ b) → pick t a [] ≡ pick t b []
unfolding pick
same_if true e = e refl
same_if false e = refl

-- from a place on: as many turns as there are bytes left, and one for the end
enough : (capture : List ℕ) (most more number at : ℕ) (s : After) → length capture < at + most → text_from capture (most + more) number at s
    ≡ text_from capture most number at s
unfolding text_from
enough capture zero more number at s h = at_end capture (0 + more) number at s (omega arith)
enough capture (suc most) more number at s h =
    rw (suc-add most more) (ap (λ (l : List ℕ). printed number (item_at capture at) (after capture (item_at capture at) s) ++ l)
    (same_if (goes_on (item_at capture at)) (λ t. let p : Past capture at (place_after (item_at capture at) at) = past_record capture at
    (item_at capture at) refl t in
    enough capture most more (number + 1) (place_after (item_at capture at) at) (after capture (item_at capture at) s) (omega (arith, p.past)))))

pub turns_enough : (capture : List ℕ) (more : ℕ) (s : After) → text_from capture (suc (length capture) + more) 0 0 s
    ≡ text_from capture (suc (length capture)) 0 0 s
turns_enough capture more s = enough capture (suc (length capture)) more 0 0 s (omega arith)
