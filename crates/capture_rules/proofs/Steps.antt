-- What stands at a place, from the tests in their order; and what is known of a record that is found, and of a number. Assumes nothing.
use Prim.Native.Nat.{ℕ, ◌+◌, ◌≤◌, ◌<◌}
use native.Mathlib.Omega.{arith}
use mathlib.Core.Path.{◌≡◌, refl, sym, ◌∙◌, ap}
use mathlib.Core.Bool.{Bool, true, false, ◌&&◌, not, false≢true}
use mathlib.Core.List.{List}
use mathlib.Core.Logic.{◌⊎◌, inl, inr}
use lib.Dec.{eqb, ltb}
use lib.ListN.{length}
use borrow.Author.Tests.{leb-true, le-leb, lt-leb, lt-ltb, le-ltb, eq-eqb, ne_eqb, ltb-false, eqb-true, not-false}
use Rattle.basis.specs.Numbers.{bad_mark, cut_short}
use Rattle.basis.proofs.Choosing.{pick_yes, pick_no, by_cases}
use Rattle.capture_rules.specs.Capture.{Item, Walk, mark_of, header_length, mark_at, length_at, left, wrong_mark, item_at, place_after, goes_on, walk_at}

module _ (capture : List ℕ) (at : ℕ) where
  pub ends : length capture ≤ at → Item.end ≡ item_at capture at
  unfolding item_at
  ends none = sym (pick_yes _ _ _ (le-leb _ _ none))

  module _ (some : at < length capture) where
    pub one_left : left capture at ≡ 1 → Item.fault 21 ≡ item_at capture at
    unfolding item_at
    one_left one = sym (pick_no _ _ _ (lt-leb _ _ some) ∙ pick_yes _ _ _ (eq-eqb _ _ one))

    module _ (more : left capture at ≡ 1 → ⊥) {mark : ℕ} (read : mark ≡ mark_at capture at) where
      pub wrong_mark_lem : wrong_mark mark ≡ true → Item.fault 20 ≡ item_at capture at
      unfolding item_at
      wrong_mark_lem wrong =
          sym (pick_no _ _ _ (lt-leb _ _ some) ∙ pick_no _ _ _ (ne_eqb _ _ more) ∙ pick_yes _ _ _ (ap wrong_mark (sym read) ∙ wrong))

      module _ (right : wrong_mark mark ≡ false) {count : ℕ} (counted : count ≡ length_at capture at) where
        pub cut_short_lem : left capture at < header_length + count → Item.fault 21 ≡ item_at capture at
        unfolding item_at
        cut_short_lem short =
            sym (pick_no _ _ _ (lt-leb _ _ some) ∙ pick_no _ _ _ (ne_eqb _ _ more) ∙ pick_no _ _ _ (ap wrong_mark (sym read) ∙ right)
            ∙ pick_yes _ _ _ (ap (λ (n : ℕ). ltb (left capture at) (header_length + n)) (sym counted) ∙ lt-ltb _ _ short))

        pub found : header_length + count ≤ left capture at → Item.found (eqb mark (mark_of true)) (at + header_length) count ≡ item_at capture at
        unfolding item_at
        found whole =
            rw (read, counted) (sym (pick_no _ _ _ (lt-leb _ _ some) ∙ pick_no _ _ _ (ne_eqb _ _ more) ∙ pick_no _ _ _ (ap wrong_mark (sym read) ∙ right)
            ∙ pick_no _ _ _ (ap (λ (n : ℕ). ltb (left capture at) (header_length + n)) (sym counted) ∙ le-ltb _ _ whole)))

-- a step of what stands at a place, and of the place that follows from it
pub steps : (capture : List ℕ) (at : ℕ) {item : Item} {next : ℕ} → item ≡ item_at capture at → next ≡ place_after item at
    → ◌≡◌ {A = Walk} (record { item = item; at = next }) (walk_at capture at)
steps capture at {item} {next} e p =
    let q : next ≡ place_after (item_at capture at) at = p ∙ ap (λ (i : Item). place_after i at) e in
    λ i. record { item = e i; at = q i }

-- a mark that isn't wrong is one of the two
mark_is : (mark : ℕ) → wrong_mark mark ≡ false → mark ≡ mark_of (eqb mark (mark_of true))
unfolding wrong_mark
mark_is mark = by-test (eqb mark (mark_of true)) refl
  where
    by-test : (t : Bool) → eqb mark (mark_of true) ≡ t → (not t && not (eqb mark (mark_of false))) ≡ false → mark ≡ mark_of t
    by-test true e right = eqb-true mark (mark_of true) e
    by-test false e right = eqb-true mark (mark_of false) (not-false (eqb mark (mark_of false)) right)

-- a record that is found: its mark and length WORD stand at the place, and its message behind them, within the capture
pub record Found (capture : List ℕ) (at : ℕ) (to_device : Bool) (start count : ℕ) : Type 0 where
  pub mark : mark_at capture at ≡ mark_of to_device
  pub counted : length_at capture at ≡ count
  pub behind : start ≡ at + header_length
  pub within : start + count ≤ length capture

module _ {to_device : Bool} {start count : ℕ} where
  no_end : {A : Type 0} → Item.end ≡ Item.found to_device start count → A
  no_end e = let z : ◌≡◌ {A = ℕ} 0 1 = cc in absurd (omega arith)

  no-fault : {A : Type 0} {number : ℕ} → Item.fault number ≡ Item.found to_device start count → A
  no-fault e = let z : ◌≡◌ {A = ℕ} 0 1 = cc in absurd (omega arith)

  whole : (capture : List ℕ) (at mark n : ℕ) → mark_at capture at ≡ mark → length_at capture at ≡ n → wrong_mark mark ≡ false
      → header_length + n ≤ left capture at
      → Item.found (eqb mark (mark_of true)) (at + header_length) n ≡ Item.found to_device start count → Found capture at to_device start count
  whole capture at mark n read counted right fits e =
      let d : eqb mark (mark_of true) ≡ to_device = cc in
      let s : at + header_length ≡ start = cc in
      let m : n ≡ count = cc in
      record { mark = read ∙ mark_is mark right ∙ ap mark_of d; counted = counted ∙ m; behind = sym s; within = omega arith }

  pub is_found : (capture : List ℕ) (at : ℕ) → item_at capture at ≡ Item.found to_device start count → Found capture at to_device start count
  unfolding item_at
  is_found capture at =
      by_cases P (λ _. no_end) (λ some. by_cases P (λ _. no-fault) (λ _. by_cases P (λ _. no-fault) (λ right. by_cases P (λ _. no-fault) (λ fits.
      whole capture at _ _ refl refl right (ltb-false _ _ fits)))))
    where
      P : Item → Type 0
      P item = item ≡ Item.found to_device start count → Found capture at to_device start count

-- the end is given at the end, or past it
pub is_end : (capture : List ℕ) (at : ℕ) → Item.end ≡ item_at capture at → length capture ≤ at
unfolding item_at
is_end capture at =
    by_cases P (λ none _. leb-true _ _ none) (λ _. by_cases P (λ _. no) (λ _. by_cases P (λ _. no) (λ _. by_cases P (λ _. no) (λ _. not_found))))
  where
    P : Item → Type 0
    P item = Item.end ≡ item → length capture ≤ at

    no : {A : Type 0} {number : ℕ} → Item.end ≡ Item.fault number → A
    no e = let z : ◌≡◌ {A = ℕ} 0 1 = cc in absurd (omega arith)

    not_found : {A : Type 0} {to_device : Bool} {start count : ℕ} → Item.end ≡ Item.found to_device start count → A
    not_found e = let z : ◌≡◌ {A = ℕ} 0 1 = cc in absurd (omega arith)

-- where there is none, a number is 20 or 21
pub fault_number : (capture : List ℕ) (at : ℕ) {number : ℕ} → Item.fault number ≡ item_at capture at → (number ≡ bad_mark) ⊎ (number ≡ cut_short)
unfolding item_at
fault_number capture at {number} =
    by_cases P (λ _ e. let z : ◌≡◌ {A = ℕ} 0 1 = cc in absurd (omega arith)) (λ _. by_cases P (λ _ e. inr cc) (λ _. by_cases P (λ _ e. inl cc) (λ _.
    by_cases P (λ _ e. inr cc) (λ _ e. let z : ◌≡◌ {A = ℕ} 0 1 = cc in absurd (omega arith)))))
  where
    P : Item → Type 0
    P item = Item.fault number ≡ item → (number ≡ bad_mark) ⊎ (number ≡ cut_short)

-- a record takes four bytes or more, and ends within the capture
pub record Past (capture : List ℕ) (at next : ℕ) : Type 0 where
  pub past : at + header_length ≤ next
  pub within : next ≤ length capture

pub past_record : (capture : List ℕ) (at : ℕ) (item : Item) → item_at capture at ≡ item → goes_on item ≡ true → Past capture at (place_after item at)
unfolding goes_on
past_record capture at (Item.found to_device start count) e m =
    let f : Found capture at to_device start count = is_found capture at e in record { past = omega (arith, f.behind); within = f.within }
past_record capture at Item.end e m = absurd (false≢true m)
past_record capture at (Item.fault number) e m = absurd (false≢true m)
