-- Laws of `pick`, of tests joined by `&&`, and of refusals in order. Assumes nothing.
use Prim.Native.Nat.{ℕ, suc, ◌≤◌}
use native.Mathlib.Omega.{arith}
use mathlib.Core.Path.{◌≡◌, refl, sym, ◌∙◌}
use mathlib.Core.Bool.{Bool, true, false, ◌&&◌, ◌||◌, false≢true, true≢false}
use mathlib.Core.Logic.{◌⊎◌, inl, inr}
use mathlib.Core.List.{List, [], ◌∷◌}
use lib.Dec.{eqb, leb}
use borrow.Author.Tests.{leb-true, leb-false, eqb-true, eqb-false}
use Rattle.basis.specs.Choice.{pick, refusal, one_of}

module _ {ℓ} {A : Type ℓ} where
  pub pick_yes : (t : Bool) (a b : A) → t ≡ true → pick t a b ≡ a
  unfolding pick
  pick_yes true a b e = refl
  pick_yes false a b e = absurd (false≢true e)

  pub pick_no : (t : Bool) (a b : A) → t ≡ false → pick t a b ≡ b
  unfolding pick
  pick_no true a b e = absurd (true≢false e)
  pick_no false a b e = refl

-- what holds of the first where the test holds, and of the second where it fails, holds of the pick
pub by_cases {ℓ κ} : {A : Type ℓ} (P : A → Type κ) {t : Bool} {a b : A} → (t ≡ true → P a) → (t ≡ false → P b) → P (pick t a b)
unfolding pick
by_cases P {t = true} f g = f refl
by_cases P {t = false} f g = g refl

pub pick_of : {A B : Type 0} (f : A → B) (t : Bool) (a b : A) → pick t (f a) (f b) ≡ f (pick t a b)
unfolding pick
pick_of f true a b = refl
pick_of f false a b = refl

pub and_left : (a b : Bool) → (a && b) ≡ true → a ≡ true
and_left true b e = refl
and_left false b e = e

pub and_right : (a b : Bool) → (a && b) ≡ true → b ≡ true
and_right true b e = e
and_right false b e = absurd (false≢true e)

pub and_both : {a b : Bool} → a ≡ true → b ≡ true → (a && b) ≡ true
and_both {a = true} p q = q
and_both {a = false} p q = absurd (false≢true p)

pub and_true : (a : Bool) → (a && true) ≡ a
and_true true = refl
and_true false = refl

pub or_either : (a b : Bool) → (a || b) ≡ true → (a ≡ true) ⊎ (b ≡ true)
or_either true b e = inl refl
or_either false b e = inr e

-- two comparisons that hold together
pub leb_alike : (a b c d : ℕ) → (a ≤ b → c ≤ d) → (c ≤ d → a ≤ b) → leb a b ≡ leb c d
leb_alike a b c d f g = go (leb a b) refl (leb c d) refl
  where
    go : (t : Bool) → leb a b ≡ t → (u : Bool) → leb c d ≡ u → t ≡ u
    go true e true h = refl
    go true e false h = let l : c ≤ d = f (leb-true a b e) in absurd (omega (arith, leb-false c d h))
    go false e true h = let l : a ≤ b = g (leb-true c d h) in absurd (omega (arith, leb-false a b e))
    go false e false h = refl

-- the first test passes, or gives its number
pub passes : (n : ℕ) (t : Bool) (ts : List (ℕ × Bool)) → t ≡ true → refusal ((n, t) ∷ ts) ≡ refusal ts
unfolding refusal
passes n t ts e = pick_yes t (refusal ts) n e

pub fails : (n : ℕ) (t : Bool) (ts : List (ℕ × Bool)) → t ≡ false → refusal ((n, t) ∷ ts) ≡ n
unfolding refusal
fails n t ts e = pick_no t (refusal ts) n e

-- no refusal: the first test passed, and so did the others
pub passed : (n : ℕ) (t : Bool) (ts : List (ℕ × Bool)) → refusal ((suc n, t) ∷ ts) ≡ 0 → (t ≡ true) × (refusal ts ≡ 0)
unfolding refusal pick
passed n true ts e = (refl, e)
passed n false ts e = absurd (omega (arith, e))

-- a refusal is 0 or the number of a test: what holds of all these holds of it
abbrev pub Each : (ℕ → Type 0) → List (ℕ × Bool) → Type 0
Each P [] = Unit
Each P (t ∷ ts) = P t.0 × Each P ts

pub refusal_among : (P : ℕ → Type 0) (ts : List (ℕ × Bool)) → P 0 → Each P ts → P (refusal ts)
unfolding refusal
refusal_among P [] z e = z
refusal_among P (t ∷ ts) z e = by_cases P (λ _. refusal_among P ts z e.1) (λ _. e.0)

-- where a test of them fails, the tests are not passed, and the choice is what a refusal leads to
pub by_refusal : {A : Type 0} (P : A → Type 0) (n : ℕ) (a b : A) {t : Bool} → t ≡ false → (n ≡ 0 → t ≡ true) → ((n ≡ 0 → ⊥) → P b)
    → P (pick (eqb n 0) a b)
by_refusal P n a b f pass p =
    by_cases P (λ z. absurd (true≢false (sym (pass (eqb-true n 0 z)) ∙ f))) (λ z. p (eqb-false n 0 z))

-- what holds of each of some numbers holds of one of them
abbrev pub Every : (ℕ → Type 0) → List ℕ → Type 0
Every P [] = Unit
Every P (n ∷ ns) = P n × Every P ns

pub one_of_every : (P : ℕ → Type 0) (x : ℕ) (ns : List ℕ) → one_of x ns ≡ true → Every P ns → P x
unfolding one_of
one_of_every P x [] e h = absurd (false≢true e)
one_of_every P x (n ∷ ns) e h = here (eqb x n) refl e (λ k. one_of_every P x ns k h.1)
  where
    here : (t : Bool) → eqb x n ≡ t → (t || one_of x ns) ≡ true → (one_of x ns ≡ true → P x) → P x
    here true q e later = rw (eqb-true x n q) h.0
    here false q e later = later e
