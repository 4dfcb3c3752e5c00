-- A version text: its front and its zeros in the words of std, and the whole rule. Assumes nothing.
use Rattle.std.proofs.Common.{◌≡◌, ◌+◌, ◌≤◌, ◌<◌, ℕ, suc, Bool, true, false, cond, List, [], ◌∷◌, length, drop, refl, ap, ◌∙◌, ◌==◌, ◌&&◌, arith}
use Rattle.std.specs.List.{list_all, prefix_len}
use Rattle.std.proofs.lemmas.Bool.{eq-eqb, le-leb, lt-leb}
use Rattle.basis.specs.Choice.{pick}
use Rattle.message.specs.Version.{version_character, front, all_zero, good_version}

one_more : (b : Bool) (m n : ℕ) → m ≡ n → cond b (1 + m) 0 ≡ pick b (suc n) 0
unfolding pick
one_more true m n e = omega arith
one_more false m n e = refl

pub front_is : (bs : List ℕ) → prefix_len version_character bs ≡ front bs
unfolding front
front_is [] = refl
front_is (b ∷ bs) = one_more (version_character b) _ _ (front_is bs)

zero_is : (bs : List ℕ) → list_all (λ b. b == 0) bs ≡ all_zero bs
unfolding all_zero
zero_is [] = refl
zero_is (b ∷ bs) = ap (λ r. (b == 0) && r) (zero_is bs)

within_one : (b : Bool) (m n : ℕ) → m ≤ n → cond b (1 + m) 0 ≤ suc n
within_one true m n e = omega arith
within_one false m n e = omega arith

-- the text lies within its bytes
pub within : (bs : List ℕ) → prefix_len version_character bs ≤ length bs
within [] = omega arith
within (b ∷ bs) = within_one (version_character b) _ _ (within bs)

pub front_within : (bs : List ℕ) → front bs ≤ length bs
front_within bs = rw (← front_is bs) (within bs)

-- the rule, where n characters stand in front of 16 bytes
pub good_when : (bs : List ℕ) (n : ℕ) → length bs ≡ 16 → n ≡ prefix_len version_character bs → 1 ≤ n
    → good_version bs ≡ list_all (λ b. b == 0) (drop n bs)
unfolding good_version
good_when bs n e f h =
    let g : n ≡ front bs = f ∙ front_is bs in
    rw (eq-eqb (length bs) 16 e, ← g, le-leb 1 n h, zero_is (drop n bs)) refl

pub none_when : (bs : List ℕ) (n : ℕ) → length bs ≡ 16 → n ≡ prefix_len version_character bs → n < 1 → good_version bs ≡ false
unfolding good_version
none_when bs n e f h =
    let g : n ≡ front bs = f ∙ front_is bs in
    rw (eq-eqb (length bs) 16 e, ← g, lt-leb 1 n h) refl
