-- What the check cannot see at a distance of thirteen bytes, or a multiple of it: exchanged bytes, blocks and fragments, one number in both
-- bytes, a blank block put in. Assumes nothing.
use Prim.Native.Nat.{ℕ, suc, ◌+◌, ◌*◌, ◌<◌, ◌≤◌}
use native.Mathlib.Nat.{one-mul, suc-mul, add-mul}
use native.Mathlib.Omega.{arith}
use mathlib.Core.Logic.{◌≢◌}
use mathlib.Core.Path.{◌≡◌, refl, sym, ◌∙◌, ap, ap₂}
use mathlib.Core.List.{List, [], ◌∷◌, ◌++◌, append_assoc}
use lib.Bits.{bit_xor, xor_comm, xor_self, xor_zero_l, xor_zero_r}
use lib.ListN.{length, take, drop, get_or, set, take-append-drop, length-append, length-take, length-drop, length-set}
use lib.Seq.{set_at, split_at, get_or-drop, drop-drop, drop-cons, set-append_left}
use Rattle.basis.specs.Choice.{pick}
use Rattle.checksum.specs.Check.{doubled, entry_of, step, register, check_of, zeroed, message_check}
use Rattle.checksum.specs.Inner.{pushed}
use Rattle.unseen.specs.Unseen.{fragments_exchanged, Blank, Unseen}
use Rattle.checksum.proofs.Xor.{xor_exchange}
use Rattle.checksum.proofs.Register.{register_append}
use Rattle.checksum.proofs.Linear.{pushed_linear, entered, step_is, step_zero}
use Rattle.checksum.proofs.Folding.{pushes, register_first, settled_check, pushed_periods, overlaid, pushed_both}
use Rattle.unseen.proofs.Neighbours.{zeroed_set, zeroed_get_d, length_zeroed}

-- ---- two blocks of one length, at a distance of thirteens, and a byte behind them

module _ (before between rest : List ℕ) (b n : ℕ) where
  -- of the two the check sees what they are laid over each other
  abbrev seen : List ℕ → ℕ
  seen both =
      register (bit_xor (bit_xor (pushed (register 0 both)) (pushed (pushes n (register (pushes n (register 0 before)) between)))) (entered b)) rest

  check-sees : (first second : List ℕ) (k : ℕ) → length first ≡ n → length second ≡ n → length between + n ≡ 13 * k
      → check_of (before ++ (first ++ (between ++ (second ++ (b ∷ rest))))) ≡ seen (overlaid first second)
  unfolding check_of register
  check-sees first second k e f far =
      let regrouped : before ++ (first ++ (between ++ (second ++ (b ∷ rest)))) ≡ before ++ ((first ++ (between ++ second)) ++ (b ∷ rest)) =
      simp append_assoc in
      ap (register 0) regrouped
      ∙ register_append before ((first ++ (between ++ second)) ++ (b ∷ rest)) 0
      ∙ register_append (first ++ (between ++ second)) (b ∷ rest) (register 0 before)
      ∙ ap (λ (z : ℕ). register z rest) (step_is _ b
      ∙ ap (λ (z : ℕ). bit_xor z (entered b)) (rw (e, f) at (pushed_both (register 0 before) first between second k (e ∙ sym f) (omega arith))))

-- ---- two bytes of a list

-- a list with two of its elements named
record Two (m : List ℕ) (i j : ℕ) : Type 0 where
  pub before : List ℕ
  pub between : List ℕ
  pub near : length before ≡ i
  pub far : length before + suc (length between) ≡ j
  pub whole : m ≡ before ++ (get_or m i 0 ∷ (between ++ (get_or m j 0 ∷ drop (suc j) m)))

-- both set
two_set : (m : List ℕ) (i j : ℕ) (t : Two m i j) (x y : ℕ) → set (set m i x) j y ≡ t.before ++ (x ∷ (t.between ++ (y ∷ drop (suc j) m)))
two_set m i j t x y =
    ap (λ (l : List ℕ). set (set l i x) j y) t.whole
    ∙ ap (λ (l : List ℕ). set l j y) (set_at t.before (get_or m i 0) _ x i t.near)
    ∙ ap (λ (l : List ℕ). set l j y) (sym (append_assoc t.before (x ∷ t.between) (get_or m j 0 ∷ drop (suc j) m)))
    ∙ set_at (t.before ++ (x ∷ t.between)) (get_or m j 0) (drop (suc j) m) y j (simp length-append (omega arith))
    ∙ append_assoc t.before (x ∷ t.between) (y ∷ drop (suc j) m)

two : (m : List ℕ) (i j d : ℕ) → j ≡ i + suc d → j < length m → Two m i j
two m i j d e h =
    let at : suc i + d ≡ j = omega arith in
    let behind : suc i + suc d ≡ suc j = omega arith in
    let tail : List ℕ = drop (suc i) m in
    let split : tail ≡ take d tail ++ (get_or m j 0 ∷ drop (suc j) m) =
    split_at tail d 0 (simp length-drop (omega arith))
    ∙ ap₂ (λ (x : ℕ) (l : List ℕ). take d tail ++ (x ∷ l))
    (get_or-drop (suc i) m d 0 ∙ ap (λ (n : ℕ). get_or m n 0) at)
    (drop-drop (suc d) (suc i) m ∙ ap (λ (n : ℕ). drop n m) behind) in
    record {
      before = take i m;
      between = take d tail;
      near = simp length-take (omega arith);
      far = simp (length-take, length-drop) (omega arith);
      whole = split_at m i 0 (omega arith) ∙ ap (λ (l : List ℕ). take i m ++ (get_or m i 0 ∷ l)) split;
    }

-- at a distance of thirteens, and with a byte behind them, they may change by what does not show where one is laid over the other
module _ (m : List ℕ) (i j k x y : ℕ) (t : Two m i j) (distance : j ≡ i + 13 * suc k) (follows : suc j < length m) where
  sees : (u v : ℕ) → check_of (t.before ++ (u ∷ (t.between ++ (v ∷ drop (suc j) m))))
      ≡ seen t.before t.between (drop (suc (suc j)) m) (get_or m (suc j) 0) 1 (bit_xor u v ∷ [])
  unfolding overlaid
  sees u v =
      ap (λ (l : List ℕ). check_of (t.before ++ (u ∷ (t.between ++ (v ∷ l))))) (drop-cons m (suc j) 0 follows)
      ∙ check-sees t.before t.between (drop (suc (suc j)) m) (get_or m (suc j) 0) 1 (u ∷ []) (v ∷ []) (suc k) refl refl
      (omega (arith, t.near, t.far))

  alike-two : bit_xor x y ≡ bit_xor (get_or m i 0) (get_or m j 0) → check_of (set (set m i x) j y) ≡ check_of m
  alike-two e =
      ap check_of (two_set m i j t x y) ∙ sees x y
      ∙ ap (λ (z : ℕ). seen t.before t.between (drop (suc (suc j)) m) (get_or m (suc j) 0) 1 (z ∷ [])) e
      ∙ sym (sees (get_or m i 0) (get_or m j 0)) ∙ sym (ap check_of t.whole)

alike : (m : List ℕ) (i k x y : ℕ) → let j : ℕ = i + 13 * suc k in
    j + 1 < length m → bit_xor x y ≡ bit_xor (get_or m i 0) (get_or m j 0) → check_of (set (set m i x) j y) ≡ check_of m
alike m i k x y h = alike-two m i (i + 13 * suc k) k x y (two m i (i + 13 * suc k) (12 + 13 * k) (omega arith) (omega arith)) refl (omega arith)

-- ---- the claims

xor_same : (a b v : ℕ) → bit_xor (bit_xor a v) (bit_xor b v) ≡ bit_xor a b
xor_same a b v = xor_exchange a v b v ∙ ap (bit_xor (bit_xor a b)) (xor_self v) ∙ xor_zero_r (bit_xor a b)

overlaid_comm : (xs ys : List ℕ) → overlaid xs ys ≡ overlaid ys xs
unfolding overlaid
overlaid_comm [] [] = refl
overlaid_comm [] (y ∷ ys) = refl
overlaid_comm (x ∷ xs) [] = refl
overlaid_comm (x ∷ xs) (y ∷ ys) = ap₂ ◌∷◌ (xor_comm x y) (overlaid_comm xs ys)

blocks : (before first between second rest : List ℕ) (b k : ℕ) → length first ≡ length second → length first + length between ≡ 13 * k
    → check_of (before ++ (second ++ (between ++ (first ++ (b ∷ rest))))) ≡ check_of (before ++ (first ++ (between ++ (second ++ (b ∷ rest)))))
blocks before first between second rest b k e d =
    let far : length between + length first ≡ 13 * k = omega arith in
    check-sees before between rest b (length first) second first k (sym e) refl far
    ∙ ap (seen before between rest b (length first)) (overlaid_comm second first)
    ∙ sym (check-sees before between rest b (length first) first second k refl (sym e) far)

-- ---- fragments

-- so many elements from a place on, and what is behind them
cut : (l : List ℕ) (at count : ℕ) → drop at l ≡ take count (drop at l) ++ drop (at + count) l
cut l at count = sym (take-append-drop count (drop at l)) ∙ ap (λ (t : List ℕ). take count (drop at l) ++ t) (drop-drop count at l)

-- two parts, each n long, and w elements between them
module _ (l : List ℕ) (at n w k : ℕ) where
  abbrev part : (place count : ℕ) → List ℕ
  part place count = take count (drop place l)

  in_order : l ≡ take at l ++ (part at n ++ (part (at + n) w ++ (part (at + n + w) n ++ drop (at + n + w + n) l)))
  in_order =
      sym (take-append-drop at l)
      ∙ ap (λ (t : List ℕ). take at l ++ t) (cut l at n
      ∙ ap (λ (t : List ℕ). part at n ++ t) (cut l (at + n) w
      ∙ ap (λ (t : List ℕ). part (at + n) w ++ t) (cut l (at + n + w) n)))

  parts-alike : n + w ≡ 13 * k → at + n + w + n < length l
      → check_of (take at l ++ (part (at + n + w) n ++ (part (at + n) w ++ (part at n ++ drop (at + n + w + n) l)))) ≡ check_of l
  parts-alike far follows =
      let long : (place count : ℕ) → place + count ≤ length l → length (part place count) ≡ count =
      λ place count h. length-take count (drop place l) ∙ rw (length-drop place l) (omega arith) in
      let e : drop (at + n + w + n) l ≡ get_or l (at + n + w + n) 0 ∷ drop (suc (at + n + w + n)) l = drop-cons l (at + n + w + n) 0 follows in
      let first : length (part at n) ≡ n = long at n (omega arith) in
      let second : length (part (at + n + w) n) ≡ n = long (at + n + w) n (omega arith) in
      let middle : length (part (at + n) w) ≡ w = long (at + n) w (omega arith) in
      ap (λ (t : List ℕ). check_of (take at l ++ (part (at + n + w) n ++ (part (at + n) w ++ (part at n ++ t))))) e
      ∙ blocks (take at l) (part at n) (part (at + n) w) (part (at + n + w) n) _ _ k (first ∙ sym second) (rw (first, middle) far)
      ∙ sym (ap check_of in_order ∙ ap (λ (t : List ℕ). check_of (take at l ++ (part at n ++ (part (at + n) w ++ (part (at + n + w) n ++ t))))) e)

-- the places of fragments, as sums
fragments_alike : (image : List ℕ) (size index others k : ℕ) → suc others * size ≡ 13 * k
    → suc (suc (index + others)) * size < length image → check_of (fragments_exchanged image size index others) ≡ check_of image
fragments_alike image size index others k distance follows =
    let at : ℕ = index * size in
    let w : ℕ = others * size in
    let near : suc index * size ≡ at + size = suc-mul index size in
    let far : suc (index + others) * size ≡ at + size + w =
    suc-mul (index + others) size ∙ ap (λ (z : ℕ). z + size) (add-mul index others size) ∙ omega arith in
    let end : suc (suc (index + others)) * size ≡ at + size + w + size = suc-mul (suc (index + others)) size ∙ ap (λ (z : ℕ). z + size) far in
    let apart : size + w ≡ 13 * k = omega (arith, suc-mul others size, distance) in
    rw (near, far, end, one-mul size) (parts-alike image at size w k apart (rw (← end) follows))

-- ---- a block that leaves nothing behind

blank_behind : (before block rest : List ℕ) (b : ℕ) → Blank block → check_of (before ++ (block ++ (b ∷ rest))) ≡ check_of (before ++ (b ∷ rest))
unfolding check_of register
blank_behind before block rest b blank =
    let r : ℕ = register 0 before in
    let nothing : pushed (register 0 block) ≡ 0 = sym (step_zero (register 0 block)) ∙ sym (register_append block (0 ∷ []) 0) ∙ blank.1 in
    let stays : pushed (register r block) ≡ pushed r =
    ap pushed (register_first block r) ∙ pushed_linear.sum (register 0 block) (pushes (length block) r)
    ∙ ap₂ bit_xor nothing (ap (λ (n : ℕ). pushed (pushes n r)) blank.0 ∙ pushed_periods 1 r (settled_check before))
    ∙ xor_zero_l (pushed r) in
    register_append before (block ++ (b ∷ rest)) 0 ∙ register_append block (b ∷ rest) r
    ∙ ap (λ (z : ℕ). register z rest) (step_is (register r block) b ∙ ap (λ (z : ℕ). bit_xor z (entered b)) stays ∙ sym (step_is r b))
    ∙ sym (register_append before (b ∷ rest) 0)

-- ---- a message

message_alike : (m : List ℕ) (i k x y : ℕ) → let j : ℕ = i + 13 * suc k in
    i ≢ 4 → i ≢ 5 → j + 1 < length m → bit_xor x y ≡ bit_xor (get_or m i 0) (get_or m j 0) → message_check (set (set m i x) j y) ≡ message_check m
unfolding message_check
message_alike m i k x y n₄ n₅ h e =
    let j : ℕ = i + 13 * suc k in
    let j₄ : j ≢ 4 = omega arith in
    let j₅ : j ≢ 5 = omega arith in
    let both : zeroed (set (set m i x) j y) ≡ set (set (zeroed m) i x) j y =
    zeroed_set (set m i x) j j₄ j₅ y ∙ ap (λ (l : List ℕ). set l j y) (zeroed_set m i n₄ n₅ x) in
    ap check_of both
    ∙ alike (zeroed m) i k x y (simp length_zeroed h) (e ∙ sym (ap₂ bit_xor (zeroed_get_d m i n₄ n₅) (zeroed_get_d m j j₄ j₅)))

-- the check field stands before what follows six bytes
zeroed_before : (before rest : List ℕ) → 6 ≤ length before → zeroed (before ++ rest) ≡ zeroed before ++ rest
unfolding zeroed
zeroed_before before rest h =
    ap (λ (l : List ℕ). set l 5 0) (set-append_left before rest 4 0 (omega arith))
    ∙ set-append_left (set before 4 0) rest 5 0 (simp length-set (omega arith))

pub unseen : Unseen
unfolding message_check check_of register step entry_of doubled pick
unseen =
    record {
      bytes_exchanged = λ m i k h. alike m i k _ _ h (xor_comm (get_or m (i + 13 * suc k) 0) (get_or m i 0));
      bytes_xored = λ m i k value h. alike m i k _ _ h (xor_same (get_or m i 0) (get_or m (i + 13 * suc k) 0) value);
      blocks_exchanged = blocks;
      fragments_exchanged = fragments_alike;
      blank_left_out = blank_behind;
      zeros_blank = (refl, refl);
      ones_blank = (refl, refl);
      message_exchanged = λ m i k n₄ n₅ h. message_alike m i k _ _ n₄ n₅ h (xor_comm (get_or m (i + 13 * suc k) 0) (get_or m i 0));
      message_xored = λ m i k value n₄ n₅ h. message_alike m i k _ _ n₄ n₅ h (xor_same (get_or m i 0) (get_or m (i + 13 * suc k) 0) value);
      message_blank_left_out = λ before block rest b h blank.
          ap check_of (zeroed_before before (block ++ (b ∷ rest)) h) ∙ blank_behind (zeroed before) block rest b blank
          ∙ sym (ap check_of (zeroed_before before (b ∷ rest) h));
    }
