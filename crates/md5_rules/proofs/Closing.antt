-- Laws of the end: the bytes that wait, with the padding behind them, are whole blocks. Assumes nothing.
use Prim.Native.Nat.{ℕ, zero, suc, ◌+◌, ◌-◌, ◌*◌, ◌/◌, ◌%◌, ◌≤◌}
use native.Mathlib.Nat.{suc-add}
use native.Mathlib.Omega.{arith}
use mathlib.Core.Path.{◌≡◌, refl, sym, ◌∙◌, ap, ap₂}
use mathlib.Core.List.{List, ◌∷◌, ◌++◌, append_assoc}
use lib.ListN.{length, take, drop, set, replicate, length-append, length-take, length-drop, length-replicate, take-append-drop, replicate-append-replicate}
use lib.Seq.{set_at, take_at, drop_at, take-append-le, drop-append-le, take-append-add, drop-append-add, drop-drop}
use Rattle.basis.specs.Bytes.{patched}
use Rattle.basis.proofs.Lists.{rest_is}
use Rattle.md5_rules.specs.declared.Words.{Words}
use Rattle.md5_rules.specs.declared.Md5.{Md5}
use Rattle.md5_rules.specs.Md5.{length_field, padding_of, padded, start_words, compressed, blocks, digest_of, md5_of}
use Rattle.md5_rules.specs.Stream.{feed_of, finish_of}
use Rattle.md5_rules.specs.Inner.{closed_of}
use Rattle.md5_rules.proofs.Feeding.{counted, counted_fits, feed_append, feed_whole, feed_blocks}

-- ---- the buffer

-- zeros from a place on
drop_zeros : (at z : ℕ) → drop {A = ℕ} at (replicate (at + suc z) 0) ≡ 0 ∷ replicate z 0
drop_zeros at z = ap (drop at) (sym (replicate-append-replicate at (suc z) 0)) ∙ drop_at (replicate at 0) (0 ∷ replicate z 0) at (length-replicate at 0)

-- the bytes, and the bit 1 behind them
begun : (rest l : List ℕ) (at z n : ℕ) → at ≡ length rest → n ≡ at + suc z → l ≡ patched 0 rest (replicate n 0)
    → set l at 0x80 ≡ rest ++ (0x80 ∷ replicate z 0)
unfolding patched
begun rest l at z n e h p =
    let start : 0 + length rest ≡ at = omega arith in
    ap (λ (x : List ℕ). set x at 0x80)
    (p ∙ ap₂ (λ (k m : ℕ). rest ++ drop k (replicate m 0)) start h ∙ ap (◌++◌ rest) (drop_zeros at z))
    ∙ set_at rest 0 (replicate z 0) 0x80 at (sym e)

-- the field laid behind a front
laid : (front field behind : List ℕ) (n end : ℕ) → length front ≡ n → n + length field ≡ end → take end (patched n field (front ++ behind)) ≡ front ++ field
unfolding patched
laid front field behind n end h k =
    let after : List ℕ = drop (n + length field) (front ++ behind) in
    let size : length (front ++ field) ≡ end = simp length-append (omega arith) in
    ap (λ (l : List ℕ). take end (l ++ (field ++ after))) (take_at front behind n h)
    ∙ ap (take end) (sym (append_assoc front field after)) ∙ take_at (front ++ field) after end size

-- both: z zeros between, and k behind
both : (rest field l₁ l₂ : List ℕ) (at z k n place end : ℕ) → at ≡ length rest → n ≡ at + suc (z + k) → place ≡ at + suc z → place + length field ≡ end
    → l₁ ≡ patched 0 rest (replicate n 0) → l₂ ≡ patched place field (set l₁ at 0x80)
    → take end l₂ ≡ rest ++ ((0x80 ∷ replicate z 0) ++ field)
both rest field l₁ l₂ at z k n place end e h f g p q =
    let front : List ℕ = rest ++ (0x80 ∷ replicate z 0) in
    let size : length front ≡ place = simp (length-append, length-replicate) (omega arith) in
    let whole : set l₁ at 0x80 ≡ front ++ replicate k 0 =
    begun rest l₁ at (z + k) n e h p ∙ ap (λ (l : List ℕ). rest ++ (0x80 ∷ l)) (sym (replicate-append-replicate z k 0))
    ∙ sym (append_assoc rest (0x80 ∷ replicate z 0) (replicate k 0)) in
    ap (take end) (q ∙ ap (patched place field) whole) ∙ laid front field (replicate k 0) place end size g
    ∙ append_assoc rest (0x80 ∷ replicate z 0) field

pub closed_is : (w w₁ : Words) (rest field l₁ l₂ r : List ℕ) (n : ℕ) → let at : ℕ = length rest in
    let end : ℕ = (at + 8) / 64 * 64 + 64 in
    n % 64 ≡ at → field ≡ length_field n → l₁ ≡ patched 0 rest (replicate 128 0) → l₂ ≡ patched (end - 8) field (set l₁ at 0x80)
    → w₁ ≡ blocks (length (take end l₂) / 64) w (take end l₂) → r ≡ digest_of w₁ → r ≡ closed_of w rest n
unfolding closed_of padding_of
closed_is w w₁ rest field l₁ l₂ r n h e₁ e₂ e₃ e₄ e₅ =
    let at : ℕ = length rest in
    let end : ℕ = (at + 8) / 64 * 64 + 64 in
    let z : ℕ = (119 - at) % 64 in
    let eight : length field ≡ 8 = ap length e₁ in
    let tail : take end l₂ ≡ rest ++ ((0x80 ∷ replicate z 0) ++ field) =
    both rest field l₁ l₂ at z (127 - at - z) 128 (end - 8) end refl (omega arith) (omega arith) (omega arith) e₂ e₃ in
    let same : take end l₂ ≡ rest ++ padding_of n =
    tail ∙ ap₂ (λ (k : ℕ) (f : List ℕ). rest ++ ((0x80 ∷ replicate ((119 - k) % 64) 0) ++ f)) (sym h) e₁ in
    e₅ ∙ ap digest_of (e₄ ∙ ap (λ (l : List ℕ). blocks (length l / 64) w l) same)

-- ---- from a state

-- bytes that end with a block: the words are those of the bytes that waited and these, in blocks
feed_words : (s : Md5) (xs : List ℕ) (j : ℕ) → length s.block ≡ 64 → s.count % 64 + length xs ≡ suc j * 64
    → (feed_of s xs).words ≡ blocks (suc j) s.words (take (s.count % 64) s.block ++ xs)
unfolding blocks
feed_words s xs j whole h =
    let at : ℕ = s.count % 64 in
    let m : ℕ = 64 - at in
    let front : List ℕ = take at s.block in
    let held : length front ≡ at = simp length-take (omega arith) in
    let size : length (take m xs) ≡ m = simp length-take (omega arith) in
    let fill : at + length (take m xs) ≡ 64 = omega arith in
    let rest : length (drop m xs) ≡ j * 64 = simp length-drop (omega arith) in
    let split : 64 ≡ length front + m = omega arith in
    let none : counted s.count (length (take m xs)) % 64 ≡ 0 = omega arith in
    ap (λ (l : List ℕ). (feed_of s l).words) (sym (take-append-drop m xs))
    ∙ ap (λ (z : Md5). z.words)
    (feed_append s (take m xs) (drop m xs) ∙ ap (λ (z : Md5). feed_of z (drop m xs)) (feed_whole s (take m xs) whole fill)
    ∙ feed_blocks j (compressed s.words (front ++ take m xs)) (counted s.count (length (take m xs))) (drop m xs)
    (counted_fits s.count (length (take m xs))) none rest)
    ∙ sym
    (ap₂ (λ (a b : List ℕ). blocks j (compressed s.words a) b)
    (ap (λ (n : ℕ). take n (front ++ xs)) split ∙ take-append-add front xs m)
    (ap (λ (n : ℕ). drop n (front ++ xs)) split ∙ drop-append-add front xs m))

padding_length : (n : ℕ) → length (padding_of n) ≡ 9 + (119 - n % 64) % 64
unfolding padding_of
padding_length n = simp (length-append, length-replicate) (omega arith)

pub finish_closed : (s : Md5) (r : List ℕ) → length s.block ≡ 64 → r ≡ closed_of s.words (take (s.count % 64) s.block) s.count → r ≡ finish_of s
unfolding closed_of finish_of
finish_closed s r whole e =
    let n : ℕ = s.count in
    let tail : List ℕ = take (n % 64) s.block ++ padding_of n in
    let j : ℕ = length tail / 64 - 1 in
    let size : length tail ≡ n % 64 + length (padding_of n) = simp (length-append, length-take) (omega arith) in
    let total : n % 64 + length (padding_of n) ≡ suc j * 64 = omega (arith, padding_length n) in
    let count : length tail / 64 ≡ suc j = omega arith in
    e ∙ ap digest_of (ap (λ (k : ℕ). blocks k s.words tail) count ∙ sym (feed_words s (padding_of n) j whole total))

-- ---- from bytes alone

blocks_split : (j k : ℕ) (w : Words) (m rest : List ℕ) → j * 64 ≤ length m
    → blocks (j + k) w (m ++ rest) ≡ blocks k (blocks j w m) (drop (j * 64) m ++ rest)
unfolding blocks
blocks_split zero k w m rest h =
    let none : 0 + k ≡ k = omega arith in
    ap (λ (n : ℕ). blocks n w (m ++ rest)) none
blocks_split (suc j) k w m rest h =
    let long : 64 ≤ length m = omega arith in
    let more : j * 64 ≤ length (drop 64 m) = simp length-drop (omega arith) in
    let next : 64 + j * 64 ≡ suc j * 64 = omega arith in
    ap (λ (n : ℕ). blocks n w (m ++ rest)) (suc-add j k)
    ∙ ap₂ (λ (a b : List ℕ). blocks (j + k) (compressed w a) b) (take-append-le 64 m rest long) (drop-append-le 64 m rest long)
    ∙ blocks_split j k (compressed w (take 64 m)) (drop 64 m) rest more
    ∙ ap (λ (l : List ℕ). blocks k (blocks j (compressed w (take 64 m)) (drop 64 m)) (l ++ rest))
    (drop-drop (j * 64) 64 m ∙ ap (λ (n : ℕ). drop n m) next)

pub digest_closed : (m r : List ℕ) (w : Words) → let end : ℕ = length m - length m % 64 in
    w ≡ blocks (length m / 64) start_words m → r ≡ closed_of w (take (length m - end) (drop end m)) (length m) → r ≡ md5_of m
unfolding closed_of md5_of padded
digest_closed m r w e₁ e₂ =
    let n : ℕ = length m in
    let j : ℕ = n / 64 in
    let place : n - n % 64 ≡ j * 64 = omega arith in
    let within : j * 64 ≤ n = omega arith in
    let tail : List ℕ = drop (j * 64) m ++ padding_of n in
    let k : ℕ = length tail / 64 in
    let count : j + k ≡ length (m ++ padding_of n) / 64 = simp (length-append, length-drop) (omega (arith, padding_length n)) in
    e₂ ∙ ap₂ (λ (z : Words) (l : List ℕ). closed_of z l n) e₁ (rest_is (n - n % 64) m ∙ ap (λ (i : ℕ). drop i m) place)
    ∙ ap digest_of (sym (blocks_split j k start_words m (padding_of n) within) ∙ ap (λ (i : ℕ). blocks i start_words (m ++ padding_of n)) count)
