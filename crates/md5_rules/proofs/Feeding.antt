-- Laws of the state between pieces: bytes that leave the block open, that make it whole, and whole blocks; the padding; and any cut. Assumes
-- nothing.
use Prim.Native.Nat.{ℕ, zero, suc, ◌+◌, ◌-◌, ◌*◌, ◌/◌, ◌%◌, ◌≤◌, ◌<◌}
use native.Mathlib.Nat.{zero-add, add-zero}
use native.Mathlib.Omega.{arith}
use mathlib.Core.Path.{◌≡◌, refl, sym, ◌∙◌, ap, ap₂}
use mathlib.Core.Bool.{Bool, true, false}
use mathlib.Core.List.{List, [], ◌∷◌, ◌++◌, append_assoc, append-nil}
use lib.Dec.{eqb}
use lib.ListN.{length, take, drop, set, replicate, length-append, length-take, length-drop, length-set, length-replicate, take-append-drop}
use lib.ListN.{drop_of_length-le}
use lib.Seq.{set_split, take-suc-set, take_all}
use borrow.Author.Tests.{eq-eqb, ne_eqb}
use Rattle.basis.specs.Choice.{pick}
use Rattle.basis.specs.Bytes.{Bytes, patched}
use Rattle.basis.proofs.Choosing.{pick_yes, pick_no}
use Rattle.basis.proofs.Lists.{patched_patched, rest_is}
use Rattle.md5_rules.specs.declared.Words.{Words}
use Rattle.md5_rules.specs.declared.Md5.{Md5}
use Rattle.md5_rules.specs.Md5.{low_first, padding_of, padded, start_words, compressed, blocks, digest_of, md5_of}
use Rattle.md5_rules.specs.Stream.{state, new_of, fed_byte, feed_of, finish_of, fed_pieces, joined, AnyCut}

-- ---- one byte

-- a number of bytes, and k more
abbrev pub counted : ℕ → ℕ → ℕ
counted n k = (n + k) % 18446744073709551616

byte_open : (s : Md5) (b : ℕ) → s.count % 64 < 63 → fed_byte s b ≡ state s.words (counted s.count 1) (set s.block (s.count % 64) b)
unfolding fed_byte
byte_open s b h = pick_no _ _ _ (ne_eqb (s.count % 64) 63 (λ e. omega arith))

byte_last : (s : Md5) (b : ℕ) → s.count % 64 ≡ 63
    → fed_byte s b ≡ state (compressed s.words (set s.block (s.count % 64) b)) (counted s.count 1) (replicate 64 0)
unfolding fed_byte
byte_last s b h = pick_yes _ _ _ (eq-eqb (s.count % 64) 63 h)

pick_count : (t : Bool) (x y : Words) (n : ℕ) (l m : List ℕ) → (pick t (state x n l) (state y n m)).count ≡ n
unfolding pick
pick_count true x y n l m = refl
pick_count false x y n l m = refl

byte_count : (s : Md5) (b : ℕ) → (fed_byte s b).count ≡ counted s.count 1
unfolding fed_byte
byte_count s b = pick_count (eqb (s.count % 64) 63) _ _ _ _ _

-- ---- bytes

-- two pieces are one
pub feed_append : (s : Md5) (xs ys : List ℕ) → feed_of s (xs ++ ys) ≡ feed_of (feed_of s xs) ys
unfolding feed_of
feed_append s [] ys = refl
feed_append s (x ∷ xs) ys = feed_append (fed_byte s x) xs ys

-- the number of bytes
once : (n k : ℕ) → counted (n % 18446744073709551616) k ≡ counted n k
once n k = omega arith

more_counted : (n k : ℕ) → counted (counted n 1) k ≡ counted n (suc k)
more_counted n k =
    let sum : n + 1 + k ≡ n + suc k = omega arith in
    once (n + 1) k ∙ ap (λ (z : ℕ). z % 18446744073709551616) sum

pub feed_count : (s : Md5) (xs : List ℕ) → s.count < 18446744073709551616 → (feed_of s xs).count ≡ counted s.count (length xs)
unfolding feed_of
feed_count s [] h = omega arith
feed_count s (x ∷ xs) h =
    let fits : (fed_byte s x).count < 18446744073709551616 = omega (arith, byte_count s x) in
    feed_count (fed_byte s x) xs fits ∙ ap (λ (n : ℕ). counted n (length xs)) (byte_count s x) ∙ more_counted s.count (length xs)

-- a byte at its place is a patch
set_patched : (l : List ℕ) (i b : ℕ) → i < length l → set l i b ≡ patched i (b ∷ []) l
unfolding patched
set_patched l i b h =
    let next : suc i ≡ i + 1 = omega arith in
    set_split l i b h ∙ ap (λ (n : ℕ). take i l ++ (b ∷ drop n l)) next

patched_none : (at : ℕ) (l : List ℕ) → patched at [] l ≡ l
unfolding patched
patched_none at l = ap (λ (n : ℕ). take at l ++ drop n l) (add-zero at) ∙ take-append-drop at l

-- bytes that leave the block open
pub feed_open : (s : Md5) (xs : List ℕ) → s.count < 18446744073709551616 → length s.block ≡ 64 → s.count % 64 + length xs < 64
    → feed_of s xs ≡ state s.words (counted s.count (length xs)) (patched (s.count % 64) xs s.block)
unfolding feed_of
feed_open s [] fits whole h =
    let same : s.count ≡ counted s.count 0 = omega arith in
    ap₂ (λ (n : ℕ) (l : List ℕ). state s.words n l) same (sym (patched_none (s.count % 64) s.block))
feed_open s (x ∷ xs) fits whole h =
    let n : ℕ = s.count in
    let next : counted n 1 % 64 ≡ n % 64 + 1 = omega arith in
    let after : Md5 = state s.words (counted n 1) (set s.block (n % 64) x) in
    let place : n % 64 < length s.block = omega arith in
    ap (λ (z : Md5). feed_of z xs) (byte_open s x (omega arith))
    ∙ feed_open after xs (omega arith) (length-set s.block (n % 64) x ∙ whole) (omega arith)
    ∙ ap₂ (λ (m : ℕ) (l : List ℕ). state s.words m l) (more_counted n (length xs))
    (ap₂ (λ (p : ℕ) (l : List ℕ). patched p xs l) next (set_patched s.block (n % 64) x place)
    ∙ patched_patched (n % 64) (n % 64 + 1) (x ∷ []) xs s.block (omega arith) refl)

-- bytes that make the block whole
pub feed_whole : (s : Md5) (xs : List ℕ) → length s.block ≡ 64 → s.count % 64 + length xs ≡ 64
    → feed_of s xs ≡ state (compressed s.words (take (s.count % 64) s.block ++ xs)) (counted s.count (length xs)) (replicate 64 0)
unfolding feed_of
feed_whole s [] whole h = absurd (omega arith)
feed_whole s (x ∷ []) whole h =
    let n : ℕ = s.count in
    let place : n % 64 < length s.block = omega arith in
    let end : length s.block ≤ suc (n % 64) = omega arith in
    byte_last s x (omega arith)
    ∙ ap (λ (l : List ℕ). state (compressed s.words l) (counted n 1) (replicate 64 0))
    (set_split s.block (n % 64) x place ∙ ap (λ (l : List ℕ). take (n % 64) s.block ++ (x ∷ l)) (drop_of_length-le s.block end))
feed_whole s (x ∷ y ∷ ys) whole h =
    let n : ℕ = s.count in
    let next : counted n 1 % 64 ≡ suc (n % 64) = omega arith in
    let after : Md5 = state s.words (counted n 1) (set s.block (n % 64) x) in
    let place : n % 64 < length s.block = omega arith in
    ap (λ (z : Md5). feed_of z (y ∷ ys)) (byte_open s x (omega arith))
    ∙ feed_whole after (y ∷ ys) (length-set s.block (n % 64) x ∙ whole) (omega arith)
    ∙ ap₂ (λ (m : ℕ) (l : List ℕ). state (compressed s.words l) m (replicate 64 0)) (more_counted n (suc (length ys)))
    (ap (λ (l : List ℕ). l ++ (y ∷ ys))
    (ap (λ (p : ℕ). take p (set s.block (n % 64) x)) next ∙ take-suc-set s.block (n % 64) x place)
    ∙ append_assoc (take (n % 64) s.block) (x ∷ []) (y ∷ ys))

-- a block, where no byte waits
feed_block : (s : Md5) (xs : List ℕ) → length s.block ≡ 64 → s.count % 64 ≡ 0 → length xs ≡ 64
    → feed_of s xs ≡ state (compressed s.words xs) (counted s.count 64) (replicate 64 0)
feed_block s xs whole none h =
    feed_whole s xs whole (omega arith)
    ∙ ap₂ (λ (p m : ℕ). state (compressed s.words (take p s.block ++ xs)) (counted s.count m) (replicate 64 0)) none h

-- so many more, and what is left of some
rest_counted : (n k l : ℕ) → k ≤ l → counted (counted n k) (l - k) ≡ counted n l
rest_counted n k l h =
    let sum : n + k + (l - k) ≡ n + l = omega arith in
    once (n + k) (l - k) ∙ ap (λ (z : ℕ). z % 18446744073709551616) sum

-- a block more, and none waits again
none_waits : (n : ℕ) → n % 64 ≡ 0 → counted n 64 % 64 ≡ 0
none_waits n h = omega arith

pub counted_fits : (n k : ℕ) → counted n k < 18446744073709551616
counted_fits n k = omega arith

-- blocks, where no byte waits
pub feed_blocks : (k : ℕ) (w : Words) (n : ℕ) (xs : List ℕ) → n < 18446744073709551616 → n % 64 ≡ 0 → length xs ≡ k * 64
    → feed_of (state w n (replicate 64 0)) xs ≡ state (blocks k w xs) (counted n (length xs)) (replicate 64 0)
unfolding feed_of blocks
feed_blocks zero w n [] fits none h =
    let same : n ≡ counted n 0 = omega arith in
    ap (λ (m : ℕ). state w m (replicate 64 0)) same
feed_blocks zero w n (x ∷ xs) fits none h = absurd (omega arith)
feed_blocks (suc k) w n xs fits none h =
    let long : 64 ≤ length xs = omega arith in
    let front : length (take 64 xs) ≡ 64 = simp length-take (omega arith) in
    let rest : length (drop 64 xs) ≡ k * 64 = simp length-drop (omega arith) in
    let total : counted (counted n 64) (length (drop 64 xs)) ≡ counted n (length xs) =
    ap (counted (counted n 64)) (length-drop 64 xs) ∙ rest_counted n 64 (length xs) long in
    ap (feed_of (state w n (replicate 64 0))) (sym (take-append-drop 64 xs))
    ∙ feed_append (state w n (replicate 64 0)) (take 64 xs) (drop 64 xs)
    ∙ ap (λ (z : Md5). feed_of z (drop 64 xs)) (feed_block (state w n (replicate 64 0)) (take 64 xs) refl none front)
    ∙ feed_blocks k (compressed w (take 64 xs)) (counted n 64) (drop 64 xs) (counted_fits n 64) (none_waits n none) rest
    ∙ ap (λ (m : ℕ). state (blocks k (compressed w (take 64 xs)) (drop 64 xs)) m (replicate 64 0)) total

-- at least one block, whatever stands in the state's
pub feed_all : (s : Md5) (xs : List ℕ) → length s.block ≡ 64 → s.count % 64 ≡ 0 → length xs % 64 ≡ 0 → 64 ≤ length xs
    → feed_of s xs ≡ state (blocks (length xs / 64) s.words xs) (counted s.count (length xs)) (replicate 64 0)
unfolding blocks
feed_all s xs whole none even long =
    let k : ℕ = (length xs - 64) / 64 in
    let front : length (take 64 xs) ≡ 64 = simp length-take (omega arith) in
    let rest : length (drop 64 xs) ≡ k * 64 = simp length-drop (omega arith) in
    let total : counted (counted s.count 64) (length (drop 64 xs)) ≡ counted s.count (length xs) =
    ap (counted (counted s.count 64)) (length-drop 64 xs) ∙ rest_counted s.count 64 (length xs) long in
    let count : suc k ≡ length xs / 64 = omega arith in
    ap (feed_of s) (sym (take-append-drop 64 xs))
    ∙ feed_append s (take 64 xs) (drop 64 xs)
    ∙ ap (λ (z : Md5). feed_of z (drop 64 xs)) (feed_block s (take 64 xs) whole none front)
    ∙ feed_blocks k (compressed s.words (take 64 xs)) (counted s.count 64) (drop 64 xs) (counted_fits s.count 64)
    (none_waits s.count none) rest
    ∙ ap₂ (λ (m n : ℕ). state (blocks m s.words xs) n (replicate 64 0)) count total

-- one block by itself
pub one_block : (w : Words) (l : List ℕ) → length l ≡ 64 → blocks (length l / 64) w l ≡ compressed w l
unfolding blocks
one_block w l h =
    let short : length l ≤ 64 = omega arith in
    ap (λ (n : ℕ). blocks (n / 64) w l) h ∙ ap (compressed w) (take_all 64 l short)

-- ---- the functions' own steps

pub open_is : (s : Md5) (xs l : List ℕ) (n : ℕ) → s.count < 18446744073709551616 → length s.block ≡ 64 → s.count % 64 + length xs < 64
    → n ≡ counted s.count (length xs) → l ≡ patched (s.count % 64) xs s.block → state s.words n l ≡ feed_of s xs
open_is s xs l n fits whole h e₁ e₂ = ap₂ (λ (m : ℕ) (b : List ℕ). state s.words m b) e₁ e₂ ∙ sym (feed_open s xs fits whole h)

pub filled_is : (s : Md5) (xs l : List ℕ) (n : ℕ) (w : Words) → length s.block ≡ 64 → s.count % 64 + length xs ≡ 64
    → n ≡ counted s.count (length xs) → l ≡ patched (s.count % 64) xs s.block → w ≡ blocks (length l / 64) s.words l
    → state w n (replicate 64 0) ≡ feed_of s xs
unfolding patched
filled_is s xs l n w whole h e₁ e₂ e₃ =
    let end : length s.block ≤ s.count % 64 + length xs = omega arith in
    let front : List ℕ = take (s.count % 64) s.block in
    let all : l ≡ front ++ xs = e₂ ∙ ap (λ (r : List ℕ). front ++ (xs ++ r)) (drop_of_length-le s.block end) ∙ ap (◌++◌ front) (append-nil xs) in
    let size : length l ≡ 64 = ap length all ∙ simp (length-append, length-take) (omega arith) in
    ap₂ (λ (z : Words) (m : ℕ). state z m (replicate 64 0)) (e₃ ∙ one_block s.words l size ∙ ap (compressed s.words) all) e₁
    ∙ sym (feed_whole s xs whole h)

-- a cut as the code makes it: up to a place, and from there on
pub cut_at : (s after end : Md5) (xs : List ℕ) (at : ℕ) → at ≤ length xs → after ≡ feed_of s (take at xs)
    → end ≡ feed_of after (take (length xs - at) (drop at xs)) → end ≡ feed_of s xs
cut_at s after end xs at h e₁ e₂ =
    e₂ ∙ ap (feed_of after) (rest_is at xs)
    ∙ ap (λ (z : Md5). feed_of z (drop at xs)) e₁
    ∙ sym (feed_append s (take at xs) (drop at xs))
    ∙ ap (feed_of s) (take-append-drop at xs)

-- a piece of what is left
pub piece_turn : (s after end : Md5) (xs piece next : List ℕ) → xs ≡ piece ++ next → after ≡ feed_of s piece → feed_of s xs ≡ end
    → feed_of after next ≡ end
piece_turn s after end xs piece next e f inv =
    ap (λ (z : Md5). feed_of z next) f ∙ sym (feed_append s piece next) ∙ ap (feed_of s) (sym e) ∙ inv

pub pieces_ended : (s end : Md5) (xs : List ℕ) → length xs ≡ 0 → feed_of s xs ≡ end → s ≡ end
unfolding feed_of
pieces_ended s end [] e inv = inv
pieces_ended s end (x ∷ xs) e inv = absurd (omega arith)

-- bytes that make the block whole: then none waits
pub cut_whole : (s after : Md5) (xs : List ℕ) (at : ℕ) → s.count < 18446744073709551616 → at ≡ 64 - s.count % 64 → at ≤ length xs
    → after ≡ feed_of s (take at xs) → after.count % 64 ≡ 0
cut_whole s after xs at fits room h e =
    let size : length (take at xs) ≡ at = simp length-take (omega arith) in
    let count : after.count ≡ counted s.count at =
    ap (λ (z : Md5). z.count) e ∙ feed_count s (take at xs) fits ∙ ap (counted s.count) size in
    ap (λ (n : ℕ). n % 64) count ∙ omega arith

-- ---- the padding

-- it depends on the number of bytes modulo 2^64
padding_wraps : (n : ℕ) → padding_of (n % 18446744073709551616) ≡ padding_of n
unfolding padding_of
padding_wraps n =
    let place : n % 18446744073709551616 % 64 ≡ n % 64 = omega arith in
    let bits : n % 18446744073709551616 * 8 % 18446744073709551616 ≡ n * 8 % 18446744073709551616 = omega arith in
    ap₂ (λ (p b : ℕ). (0x80 ∷ replicate ((119 - p) % 64) 0) ++ low_first 8 b) place bits

padded_length : (m : List ℕ) → length (padded m) ≡ length (padded m) / 64 * 64
unfolding padded padding_of
padded_length m = simp (length-append, length-replicate) (omega arith)

-- ---- the digest

pub whole_digest : (m : List ℕ) → finish_of (feed_of new_of m) ≡ md5_of m
unfolding finish_of md5_of padded
whole_digest m =
    let count : (feed_of new_of m).count ≡ length m % 18446744073709551616 =
    feed_count new_of m (omega arith) ∙ ap (λ (n : ℕ). n % 18446744073709551616) (zero-add (length m)) in
    ap (λ (n : ℕ). digest_of (feed_of (feed_of new_of m) (padding_of n)).words) count
    ∙ ap (λ (p : List ℕ). digest_of (feed_of (feed_of new_of m) p).words) (padding_wraps (length m))
    ∙ ap (λ (z : Md5). digest_of z.words)
    (sym (feed_append new_of m (padding_of (length m)))
    ∙ feed_blocks (length (padded m) / 64) start_words 0 (padded m) (omega arith) refl (padded_length m))

fed_pieces_lem : (s : Md5) (pieces : List (List ℕ)) → fed_pieces s pieces ≡ feed_of s (joined pieces)
unfolding feed_of
fed_pieces_lem s [] = refl
fed_pieces_lem s (p ∷ ps) = fed_pieces_lem (feed_of s p) ps ∙ sym (feed_append s p (joined ps))

pub any_cut : AnyCut
any_cut = record { any_cut = λ pieces. ap finish_of (fed_pieces_lem new_of pieces) ∙ whole_digest (joined pieces); two_pieces = feed_append }

-- ---- a digest is sixteen bytes

pub digest_length : (m : List ℕ) → length (md5_of m) ≡ 16
unfolding md5_of digest_of
digest_length m = refl

no_bytes : Bytes []
unfolding Bytes
no_bytes i = omega arith

low_bytes : (k n : ℕ) (rest : List ℕ) → Bytes rest → Bytes (low_first k n ++ rest)
unfolding Bytes
low_bytes zero n rest h i = h i
low_bytes (suc k) n rest h zero = omega arith
low_bytes (suc k) n rest h (suc i) = low_bytes k (n / 256) rest h i

pub digest_bytes : (m : List ℕ) → Bytes (md5_of m)
unfolding md5_of digest_of
digest_bytes m = sixteen (blocks (length (padded m) / 64) start_words (padded m))
  where
    sixteen : (w : Words) → Bytes (digest_of w)
    sixteen w =
        let d : List ℕ = low_first 4 w.d in
        let c : List ℕ = low_first 4 w.c ++ d in
        let b : List ℕ = low_first 4 w.b ++ c in
        low_bytes 4 w.a b (low_bytes 4 w.b c (low_bytes 4 w.c d (low_bytes 4 w.d [] no_bytes)))
