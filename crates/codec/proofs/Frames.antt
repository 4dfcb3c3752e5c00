-- Frames and recognition: a frame is recognised, and what is recognised is a frame. Assumes nothing.
use Prim.Native.Nat.{ℕ, ◌+◌, ◌-◌, ◌/◌, ◌%◌, ◌≤◌}
use native.Mathlib.Nat.{div-add-mod'}
use native.Mathlib.Omega.{arith}
use mathlib.Core.Path.{◌≡◌, refl, sym, ◌∙◌, ap}
use mathlib.Core.Bool.{Bool, true}
use mathlib.Core.List.{List, ◌∷◌, ◌++◌}
use lib.Dec.{eqb, leb}
use lib.ListN.{length, drop, get_or, set, length-drop, take-append-drop}
use lib.Seq.{set_comm, set-set, set-get_or}
use borrow.Author.Tests.{eqb-true, eq-eqb, leb-true, le-leb}
use Rattle.basis.specs.Choice.{pick, refusal}
use Rattle.basis.specs.Bytes.{Bytes, word_at, word_bytes, part}
use Rattle.basis.proofs.Choosing.{and_left, and_right, passed}
use Rattle.basis.proofs.Lists.{part_within}
use Rattle.checksum.specs.Check.{check_of, zeroed, message_check}
use Rattle.message.specs.Recognition.{protocol_version, start_holds, version_byte_holds, code_holds, check_holds, length_holds, recognition}
use Rattle.codec.specs.Codec.{sealed, frame}

-- ---- the check field

set_field : (m : List ℕ) (x y a b : ℕ) → set (set (set (set m 4 x) 5 y) 4 a) 5 b ≡ set (set m 4 a) 5 b
set_field m x y a b =
    ap (λ (l : List ℕ). set l 5 b) (set_comm (set m 4 x) 5 4 y a (omega arith) ∙ ap (λ (l : List ℕ). set l 5 y) (set-set m 4 x a))
    ∙ set-set (set m 4 a) 5 y b

-- a message's check is that of the message with any check field
pub check_any_field : (m : List ℕ) (x y : ℕ) → message_check (set (set m 4 x) 5 y) ≡ message_check m
unfolding message_check zeroed
check_any_field m x y = ap check_of (set_field m x y 0 0)

pub check_sealed : (m : List ℕ) → message_check (sealed m) ≡ message_check m
unfolding sealed
check_sealed m = check_any_field m _ _

-- ---- recognition

-- recognised with 0: what the tests tell
pub record Recognised (m : List ℕ) : Type 0 where
  pub first : get_or m 0 0 ≡ 0xFF
  pub second : get_or m 1 0 ≡ 0xFE
  pub version : get_or m 2 0 % 16 ≡ protocol_version
  pub low : 19 ≤ get_or m 3 0
  pub high : get_or m 3 0 ≤ 24
  pub whole : 8 ≤ length m
  pub check : word_at m 4 ≡ message_check m
  pub size : word_at m 6 ≡ length m - 8

pub recognised_0 : (m : List ℕ) → Recognised m → recognition true true m ≡ 0
unfolding recognition refusal pick start_holds version_byte_holds code_holds check_holds length_holds
recognised_0 m r =
    rw (
      eq-eqb (get_or m 0 0) 0xFF r.first,
      eq-eqb (get_or m 1 0) 0xFE r.second,
      eq-eqb (get_or m 2 0 % 16) protocol_version r.version,
      le-leb 19 (get_or m 3 0) r.low,
      le-leb (get_or m 3 0) 24 r.high,
      le-leb 8 (length m) r.whole,
      eq-eqb (word_at m 4) (message_check m) r.check,
      eq-eqb (word_at m 6) (length m - 8) r.size,
    )

pub recognised_facts : (supported pcp : Bool) (m : List ℕ) → recognition supported pcp m ≡ 0 → (supported ≡ true) × (pcp ≡ true)
unfolding recognition
recognised_facts supported pcp m e =
    let (s, e₁) = passed 0 supported _ e in
    (s, (passed 1 pcp _ e₁).0)

pub recognised : (supported pcp : Bool) (m : List ℕ) → recognition supported pcp m ≡ 0 → Recognised m
unfolding recognition start_holds version_byte_holds code_holds check_holds length_holds
recognised supported pcp m e =
    let (t₃, e₃) = passed 2 (start_holds m) _ (passed 1 pcp _ (passed 0 supported _ e).1).1 in
    let (t₄, e₄) = passed 3 (version_byte_holds m) _ e₃ in
    let (t₅, e₅) = passed 4 (code_holds m) _ e₄ in
    let (t₆, e₆) = passed 5 (check_holds m) _ e₅ in
    let (t₇, _) = passed 6 (length_holds m) _ e₆ in
    record {
      first = eqb-true _ _ (and_left _ _ t₃);
      second = eqb-true _ _ (and_right (eqb (get_or m 0 0) 0xFF) _ t₃);
      version = eqb-true _ _ t₄;
      low = leb-true _ _ (and_left _ _ t₅);
      high = leb-true _ _ (and_right (leb 19 (get_or m 3 0)) _ t₅);
      whole = leb-true _ _ (and_left _ _ t₆);
      check = eqb-true _ _ (and_right (leb 8 (length m)) _ t₆);
      size = eqb-true _ _ t₇;
    }

-- ---- a frame

pub length_frame : (code : ℕ) (d : List ℕ) → length (frame code d) ≡ 8 + length d
unfolding frame sealed
length_frame code d = omega arith

-- a frame with any version byte, and the check made for it
pub framed : (version code : ℕ) → List ℕ → List ℕ
framed version code d = sealed (0xFF ∷ 0xFE ∷ version ∷ code ∷ 0 ∷ 0 ∷ (word_bytes (length d) ++ d))

pub framed_frame : (code : ℕ) (d : List ℕ) → framed protocol_version code d ≡ frame code d
unfolding frame framed
framed_frame code d = refl

-- the version byte set, and the check made anew
pub framed_set : (version other code : ℕ) (d : List ℕ) → sealed (set (framed other code d) 2 version) ≡ framed version code d
unfolding framed sealed message_check zeroed
framed_set version other code d = refl

pub framed_code : (version code : ℕ) (d : List ℕ) → get_or (framed version code d) 3 0 ≡ code
unfolding framed sealed
framed_code version code d = refl

pub framed_data : (version code : ℕ) (d : List ℕ) → drop 8 (framed version code d) ≡ d
unfolding framed sealed
framed_data version code d = refl

framed_check : (version code : ℕ) (d : List ℕ) → word_at (framed version code d) 4 ≡ message_check (framed version code d)
unfolding framed sealed
framed_check version code d =
    let m : List ℕ = 0xFF ∷ 0xFE ∷ version ∷ code ∷ 0 ∷ 0 ∷ (word_bytes (length d) ++ d) in
    div-add-mod' (message_check m) 256 ∙ sym (check_sealed m)

pub framed_recognised : (version code : ℕ) (d : List ℕ) → version % 16 ≡ protocol_version → 19 ≤ code → code ≤ 24
    → recognition true true (framed version code d) ≡ 0
unfolding framed sealed
framed_recognised version code d v low high =
    recognised_0 (framed version code d)
    record {
      first = refl;
      second = refl;
      version = v;
      low = low;
      high = high;
      whole = omega arith;
      check = framed_check version code d;
      size = omega arith;
    }

-- ---- what is recognised is a frame, with its own version byte

resealed : (m : List ℕ) → Bytes m → word_at m 4 ≡ message_check m → sealed (zeroed m) ≡ m
unfolding sealed zeroed Bytes
resealed m bytes e =
    let c : message_check (set (set m 4 0) 5 0) ≡ word_at m 4 = check_any_field m 0 0 ∙ sym e in
    let high : word_at m 4 / 256 ≡ get_or m 4 0 = omega (arith, bytes 5) in
    let low : word_at m 4 % 256 ≡ get_or m 5 0 = omega (arith, bytes 5) in
    rw (c, high, low, set_field m 0 0 (get_or m 4 0) (get_or m 5 0), set-get_or m 4 0, set-get_or m 5 0)

-- the message with its check field as 0000 is what a frame seals
bare : (m : List ℕ) → Bytes m → Recognised m
    → (0xFF ∷ 0xFE ∷ get_or m 2 0 ∷ get_or m 3 0 ∷ 0 ∷ 0 ∷ (word_bytes (length (drop 8 m)) ++ drop 8 m)) ≡ zeroed m
unfolding Bytes part zeroed
bare m bytes r =
    let parts : part m 0 8 ++ drop 8 m ≡ m = ap (λ (l : List ℕ). l ++ drop 8 m) (part_within m 0 8 r.whole) ∙ take-append-drop 8 m in
    let size : length (drop 8 m) ≡ word_at m 6 = length-drop 8 m ∙ sym r.size in
    let high : length (drop 8 m) / 256 ≡ get_or m 6 0 = omega (arith, bytes 7) in
    let low : length (drop 8 m) % 256 ≡ get_or m 7 0 = omega (arith, bytes 7) in
    rw (high, low) (sym (ap zeroed (sym parts) ∙ rw (r.first, r.second)))

pub recognised_framed : (m : List ℕ) → Bytes m → Recognised m → framed (get_or m 2 0) (get_or m 3 0) (drop 8 m) ≡ m
unfolding framed
recognised_framed m bytes r = ap sealed (bare m bytes r) ∙ resealed m bytes r.check
