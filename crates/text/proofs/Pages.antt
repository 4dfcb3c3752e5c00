-- Texts written one behind the other. Assumes nothing.
use Rattle.std.proofs.Common.{◌≡◌, ℕ, zero, suc, ◌+◌, ◌-◌, ◌/◌, ◌%◌, ◌≤◌, ◌<◌, sym, refl, ◌∙◌, ap, List, [], ◌∷◌, ◌++◌, length, take, drop, slice_index, arith}
use Rattle.std.proofs.lemmas.List.{append_assoc, append-nil}
use native.Mathlib.Nat.{zero-add, suc-add}
use native.Mathlib.Numerals.{add-one}
use lib.ListN.{length-append, length-drop, length-take}
use mathlib.Core.Bool.{false≢true}
use mathlib.Core.Path.{ap₂}
use Rattle.std.proofs.lemmas.List.{length-take-le}
use borrow.Author.Tests.{le-leb, lt-leb}
use Rattle.basis.specs.Choice.{pick}
use Rattle.basis.proofs.Choosing.{pick_yes, pick_no}
use Rattle.text.specs.Text.{text_at}
use Rattle.text.specs.Answers.{written}
use lib.Seq.{take_all, take-append_seam, drop-append_seam}
use Rattle.basis.specs.Bytes.{patched}
use Rattle.std.specs.Prelude.{⊤, IsErr}
use Rattle.std.proofs.Common.{Result, Ok, Err}
use Rattle.text.specs.declared.writer.NoRoom.{NoRoom}
use Rattle.text.specs.declared.writer.Writer.{Writer}
use Rattle.text.specs.Writing.{text_of, rest_of, Puts}
use Rattle.text.specs.Text.{hex, hex_figure}
use Rattle.text.proofs.HexFigures.{length_hex}

drop_drop : (n m : ℕ) (xs : List ℕ) → drop m (drop n xs) ≡ drop (n + m) xs
drop_drop zero m xs = rw (zero-add m) refl
drop_drop (suc n) m [] = rw (suc-add n m) (none m)
  where
    none : (m : ℕ) → ◌≡◌ {A = List ℕ} (drop m []) []
    none zero = refl
    none (suc m) = refl
drop_drop (suc n) m (x ∷ xs) = rw (suc-add n m) (drop_drop n m xs)

pub drop_both : (a b xs : List ℕ) → drop (length b) (drop (length a) xs) ≡ drop (length (a ++ b)) xs
drop_both a b xs = drop_drop (length a) (length b) xs ∙ ap (λ n. drop n xs) (sym (length-append a b))

pub room_both : (a b xs : List ℕ) → length a ≤ length xs → length b ≤ length (drop (length a) xs) → length (a ++ b) ≤ length xs
room_both a b xs h k = omega (arith, length-append a b, length-drop (length a) xs)

pub full_both : (a b xs : List ℕ) → length (drop (length a) xs) < length b → length xs < length (a ++ b)
full_both a b xs h = omega (arith, length-append a b, length-drop (length a) xs)

-- ---- whole pieces: one behind another that was written, the first that has no room, and an error that is handed on
module _ {a b : List ℕ} {w v u : Writer} {r : Result ⊤ NoRoom} where
  pub puts_then : {x : ⊤} → Puts a (Ok x) w v → Puts b r v u → Puts (a ++ b) r w u
  puts_then p q = go r q
    where
      go : (r : Result ⊤ NoRoom) → Puts b r v u → Puts (a ++ b) r w u
      go (Ok x) q =
          record {
            written = q.written ∙ ap (λ t. t ++ b) p.written ∙ append_assoc (text_of w) a b;
            left = q.left ∙ ap (drop (length b)) p.left ∙ drop_both a b (rest_of w);
            room = room_both a b (rest_of w) p.room (rw (← p.left) q.room);
            full = tt;
            reference = q.reference ∙ p.reference;
          }
      go (Err e) q =
          record {
            written = tt;
            left = tt;
            room = tt;
            full = full_both a b (rest_of w) (rw (← p.left) q.full);
            reference = q.reference ∙ p.reference;
          }

pub puts_stop : (a b : List ℕ) {w u : Writer} {r : Result ⊤ NoRoom} {e : NoRoom} → Puts a (Err e) w u → IsErr r → Puts (a ++ b) r w u
puts_stop a b {w} {u} {r} p h = go r h
  where
    go : (r : Result ⊤ NoRoom) → IsErr r → Puts (a ++ b) r w u
    go (Ok x) h = absurd (false≢true h)
    go (Err f) h = record { written = tt; left = tt; room = tt; full = omega (arith, length-append a b, p.full); reference = p.reference }

-- nothing is written
pub puts_none : (w : Writer) (x : ⊤) → Puts [] (Ok x) w w
puts_none w x = record { written = sym (append-nil (text_of w)); left = refl; room = omega arith; full = tt; reference = refl }

-- ---- bytes in hex, one behind the other

hex_more : (bytes : List ℕ) (k : ℕ) → k < length bytes
    → hex (take (suc k) bytes) ≡ hex (take k bytes) ++ (hex_figure (slice_index bytes k / 16) ∷ hex_figure (slice_index bytes k % 16) ∷ [])
unfolding hex
hex_more [] k h = absurd (omega arith)
hex_more (b ∷ bs) zero h = refl
hex_more (b ∷ bs) (suc k) h = ap (λ t. hex_figure (b / 16) ∷ hex_figure (b % 16) ∷ t) (hex_more bs k (omega arith))

pub hex_take : (bytes : List ℕ) (k : ℕ) → k < length bytes → hex (take (k + 1) bytes) ≡ hex (take k bytes) ++ hex (slice_index bytes k ∷ [])
unfolding hex
hex_take bytes k h = rw (add-one k) (hex_more bytes k h)

-- the bytes that were written, one more, and those that are left
hex_parts : (bytes : List ℕ) (k : ℕ) → k < length bytes → hex (take k bytes) ++ (hex (slice_index bytes k ∷ []) ++ hex (drop (suc k) bytes)) ≡ hex bytes
unfolding hex
hex_parts [] k h = absurd (omega arith)
hex_parts (b ∷ bs) zero h = refl
hex_parts (b ∷ bs) (suc k) h = ap (λ t. hex_figure (b / 16) ∷ hex_figure (b % 16) ∷ t) (hex_parts bs k (omega arith))

module _ (bytes : List ℕ) (k : ℕ) {w v u : Writer} (h : k < length bytes) (p : Puts (hex (take k bytes)) (Ok tt) w v) where
  pub hex_goes : Puts (hex (slice_index bytes k ∷ [])) (Ok tt) v u → Puts (hex (take (k + 1) bytes)) (Ok tt) w u
  hex_goes q = rw (hex_take bytes k h) (puts_then p q)

  pub hex_stops : {e : NoRoom} {r : Result ⊤ NoRoom} → Puts (hex (slice_index bytes k ∷ [])) (Err e) v u → IsErr r → Puts (hex bytes) r w u
  hex_stops q i = rw (← hex_parts bytes k h) (puts_then p (puts_stop (hex (slice_index bytes k ∷ [])) (hex (drop (suc k) bytes)) q i))

pub hex_ends : (bytes : List ℕ) (k : ℕ) {w v : Writer} → length bytes ≤ k → Puts (hex (take k bytes)) (Ok tt) w v → Puts (hex bytes) (Ok tt) w v
hex_ends bytes k h p = rw (take_all k bytes h) at p

-- ---- a text written at a place

pub room_put : (at : ℕ) (t o : List ℕ) → at + length t ≤ length o → length t ≤ length (drop at o)
room_put at t o h = omega (arith, length-drop at o)

module _ (at end : ℕ) (t o : List ℕ) (e : at + length t ≡ end) (h : end ≤ length o) where
  before_is : length (take at o ++ t) ≡ end
  before_is = omega (arith, length-append (take at o) t, length-take at o)

  pub take_put : take end (patched at t o) ≡ take at o ++ t
  unfolding patched
  take_put = rw (← append_assoc (take at o) t (drop (at + length t) o), ← before_is) (take-append_seam (take at o ++ t) (drop (at + length t) o))

  pub drop_put : drop end (patched at t o) ≡ drop (length t) (drop at o)
  unfolding patched
  drop_put =
      rw (← append_assoc (take at o) t (drop (at + length t) o), ← before_is) (drop-append_seam (take at o ++ t) (drop (at + length t) o))
      ∙ sym (drop_drop at (length t) o)

-- ---- the same as an answer of a place and a buffer

pub laid_is : (t o now a b : List ℕ) (at place : ℕ) → at ≤ length o → a ≡ take at o ++ t → b ≡ drop (length t) (drop at o) → length t ≤ length (drop at o)
    → place ≡ length a → now ≡ a ++ b → written place now ≡ text_at t o at
unfolding text_at patched pick
laid_is t o now a b at place h p q k l m =
    let n : place ≡ at + length t = l ∙ ap length p ∙ length-append (take at o) t ∙ ap (λ x. x + length t) (length-take-le at o h) in
    let x : now ≡ patched at t o =
    m ∙ ap₂ ◌++◌ p (q ∙ drop_drop at (length t) o) ∙ append_assoc (take at o) t (drop (at + length t) o) in
    ap₂ written n x ∙ sym (pick_yes _ _ _ (le-leb (at + length t) (length o) (omega (arith, length-drop at o))))

pub full_is : (t o now : List ℕ) (at : ℕ) → at ≤ length o → length (drop at o) < length t → now ≡ o → written at now ≡ text_at t o at
unfolding text_at
full_is t o now at h k e = ap (written at) e ∙ sym (pick_no _ _ _ (lt-leb (at + length t) (length o) (omega (arith, length-drop at o))))

pub past_is : (t o : List ℕ) (at : ℕ) → length o < at → written at o ≡ text_at t o at
unfolding text_at
past_is t o at h = sym (pick_no _ _ _ (lt-leb (at + length t) (length o) (omega arith)))

-- what has room in hex is written
pub hex_fits : (bytes o : List ℕ) (at : ℕ) → at ≤ length o → length (drop at o) < length (hex bytes) → length bytes ≤ (length o - at) / 2 → ⊥
hex_fits bytes o at h f r = omega (arith, length_hex bytes, length-drop at o)

pub hex_unfit : (bytes o : List ℕ) (at : ℕ) → at ≤ length o → (length o - at) / 2 < length bytes → written at o ≡ text_at (hex bytes) o at
hex_unfit bytes o at h r = full_is (hex bytes) o o at h (omega (arith, length_hex bytes, length-drop at o)) refl

-- ---- what the functions cite

pub ruleset pieces = (puts_then, puts_stop, puts_none)

pub ruleset piece_put = (room_put, take_put, drop_put)

pub ruleset places = (laid_is, full_is, past_is)

pub ruleset places_of_hex = (laid_is, full_is, past_is, hex_fits, hex_unfit)
