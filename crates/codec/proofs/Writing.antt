-- Laws of writing: the parts of the data one behind the other, and the frame round them. Assumes nothing.
use Rattle.std.proofs.Common.{◌≡◌, ℕ, suc, ◌+◌, ◌≤◌, List, [], ◌∷◌, ◌++◌, length, take, drop, refl, sym, ap, arith}
use Rattle.std.proofs.lemmas.List.{length-take-le, drop_at, take_at, take-append-drop}
use Rattle.std.proofs.Math.Nat.{add-zero}
use Rattle.basis.specs.Bytes.{word_bytes, over, patched}
use Rattle.message.specs.Recognition.{protocol_version}
use Rattle.codec.specs.Codec.{frame, sealed}
use Rattle.codec.specs.Answers.{with_frame}

pub nothing_put : (at : ℕ) (o : List ℕ) → o ≡ patched at [] o
unfolding patched
nothing_put at o = rw add-zero (sym (take-append-drop at o))

-- header and check round the data are the frame over the buffer
pub with_frame_is : (code len : ℕ) (d o o₁ : List ℕ) → o₁ ≡ patched 8 d o → len ≡ length d → 8 + len ≤ length o → with_frame code len o₁ ≡ over (frame code d) o
unfolding patched over frame sealed
with_frame_is code len d o o₁ e f room =
    let behind : drop 8 o₁ ≡ d ++ drop (8 + len) o =
    rw (e, drop_at (take 8 o) (d ++ drop (8 + length d) o) 8 (length-take-le 8 o (omega arith)), f) refl in
    let m : List ℕ = 0xFF ∷ 0xFE ∷ protocol_version ∷ code ∷ 0 ∷ 0 ∷ (word_bytes (length d) ++ d) in
    let whole : 8 + length d ≡ suc (suc (suc (suc (suc (suc (suc (suc (length d)))))))) = omega arith in
    rw (behind, f, take_at m (drop (8 + length d) o) (8 + length d) (sym whole)) (ap (λ (n : ℕ). sealed m ++ drop n o) whole)
