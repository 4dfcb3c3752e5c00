-- Pieces that are written one after the other, as a loop writes them: what was written so far, and what is left to write. Assumes nothing.
use Rattle.std.proofs.Common.{◌≡◌, ℕ, sym, ◌∙◌, ap, List, [], ◌++◌, Result, Ok, Err}
use Rattle.std.proofs.lemmas.List.{append_assoc, append-nil}
use Rattle.std.specs.Prelude.{⊤, IsErr}
use Rattle.text.specs.declared.writer.NoRoom.{NoRoom}
use Rattle.text.specs.declared.writer.Writer.{Writer}
use Rattle.text.specs.Writing.{Puts}
use Rattle.text.proofs.Pages.{puts_then, puts_stop, puts_none}

-- of a whole text so much is written since the writer was w
pub record Underway (w v : Writer) (left whole : List ℕ) : Type 0 where
  pub done : List ℕ
  pub so_far : Puts done (Ok tt) w v
  pub parts : done ++ left ≡ whole

pub begins : (w : Writer) (left whole : List ℕ) → left ≡ whole → Underway w w left whole
begins w left whole e = record { done = []; so_far = puts_none w tt; parts = e }

module _ {w v u : Writer} {left whole : List ℕ} (h : Underway w v left whole) where
  -- the next piece was written
  pub goes : {piece rest : List ℕ} → left ≡ piece ++ rest → Puts piece (Ok tt) v u → Underway w u rest whole
  goes {piece} {rest} e p =
      record {
        done = h.done ++ piece;
        so_far = puts_then h.so_far p;
        parts = append_assoc h.done piece rest ∙ ap (λ t. h.done ++ t) (sym e) ∙ h.parts;
      }

  -- the next piece has no room, nor so the whole
  pub stops : (rest : List ℕ) {piece : List ℕ} {n : NoRoom} {r : Result ⊤ NoRoom} → left ≡ piece ++ rest → Puts piece (Err n) v u → IsErr r → Puts whole r w u
  stops rest {piece} e p k = rw (← h.parts, e) (puts_then h.so_far (puts_stop piece rest p k))

-- nothing is to be written here
pub passes : {w v : Writer} {left rest whole : List ℕ} → Underway w v left whole → left ≡ rest → Underway w v rest whole
passes h e = rw e at h

-- nothing is left
pub ends : {w v : Writer} {left whole : List ℕ} → Underway w v left whole → left ≡ [] → Puts whole (Ok tt) w v
ends h e = rw (← h.parts, e, append-nil h.done) h.so_far
