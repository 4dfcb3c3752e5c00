-- What a writer has written, and what is left of its buffer. Assumes nothing.
use Rattle.std.specs.Prelude.{ℕ, ⊤, ◌<◌, ◌≤◌, ◌≡◌, List, ◌++◌, length, take, drop, Result, OnOk, OnErr}
use Rattle.text.specs.declared.writer.NoRoom.{NoRoom}
use Rattle.text.specs.declared.writer.Writer.{Writer}

-- the bytes before the place, and those from it on
unfoldable pub text_of : Writer → List ℕ
text_of w = take w.at w.out.now

unfoldable pub rest_of : Writer → List ℕ
rest_of w = drop w.at w.out.now

-- what writing a text leaves: the text behind what was written before, or, where it has no room, an error; and the buffer is the same one
pub record Puts (text : List ℕ) (result : Result ⊤ NoRoom) (old new : Writer) : Type 0 where
  pub written : OnOk result (text_of new ≡ text_of old ++ text)
  pub left : OnOk result (rest_of new ≡ drop (length text) (rest_of old))
  pub room : OnOk result (length text ≤ length (rest_of old))
  pub full : OnErr result (length (rest_of old) < length text)
  pub reference : new.out.ghost_name ≡ old.out.ghost_name

-- what a piece that is written whole or not at all leaves where it has no room: buffer and place stand
pub record Stands (old new : Writer) : Type 0 where
  pub buffer : new.out.now ≡ old.out.now
  pub place : new.at ≡ old.at
