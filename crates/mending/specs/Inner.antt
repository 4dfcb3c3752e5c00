-- What is written of what mending gives, piece by piece: the records, and a line for each stretch. Assumes nothing.
use Rattle.std.specs.Prelude.{ℕ, ◌<◌, ◌≡◌, ◌⊎◌, ⊤, List, [], ◌∷◌, ◌++◌, length, Result, Ok, Err, OnOk, OnErr}
use Rattle.capture_rules.specs.Capture.{record_bytes}
use Rattle.capture_rules.specs.Mended.{mended_bytes}
use Rattle.capture.specs.Items.{Entry}
use Rattle.text.specs.declared.writer.NoRoom.{NoRoom}
use Rattle.text.specs.declared.writer.Writer.{Writer}
use Rattle.text.specs.Writing.{Puts, rest_of}
use Rattle.mending.specs.Account.{stretch_text, told_text}

-- what a piece adds to the records, and to the lines
abbrev pub piece_bytes : Result Entry (ℕ × ℕ) → List ℕ
piece_bytes (Ok e) = record_bytes e.to_device e.message
piece_bytes (Err s) = []

abbrev pub piece_text : Result Entry (ℕ × ℕ) → List ℕ
piece_text (Ok e) = []
piece_text (Err s) = stretch_text s.0 s.1

unfoldable pub pieces_bytes : List (Result Entry (ℕ × ℕ)) → List ℕ
pieces_bytes [] = []
pieces_bytes (x ∷ xs) = piece_bytes x ++ pieces_bytes xs

unfoldable pub pieces_text : List (Result Entry (ℕ × ℕ)) → List ℕ
pieces_text [] = []
pieces_text (x ∷ xs) = piece_text x ++ pieces_text xs

-- all of them, in the two buffers; or one of the two has no room for its own
pub record Mends (capture : List ℕ) (result : Result ⊤ NoRoom) (out told out' told' : Writer) : Type 0 where
  pub records : OnOk result (Puts (mended_bytes capture) (Ok tt) out out')
  pub lines : OnOk result (Puts (told_text capture) (Ok tt) told told')
  pub full : OnErr result ((length (rest_of out) < length (mended_bytes capture)) ⊎ (length (rest_of told) < length (told_text capture)))
  pub same_out : out'.out.ghost_name ≡ out.out.ghost_name
  pub same_told : told'.out.ghost_name ≡ told.out.ghost_name
