-- What replay answers lies within the buffer. Assumes nothing.
use Prim.Native.Nat.{ℕ, ◌≤◌}
use mathlib.Core.Path.{◌≡◌}
use mathlib.Core.List.{List}
use lib.ListN.{length}
use Rattle.text.specs.Answers.{written}
use Rattle.text.proofs.Fronting.{within as within-front}
use Rattle.transcript.specs.Transcript.{replay_text, out_room, replay_of}

-- the text that is answered lies within the buffer
pub within : (capture out : List ℕ) {now : List ℕ} {r : ℕ} → written r now ≡ replay_of capture out → r ≤ length now
unfolding replay_of
within capture out = within-front out_room (replay_text capture) out
