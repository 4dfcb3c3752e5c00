-- What decode answers lies within the buffer. Assumes nothing.
use Prim.Native.Nat.{ℕ, ◌≤◌}
use mathlib.Core.Path.{◌≡◌}
use mathlib.Core.List.{List}
use lib.ListN.{length}
use Rattle.text.specs.Answers.{written}
use Rattle.text.proofs.Fronting.{within as within-front}
use Rattle.decoding_rules.specs.Decode.{decode_text, out_room, decode_of}

pub within : (capture out : List ℕ) {now : List ℕ} {r : ℕ} → written r now ≡ decode_of capture out → r ≤ length now
unfolding decode_of
within capture out = within-front out_room (decode_text capture) out
