-- What the code's answers mean: an answer is a struct, and the buffers that it left stand beside it. Assumes nothing.
use Rattle.std.specs.Prelude.{ℕ, List}
use Rattle.device_rules.specs.declared.Answer.{Answer}
use Rattle.device_rules.specs.Rules.{After}

-- what a call answered, with the buffers that it left
abbrev pub after_call : Answer → (image map reply : List ℕ) → After
after_call r image map reply = record { number = r.number; length = r.length; device = r.device; image = image; map = map; reply = reply }
