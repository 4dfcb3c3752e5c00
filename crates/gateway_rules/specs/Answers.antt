-- What the code's answers mean: an answer is a struct, and the buffer that it left stands beside it. Assumes nothing.
use Rattle.std.specs.Prelude.{ℕ, List}
use Rattle.gateway_rules.specs.declared.Answer.{Answer}
use Rattle.gateway_rules.specs.Rules.{After}

-- what a call answered, with the buffer that it left
abbrev pub after_call : Answer → (reply : List ℕ) → After
after_call r reply = record { number = r.number; length = r.length; gateway = r.gateway; reply = reply }
