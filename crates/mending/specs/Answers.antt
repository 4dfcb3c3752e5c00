-- What the code's answer means. Assumes nothing.
use Rattle.std.specs.Prelude.{ℕ, List}
use Rattle.mending.specs.declared.Answer.{Answer}
use Rattle.mending.specs.Account.{Account}

-- what mend answered, with the buffers that it left
abbrev pub accounted : Answer → (out lines : List ℕ) → Account
accounted a out lines = record { length = a.length; told = a.told; out = out; lines = lines }
