-- The four fields past the end of a list. Assumes nothing.
use Prim.Native.Nat.{ℕ, ◌+◌, ◌≤◌}
use native.Mathlib.Omega.{arith}
use mathlib.Core.Path.{◌≡◌}
use mathlib.Core.List.{List}
use lib.ListN.{length}
use Rattle.basis.specs.Bytes.{part}
use Rattle.basis.proofs.Lists.{word_none}
use Rattle.message.specs.declared.Fields.{Fields}
use Rattle.message.specs.Messages.{fields_at}

pub fields_none : (xs : List ℕ) (at : ℕ) (version : List ℕ) → version ≡ part xs at 16 → length xs ≤ at
    → ◌≡◌ {A = Fields} (record { version = version; size = 0; total = 0; code = 0 }) (fields_at xs at)
fields_none xs at version v h =
    rw (v, word_none xs (at + 16) (omega arith), word_none xs (at + 18) (omega arith), word_none xs (at + 20) (omega arith))
