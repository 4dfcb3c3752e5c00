-- Rules in computed cases: a table has a row for each case, with what is given to the rule and what the papers answer. Assumes nothing.
use Rattle.std.specs.Prelude.{ℕ, zero, suc, ◌≡◌, Bool, List, [], ◌∷◌, map}
use Rattle.basis.specs.Choice.{pick}

-- in every row, what the rule gives is what the row says
abbrev pub Agree : {Row A : Type 0} → (given said : Row → A) → List Row → Type 0
Agree given said rows = map given rows ≡ map said rows

-- those of the n numbers from i on that a test allows
abbrev pub allowed_from : (i n : ℕ) → (ℕ → Bool) → List ℕ
allowed_from i zero test = []
allowed_from i (suc n) test =
    let rest : List ℕ = allowed_from (suc i) n test in
    pick (test i) (i ∷ rest) rest

-- the bytes that a test allows
abbrev pub allowed : (ℕ → Bool) → List ℕ
allowed test = allowed_from 0 256 test
