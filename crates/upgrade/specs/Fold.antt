-- Lists of calls, of any kind, on any state. Assumes nothing.
use Rattle.std.specs.Prelude.{List, [], ◌∷◌}

module _ {S C : Type 0} (next : S → C → S) where
  -- the state after a list of calls
  abbrev pub after : S → List C → S
  after s [] = s
  after s (c ∷ cs) = after (next s c) cs

  -- every call of the list is one that may be made where it is made
  abbrev pub Allowed : (S → C → Type 0) → S → List C → Type 0
  Allowed may s [] = Unit {0}
  Allowed may s (c ∷ cs) = may s c × Allowed may (next s c) cs
