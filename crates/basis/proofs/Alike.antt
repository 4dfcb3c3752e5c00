-- The words of our definitions by those of std: one of a list, and the same bytes. Assumes nothing.
use Rattle.std.proofs.Common.{◌≡◌, ℕ, List, [], ◌∷◌, eqb, ◌&&◌, refl, ap}
use lib.Pointwise.{pointwise}
use Rattle.basis.specs.Bytes.{same}

pub same_is : (xs ys : List ℕ) → pointwise eqb xs ys ≡ same xs ys
unfolding same
same_is [] [] = refl
same_is [] (y ∷ ys) = refl
same_is (x ∷ xs) [] = refl
same_is (x ∷ xs) (y ∷ ys) = ap (λ r. eqb x y && r) (same_is xs ys)
