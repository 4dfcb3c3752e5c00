-- Lists of calls, of any kind, on any state: laws of `after` and `Allowed`, and the one induction over runs. Assumes nothing.
use mathlib.Core.Path.{◌≡◌, refl, sym, subst}
use mathlib.Core.List.{List, [], ◌∷◌, ◌++◌, append_assoc, append-nil}
use Rattle.upgrade.specs.Fold.{after, Allowed}

module _ {S C : Type 0} (next : S → C → S) where
  pub after_append : (s : S) (xs ys : List C) → after next s (xs ++ ys) ≡ after next (after next s xs) ys
  after_append s [] ys = refl
  after_append s (x ∷ xs) ys = after_append (next s x) xs ys

  module _ (may : S → C → Type 0) where
    pub allowed_front : (s : S) (xs ys : List C) → Allowed next may s (xs ++ ys) → Allowed next may s xs
    allowed_front s [] ys a = tt
    allowed_front s (x ∷ xs) ys a = (a.0, allowed_front (next s x) xs ys a.1)

    pub allowed_rest : (s : S) (xs ys : List C) → Allowed next may s (xs ++ ys) → Allowed next may (after next s xs) ys
    allowed_rest s [] ys a = a
    allowed_rest s (x ∷ xs) ys a = allowed_rest (next s x) xs ys a.1

    pub allowed_last : (s : S) (xs : List C) (c : C) → Allowed next may s xs → may (after next s xs) c → Allowed next may s (xs ++ (c ∷ []))
    allowed_last s [] c a m = (m, tt)
    allowed_last s (x ∷ xs) c a m = (a.0, allowed_last (next s x) xs c a.1 m)

    -- What holds at the start and is kept by every call that may be made holds after every allowed list. It may speak of the list.
    module _ (I : List C → S → Type 0) (s : S)
        (keeps : (xs : List C) (c : C) → I xs (after next s xs) → may (after next s xs) c → I (xs ++ (c ∷ [])) (next (after next s xs) c)) where
      from : (cs xs : List C) → I xs (after next s xs) → Allowed next may (after next s xs) cs → I (xs ++ cs) (after next s (xs ++ cs))
      from [] xs i a = rw (append-nil xs) i
      from (c ∷ cs) xs i a =
          let e : next (after next s xs) c ≡ after next s (xs ++ (c ∷ [])) = sym (after_append s xs (c ∷ [])) in
          rw (← append_assoc xs (c ∷ []) cs)
          (from cs (xs ++ (c ∷ [])) (subst (I (xs ++ (c ∷ []))) e (keeps xs c i a.0)) (subst (λ (t : S). Allowed next may t cs) e a.1))

      pub always : I [] s → (cs : List C) → Allowed next may s cs → I cs (after next s cs)
      always i cs a = from cs [] i a
