-- Runs that show other runs: where each call leads to what the shown call leads to, so does every list, and what is allowed here is allowed
-- there. Assumes nothing.
use mathlib.Core.Path.{◌≡◌, refl, ◌∙◌, ap, subst}
use mathlib.Core.List.{List, [], ◌∷◌, ◌++◌, map, nil≢cons, head-eq_of_cons-eq, tail-eq_of_cons-eq}
use Rattle.upgrade.specs.Fold.{after, Allowed}

module _ {S C W D : Type 0} (next_s : S → C → S) (next_w : W → D → W) (see : S → W) (of : C → D) (Inv : S → Type 0)
    (keeps : (s : S) (c : C) → Inv s → Inv (next_s s c)) (one : (s : S) (c : C) → Inv s → see (next_s s c) ≡ next_w (see s) (of c)) where
  pub shown : (cs : List C) (s : S) → Inv s → Inv (after next_s s cs) × (see (after next_s s cs) ≡ after next_w (see s) (map of cs))
  shown [] s i = (i, refl)
  shown (c ∷ cs) s i =
      let rest = shown cs (next_s s c) (keeps s c i) in
      (rest.0, rest.1 ∙ ap (λ (w : W). after next_w w (map of cs)) (one s c i))

  -- where what may be done here may be done there, so it is with lists
  pub allowed_shown : (may_s : S → C → Type 0) (may_w : W → D → Type 0) → ((s : S) (c : C) → may_s s c → may_w (see s) (of c)) → (cs : List C) (s : S) → Inv s
      → Allowed next_s may_s s cs → Allowed next_w may_w (see s) (map of cs)
  allowed_shown may_s may_w may [] s i a = tt
  allowed_shown may_s may_w may (c ∷ cs) s i a = (
    may s c a.0,
    subst (λ (w : W). Allowed next_w may_w w (map of cs)) (one s c i) (allowed_shown may_s may_w may cs (next_s s c) (keeps s c i) a.1),
  )

-- ---- a shown list that is split comes from a list that is split alike

module _ {C D : Type 0} (of : C → D) where
  pub record Split (cs : List C) (front back : List D) : Type 0 where
    pub first : List C
    pub second : List C
    pub whole : cs ≡ first ++ second
    pub first_is : map of first ≡ front
    pub second_is : map of second ≡ back

  pub split_shown : (cs : List C) (front back : List D) → map of cs ≡ front ++ back → Split cs front back
  split_shown cs [] back e = record { first = []; second = cs; whole = refl; first_is = refl; second_is = e }
  split_shown [] (d ∷ front) back e = absurd (nil≢cons e)
  split_shown (c ∷ cs) (d ∷ front) back e =
      let s : Split cs front back = split_shown cs front back (tail-eq_of_cons-eq e) in
      record {
        first = c ∷ s.first;
        second = s.second;
        whole = ap (λ (l : List C). c ∷ l) s.whole;
        first_is = λ i. head-eq_of_cons-eq e i ∷ s.first_is i;
        second_is = s.second_is;
      }

  pub record Headed (cs : List C) (d : D) (back : List D) : Type 0 where
    pub first : C
    pub rest : List C
    pub whole : cs ≡ first ∷ rest
    pub first_is : of first ≡ d
    pub rest_is : map of rest ≡ back

  pub head_shown : (cs : List C) (d : D) (back : List D) → map of cs ≡ d ∷ back → Headed cs d back
  head_shown [] d back e = absurd (nil≢cons e)
  head_shown (c ∷ cs) d back e =
      record { first = c; rest = cs; whole = refl; first_is = head-eq_of_cons-eq e; rest_is = tail-eq_of_cons-eq e }
