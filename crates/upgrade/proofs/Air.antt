-- The air: bytes of messages, of each of which something holds; what is heard from it is one of them. Assumes nothing.
use Prim.Native.Nat.{ℕ}
use mathlib.Core.Path.{◌≡◌, sym, ◌∙◌, ap, subst}
use mathlib.Core.Bool.{Bool}
use mathlib.Core.List.Memᴰ
use mathlib.Core.List.{List, [], ◌∷◌, ◌++◌, Memᴰ}
use mathlib.Core.Logic.{◌⊎◌, inl, inr}
use lib.ListN.{length}
use Rattle.basis.specs.Choice.{pick}
use Rattle.basis.specs.Bytes.{over}
use Rattle.basis.proofs.Choosing.{by_cases}
use Rattle.basis.proofs.Lists.{take_over}
use Rattle.message.specs.Messages.{Table, Reading, found}
use Rattle.codec.specs.Codec.{bytes_of, read_of}
use Rattle.round_trips.proofs.WrittenRead.{Told, heard_by}
use Rattle.upgrade.specs.Calls.{aired}

module _ (t : Table) where
  -- everything on the air is some message's bytes, and P holds of the message
  abbrev pub Air : (t.Message → Type 0) → List (List ℕ) → Type 0
  Air P air = (b : List ℕ) → Memᴰ b air → (m : t.Message) × (b ≡ bytes_of t m) × P m

  -- P holds of what is heard, if anything
  abbrev pub Heard : (t.Message → Type 0) → Reading t.Message → Type 0
  Heard P heard = (m : t.Message) → heard ≡ found m → P m

  module _ {P : t.Message → Type 0} where
    pub air_none : Air P []
    air_none b h = absurd (Memᴰ.not-nil h)

    pub air_one : (m : t.Message) → P m → Air P (bytes_of t m ∷ [])
    air_one m p b h = (m, Memᴰ.eq_of_singleton h, p)

    pub air_more : (xs ys : List (List ℕ)) → Air P xs → Air P ys → Air P (xs ++ ys)
    air_more xs ys p q b h = either (Memᴰ.append_cases xs h)
      where
        either : Memᴰ b xs ⊎ Memᴰ b ys → (m : t.Message) × (b ≡ bytes_of t m) × P m
        either (inl i) = p b i
        either (inr i) = q b i

    pub air_map : {Q : t.Message → Type 0} → ((m : t.Message) → P m → Q m) → (air : List (List ℕ)) → Air P air → Air Q air
    air_map f air p b h = let x : (m : t.Message) × (b ≡ bytes_of t m) × P m = p b h in (x.0, x.1, f x.0 x.2)

    -- what is heard is on the air
    pub air_heard : Told t → (air : List (List ℕ)) → Air P air → (supported pcp : Bool) (b : List ℕ) → Memᴰ b air
        → Heard P (read_of t supported pcp b)
    air_heard told air p supported pcp b h n e =
        let x : (m : t.Message) × (b ≡ bytes_of t m) × P m = p b h in
        let same : n ≡ x.0 = heard_by t told supported pcp x.0 n (ap (read_of t supported pcp) (sym x.1) ∙ e) in
        subst P (sym same) x.2

    -- what a call leaves in its buffer is put on the air
    pub air_silent : (n : ℕ) (buffer : List ℕ) → n ≡ 0 → Air P (aired n buffer)
    unfolding aired pick
    air_silent n buffer e = rw e air_none

    pub air_said : (m : t.Message) (n : ℕ) (buffer reply : List ℕ) → n ≡ length (bytes_of t m) → buffer ≡ over (bytes_of t m) reply → P m
        → Air P (aired n buffer)
    unfolding aired
    air_said m n buffer reply e f p =
        by_cases (Air P) (λ _. air_none) (λ _. rw (e, f, take_over (bytes_of t m) reply) (air_one m p))
