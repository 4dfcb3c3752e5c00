-- The package in fragments: how many there are, where each stands and how long it is, and what a start that is answered 0 tells.
-- Assumes nothing.
use Prim.Native.Nat.{ℕ, suc, ◌+◌, ◌*◌, ◌-◌, ◌/◌, ◌%◌, ◌≤◌, ◌<◌, min}
use native.Mathlib.Nat.{lt-div-mul-add, le-div_iff_mul-le, div-lt_iff_lt-mul, mul_comm, suc-mul}
use native.Mathlib.Omega.{arith}
use mathlib.Core.Path.{◌≡◌, refl}
use mathlib.Core.Bool.{Bool, true}
use mathlib.Core.List.{List}
use Rattle.std.proofs.lemmas.Grind.{div_ceil_times}
use lib.Dec.{eqb}
use lib.ListN.{length, take, drop, length-take, length-drop}
use borrow.Author.Tests.{eqb-true, eqb-false}
use Rattle.basis.specs.Choice.{pick}
use Rattle.basis.proofs.Choosing.{pick_yes, by_cases, passed}
use Rattle.checksum.specs.Check.{check_of}
use Rattle.message.specs.Limits.{total_max, size_ok}
use Rattle.message.specs.Version.{good_version}
use Rattle.gateway_record.specs.declared.Started.{Started}
use Rattle.gateway_record.specs.Record.{total_of, length_ok, fragment_of, started, start_of, start_refusal}

-- ---- how many fragments there are

module _ (n size : ℕ) (h : 0 < size) where
  -- they cover the package
  pub total_covers : n ≤ size * total_of n size
  unfolding total_of
  total_covers =
      let k : n + (size - 1) < (n + (size - 1)) / size * size + size = lt-div-mul-add h in
      omega (arith, mul_comm size ((n + (size - 1)) / size))

  -- an index is below the total exactly where its fragment starts before the package's end
  pub below_total : (index : ℕ) → index < total_of n size → index * size < n
  unfolding total_of
  below_total index l = omega (arith, (le-div_iff_mul-le h).0 l, suc-mul index size)

  pub total_above : (index : ℕ) → index * size < n → index < total_of n size
  unfolding total_of
  total_above index l = (le-div_iff_mul-le {k = size} h).1 (omega (arith, suc-mul index size))

  pub total_some : 1 ≤ n → 1 ≤ total_of n size
  total_some k = total_above 0 (omega arith)

  pub total_most : n ≤ total_max * size → total_of n size ≤ total_max
  unfolding total_of
  total_most l = omega (arith, (div-lt_iff_lt-mul {k = size} {x = n + (size - 1)} {y = suc total_max} h).1 (omega arith))

  -- the code's quotient, rounded up, is it
  pub rounded_up : n / size + min 1 (n % size) ≡ total_of n size
  unfolding total_of
  rounded_up =
      let q : ℕ = n / size + min 1 (n % size) in
      let (covers, close) = div_ceil_times n size h in
      let low : q ≤ (n + (size - 1)) / size = (le-div_iff_mul-le {k = size} h).1 (omega (arith, covers, close)) in
      let high : (n + (size - 1)) / size < suc q = (div-lt_iff_lt-mul {k = size} h).1 (omega (arith, covers, close, suc-mul q size)) in
      omega (arith, low, high)

-- ---- how long each is

module _ (content : List ℕ) (size index : ℕ) where
  pub fragment_is : fragment_of content size index ≡ take size (drop (index * size) content)
  unfolding fragment_of
  fragment_is = refl

  pub length_fragment : length (fragment_of content size index) ≡ min size (length content - index * size)
  unfolding fragment_of
  length_fragment = simp (length-take, length-drop)

  pub stretch_fits : length (fragment_of content size index) ≤ size
  stretch_fits = omega (arith, length_fragment)

  module _ (h : 0 < size) (l : index < total_of (length content) size) where
    pub stretch_within : index * size + length (fragment_of content size index) ≤ length content
    stretch_within = omega (arith, length_fragment, below_total (length content) size h index l)

    pub stretch_some : 1 ≤ length (fragment_of content size index)
    stretch_some = omega (arith, length_fragment, below_total (length content) size h index l)

-- ---- the start

-- what a start that is answered 0 tells: the record, and that what it is made of is good
pub record StartedOn (version : List ℕ) (size : ℕ) (content : List ℕ) (code : ℕ) (s : Started) : Type 0 where
  pub made : s.gateway ≡ started version size (length content) code
  pub version_good : good_version version ≡ true
  pub size_ok : size_ok size ≡ true
  pub length_ok : length_ok (length content) size ≡ true

pub starts : (version : List ℕ) (size : ℕ) (content : List ℕ) (checked : Bool) → (start_of version size content checked).number ≡ 0
    → StartedOn version size content (pick checked (check_of content) 0) (start_of version size content checked)
unfolding start_of
starts version size content checked =
    let n : ℕ = start_refusal version size (length content) in
    by_cases (λ (s : Started). s.number ≡ 0 → StartedOn version size content (pick checked (check_of content) 0) s) {t = eqb n 0}
    (λ t _.
    let (v, e₁) = passed 16 (good_version version) _ (eqb-true n 0 t) in
    let (k, e₂) = passed 17 (size_ok size) _ e₁ in
    let (l, _) = passed 18 (length_ok (length content) size) _ e₂ in
    record { made = refl; version_good = v; size_ok = k; length_ok = l })
    (λ t z. absurd (eqb-false n 0 t z))

-- the fields that such a start announces
pub started_fields : (version : List ℕ) (size : ℕ) (content : List ℕ) (code : ℕ) {s : Started} → StartedOn version size content code s
    → s.gateway.fields ≡ record { version = version; size = size; total = total_of (length content) size; code = code }
started_fields version size content code s = rw (s.made, pick_yes {A = ℕ} (length_ok (length content) size) (total_of (length content) size) 0 s.length_ok)
