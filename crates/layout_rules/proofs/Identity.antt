-- The layouts lose nothing: bytes to record and back, and record to bytes and back, are the identity. Assumes nothing.
use Prim.Native.Nat.{ℕ, ◌+◌, ◌≤◌}
use native.Mathlib.Omega.{arith}
use mathlib.Core.Path.{◌≡◌, sym, ◌∙◌, ap}
use mathlib.Core.List.{List, [], ◌∷◌, ◌++◌, append_assoc}
use lib.ListN.{length, take, drop, get_or, length-append}
use lib.Seq.{get_or-drop, drop_at, drop-drop}
use Rattle.basis.specs.Bytes.{Bytes, word_at, word_bytes, qword_at, qword_bytes, part, over}
use Rattle.basis.proofs.Lists.{word_part, word_back, word_drop, qword_part, qword_back, qword_drop, part_within, part_front, part_drop, over_take}
use Rattle.message.specs.declared.Fields.{Fields}
use Rattle.message.specs.Messages.{fields_bytes}
use Rattle.device_record.specs.declared.Device.{Device}
use Rattle.gateway_record.specs.declared.Gateway.{Gateway}
use Rattle.gateway_record.specs.Record.{package_fields}
use Rattle.layout_rules.specs.Identity.{Identity}
use Rattle.layout_rules.specs.Layout.{front_bytes, expected_bytes, device_bytes, device_at, device_length, gateway_bytes, gateway_at, gateway_length}

-- ---- bytes to record and back

module _ (b : List ℕ) (h : Bytes b) where
  two : (at : ℕ) → word_bytes (word_at b at) ≡ part b at 2
  two = word_part b h

  device_back : device_length ≤ length b → device_bytes (device_at b) ≡ take device_length b
  unfolding front_bytes device_bytes device_at part
  device_back room =
      (λ i. (get_or b 0 0 ∷ [] ++ (part b 1 16 ++ ((part b 17 16 ++ (two 33 i ++ (two 35 i ++ two 37 i)))
      ++ (two 39 i ++ (two 41 i ++ (get_or b 43 0 ∷ [])))))) ++ (get_or b 44 0 ∷ part b 45 16))
      ∙ part_within b 0 device_length room

  gateway_back : gateway_length ≤ length b → gateway_bytes (gateway_at b) ≡ take gateway_length b
  unfolding gateway_bytes gateway_at part
  gateway_back room =
      (λ i. get_or b 0 0 ∷ get_or b 1 0 ∷ [] ++ (part b 2 16 ++ (two 18 i ++ (qword_part b h 20 i ++ two 28 i))))
      ∙ part_within b 0 gateway_length room

-- ---- record to bytes and back

-- a WORD behind k elements
word_from : (k at : ℕ) (xs ys : List ℕ) → drop k xs ≡ ys → word_at xs (k + at) ≡ word_at ys at
word_from k at xs ys e = sym (word_drop k xs at) ∙ ap (λ (l : List ℕ). word_at l at) e

module _ (d : Device) (o : List ℕ) (running : length d.running ≡ 16) (target : length d.fields.version ≡ 16)
    (digest : length d.expected.digest ≡ 16) where
  numbers : List ℕ
  numbers =
      word_bytes d.fields.size ++ (word_bytes d.fields.total ++ (word_bytes d.fields.code ++ (word_bytes d.stored ++ (word_bytes d.last
      ++ (d.outcome ∷ d.expected.set ∷ (d.expected.digest ++ drop device_length o))))))

  all : List ℕ
  all = d.phase ∷ (d.running ++ (d.fields.version ++ numbers))

  length-device : length (device_bytes d) ≡ device_length
  unfolding front_bytes device_bytes
  length-device = simp (length-append, running, target, digest) (omega arith)

  laid : over (device_bytes d) o ≡ all
  unfolding over front_bytes device_bytes all numbers
  laid =
      ap (λ (k : ℕ). device_bytes d ++ drop k o) length-device
      ∙ append_assoc (front_bytes d) (expected_bytes d.expected) (drop device_length o)
      ∙ ap (λ (l : List ℕ). d.phase ∷ l)
      (append_assoc d.running _ _
      ∙ ap (λ (l : List ℕ). d.running ++ l) (append_assoc (fields_bytes d.fields) _ _ ∙ append_assoc d.fields.version _ _))

  behind-running : drop 17 all ≡ d.fields.version ++ numbers
  unfolding all
  behind-running = drop_at d.running (d.fields.version ++ numbers) 16 running

  behind-target : drop 33 all ≡ numbers
  behind-target = sym (drop-drop 16 17 all) ∙ ap (drop 16) behind-running ∙ drop_at d.fields.version numbers 16 target

  device_kept : device_at (over (device_bytes d) o) ≡ d
  unfolding device_at all numbers
  device_kept =
      let run : part all 1 16 ≡ d.running = sym (part_drop 1 all 0 16) ∙ part_front d.running _ 16 running in
      let text : part all 17 16 ≡ d.fields.version =
      sym (part_drop 17 all 0 16) ∙ ap (λ (l : List ℕ). part l 0 16) behind-running ∙ part_front d.fields.version _ 16 target in
      let size : word_at all 33 ≡ d.fields.size = word_from 33 0 all numbers behind-target ∙ word_back _ in
      let total : word_at all 35 ≡ d.fields.total = word_from 33 2 all numbers behind-target ∙ word_back _ in
      let code : word_at all 37 ≡ d.fields.code = word_from 33 4 all numbers behind-target ∙ word_back _ in
      let stored : word_at all 39 ≡ d.stored = word_from 33 6 all numbers behind-target ∙ word_back _ in
      let last : word_at all 41 ≡ d.last = word_from 33 8 all numbers behind-target ∙ word_back _ in
      let outcome : get_or all 43 0 ≡ d.outcome = sym (get_or-drop 33 all 10 0) ∙ ap (λ (l : List ℕ). get_or l 10 0) behind-target in
      let set : get_or all 44 0 ≡ d.expected.set = sym (get_or-drop 33 all 11 0) ∙ ap (λ (l : List ℕ). get_or l 11 0) behind-target in
      let sum : part all 45 16 ≡ d.expected.digest =
      sym (part_drop 33 all 12 16) ∙ ap (λ (l : List ℕ). part l 12 16) behind-target
      ∙ sym (part_drop 12 numbers 0 16) ∙ part_front d.expected.digest _ 16 digest in
      ap device_at laid ∙ (λ i. record {
        phase = d.phase;
        running = run i;
        fields = record { version = text i; size = size i; total = total i; code = code i };
        stored = stored i;
        last = last i;
        outcome = outcome i;
        expected = record { set = set i; digest = sum i };
      })

module _ (g : Gateway) (o : List ℕ) (target : length g.fields.version ≡ 16) where
  gateway-numbers : List ℕ
  gateway-numbers = word_bytes g.fields.size ++ (qword_bytes g.length ++ (word_bytes g.fields.code ++ drop gateway_length o))

  gateway-all : List ℕ
  gateway-all = g.phase ∷ g.ending ∷ (g.fields.version ++ gateway-numbers)

  length-gateway : length (gateway_bytes g) ≡ gateway_length
  unfolding gateway_bytes qword_bytes
  length-gateway = simp (length-append, target) (omega arith)

  gateway_laid : over (gateway_bytes g) o ≡ gateway-all
  unfolding over gateway_bytes gateway-all gateway-numbers qword_bytes
  gateway_laid =
      ap (λ (k : ℕ). gateway_bytes g ++ drop k o) length-gateway ∙ ap (λ (l : List ℕ). g.phase ∷ g.ending ∷ l) (append_assoc g.fields.version _ _)

  behind-version : drop 18 gateway-all ≡ gateway-numbers
  unfolding gateway-all
  behind-version = drop_at g.fields.version gateway-numbers 16 target

  gateway_kept : g.fields ≡ package_fields g.fields.version g.fields.size g.length g.fields.code
      → gateway_at (over (gateway_bytes g) o) ≡ g
  unfolding gateway_at gateway-all gateway-numbers qword_bytes
  gateway_kept fields =
      let n : ℕ = g.length in
      let text : part gateway-all 2 16 ≡ g.fields.version = sym (part_drop 2 gateway-all 0 16) ∙ part_front g.fields.version _ 16 target in
      let at : (k : ℕ) → word_at gateway-all (18 + k) ≡ word_at gateway-numbers k = λ k. word_from 18 k gateway-all gateway-numbers behind-version in
      let size : word_at gateway-all 18 ≡ g.fields.size = at 0 ∙ word_back _ in
      let long : qword_at gateway-all 20 ≡ g.length =
      sym (qword_drop 18 gateway-all 2) ∙ ap (λ (l : List ℕ). qword_at l 2) behind-version ∙ sym (qword_drop 2 gateway-numbers 0) ∙ qword_back n _ in
      let code : word_at gateway-all 28 ≡ g.fields.code = at 10 ∙ word_back _ in
      ap gateway_at gateway_laid
      ∙ (λ i. record { phase = g.phase; ending = g.ending; fields = package_fields (text i) (size i) (long i) (code i); length = long i })
      ∙ ap (λ (f : Fields). record { phase = g.phase; ending = g.ending; fields = f; length = g.length }) (sym fields)

-- ---- the claim

pub identity : Identity
identity =
    record {
      device_back = device_back;
      device_same = λ b h room. ap (λ (p : List ℕ). over p b) (device_back b h room) ∙ over_take device_length b room;
      gateway_back = gateway_back;
      gateway_same = λ b h room. ap (λ (p : List ℕ). over p b) (gateway_back b h room) ∙ over_take gateway_length b room;
      device_kept = λ d buffer t. device_kept d buffer t.running t.target t.digest;
      gateway_kept = λ g buffer w. gateway_kept g buffer w.target w.fields;
      device_length = λ d t. length-device d [] t.running t.target t.digest;
      gateway_length = λ g t. length-gateway g [] t;
    }
