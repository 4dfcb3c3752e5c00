-- 01's table, column by column: fields and data stand for each other. Assumes nothing.
use Prim.Native.Nat.{ℕ, ◌+◌, ◌≤◌, ◌<◌}
use native.Mathlib.Nat.{div-add-mod'}
use native.Mathlib.Omega.{arith}
use mathlib.Core.Path.{◌≡◌, refl, sym, ◌∙◌}
use mathlib.Core.Bool.{Bool, true}
use mathlib.Core.List.{List, [], ◌∷◌, ◌++◌}
use lib.Dec.{eqb, leb}
use lib.ListN.{length, length-append}
use lib.Seq.{take_all}
use borrow.Author.Tests.{eqb-true, eqb-false, leb-true}
use Rattle.basis.specs.Choice.{pick, one_of}
use Rattle.basis.specs.Bytes.{word_bytes, part}
use Rattle.basis.proofs.Choosing.{by_cases, and_left, and_right}
use Rattle.basis.proofs.Lists.{part_within, part_front, word_behind}
use Rattle.message.specs.Limits.{size_max, is_word}
use Rattle.message.specs.Version.{good_version}
use Rattle.message.specs.Messages.{DeviceMessage, device_fields, fragment_ok, GatewayMessage, gateway_fields, install_code, Table, to_device}
use Rattle.message.specs.Messages.{to_gateway, device_row, gateway_row}

-- what the round trips need of a column
pub record Lawful (t : Table) : Type 0 where
  -- a message's fields come back from its data
  pub restored : (m : t.Message) → t.valid m ≡ true → t.fields (t.code m) (t.content m) ≡ m
  -- the code is 19 to 24, and the sender's buffer holds the message
  pub bounds : (m : t.Message) → t.valid m ≡ true → (19 ≤ t.code m) × (t.code m ≤ 24) × (8 + length (t.content m) ≤ t.room)
  -- data of a code is read as a message of that code
  pub code_kept : (code : ℕ) (d : List ℕ) → 19 ≤ code → code ≤ 24 → t.code (t.fields code d) ≡ code

-- the first two of them for one message
abbrev Message : (t : Table) → t.Message → Type 0
Message t m = (t.fields (t.code m) (t.content m) ≡ m) × ((19 ≤ t.code m) × (t.code m ≤ 24) × (8 + length (t.content m) ≤ t.room))

-- ---- fields in data

pub version_length : (v : List ℕ) → good_version v ≡ true → length v ≡ 16
unfolding good_version
version_length v e = eqb-true (length v) 16 (and_left _ _ e)

pub part_rest : (x : ℕ) (v : List ℕ) (n : ℕ) → length v ≡ n → part (x ∷ v) 1 n ≡ v
part_rest x v n e = part_within (x ∷ v) 1 n (omega arith) ∙ take_all n v (omega arith)

-- the code chooses the message
pub by_code : (M : Type 0) (code_of : M → ℕ) (code : ℕ) {a b c d e f : M} → 19 ≤ code → code ≤ 24
    → code_of a ≡ 19 → code_of b ≡ 20 → code_of c ≡ 21 → code_of d ≡ 22 → code_of e ≡ 23 → code_of f ≡ 24
    → code_of (pick (eqb code 19) a (pick (eqb code 20) b (pick (eqb code 21) c (pick (eqb code 22) d (pick (eqb code 23) e f))))) ≡ code
by_code M code_of code low high ha hb hc hd he hf =
    let P : M → Type 0 = λ x. code_of x ≡ code in
    by_cases P (λ y. ha ∙ sym (eqb-true code 19 y)) λ n₁.
    by_cases P (λ y. hb ∙ sym (eqb-true code 20 y)) λ n₂.
    by_cases P (λ y. hc ∙ sym (eqb-true code 21 y)) λ n₃.
    by_cases P (λ y. hd ∙ sym (eqb-true code 22 y)) λ n₄.
    by_cases P (λ y. he ∙ sym (eqb-true code 23 y)) λ n₅.
    omega (arith, hf, eqb-false code 19 n₁, eqb-false code 20 n₂, eqb-false code 21 n₃, eqb-false code 22 n₄, eqb-false code 23 n₅)

-- ---- toward the device

fragment_length : (result : ℕ) (bytes : List ℕ) → fragment_ok result bytes ≡ true → length bytes ≤ size_max
unfolding fragment_ok
fragment_length result bytes =
    by_cases (λ (t : Bool). t ≡ true → length bytes ≤ size_max) (λ _ e. leb-true _ _ (and_right (leb 1 (length bytes)) _ e))
    (λ _ e. omega (arith, eqb-true (length bytes) 0 (and_right (one_of result (0x80 ∷ 0x81 ∷ [])) _ e)))

device_message : (m : DeviceMessage) → to_device.valid m ≡ true → Message to_device m
unfolding device_row device_fields pick
device_message DeviceMessage.query v = (refl, omega arith)
device_message (DeviceMessage.announce f) v =
    let n : length f.version ≡ 16 = version_length f.version (and_left _ _ v) in
    let words : List ℕ = word_bytes f.size ++ (word_bytes f.total ++ word_bytes f.code) in (
      rw (
        part_front f.version words 16 n,
        word_behind f.version words 16 0 n,
        word_behind f.version words 16 2 n,
        word_behind f.version words 16 4 n,
        div-add-mod' f.size 256,
        div-add-mod' f.total 256,
        div-add-mod' f.code 256,
      ),
      simp length-append (omega arith),
    )
device_message (DeviceMessage.fragment result index bytes) v =
    (rw (div-add-mod' index 256), omega (arith, fragment_length result bytes (and_right (is_word index) _ v)))
device_message (DeviceMessage.download_reply result) v = (refl, omega arith)
device_message DeviceMessage.execute v = (refl, omega arith)
device_message (DeviceMessage.result_reply result) v = (refl, omega arith)

device_kept : (code : ℕ) (d : List ℕ) → 19 ≤ code → code ≤ 24 → to_device.code (device_fields code d) ≡ code
unfolding device_fields device_row
device_kept code d low high = by_code DeviceMessage to_device.code code low high refl refl refl refl refl refl

pub device_lawful : Lawful to_device
device_lawful = record { restored = λ m v. (device_message m v).0; bounds = λ m v. (device_message m v).1; code_kept = device_kept }

-- ---- toward the gateway

gateway_message : (m : GatewayMessage) → to_gateway.valid m ≡ true → Message to_gateway m
unfolding gateway_row gateway_fields pick
gateway_message (GatewayMessage.query_reply result version) v =
    let n : length version ≡ 16 = version_length version (and_right (one_of result (0x00 ∷ [])) _ v) in
    (rw (part_rest result version 16 n), omega arith)
gateway_message (GatewayMessage.announce_reply result) v = (refl, omega arith)
gateway_message (GatewayMessage.fragment_request version index) v =
    let n : length version ≡ 16 = version_length version (and_left _ _ v) in
    (rw (part_front version (word_bytes index) 16 n, word_behind version (word_bytes index) 16 0 n, div-add-mod' index 256), simp length-append (omega arith))
gateway_message (GatewayMessage.download_report result) v = (refl, omega arith)
gateway_message (GatewayMessage.execute_reply result) v = (refl, omega arith)
gateway_message (GatewayMessage.result_report result version) v =
    let n : length version ≡ 16 = version_length version (and_right (install_code result) _ v) in
    (rw (part_rest result version 16 n), omega arith)

gateway_kept : (code : ℕ) (d : List ℕ) → 19 ≤ code → code ≤ 24 → to_gateway.code (gateway_fields code d) ≡ code
unfolding gateway_fields gateway_row
gateway_kept code d low high = by_code GatewayMessage to_gateway.code code low high refl refl refl refl refl refl

pub gateway_lawful : Lawful to_gateway
gateway_lawful = record { restored = λ m v. (gateway_message m v).0; bounds = λ m v. (gateway_message m v).1; code_kept = gateway_kept }

-- ---- what is allowed has room in its sender's buffer, and its data in a length WORD

module _ (t : Table) (lawful : Lawful t) (small : t.room ≤ 65536) where
  fits : (m : t.Message) → t.valid m ≡ true → (8 + length (t.content m) ≤ t.room) × (length (t.content m) < 65536)
  fits m v = ((lawful.bounds m v).2, omega (arith, (lawful.bounds m v).2))

pub device_fits : (m : DeviceMessage) → to_device.valid m ≡ true → (8 + length (to_device.content m) ≤ to_device.room) × (length (to_device.content m) < 65536)
device_fits = fits to_device device_lawful (omega arith)

pub gateway_fits : (m : GatewayMessage) → to_gateway.valid m
    ≡ true → (8 + length (to_gateway.content m) ≤ to_gateway.room) × (length (to_gateway.content m) < 65536)
gateway_fits = fits to_gateway gateway_lawful (omega arith)
