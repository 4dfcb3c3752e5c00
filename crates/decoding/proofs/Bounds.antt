-- How long the text is at most. Assumes nothing.
use Rattle.std.proofs.Common.{◌≡◌, ℕ, zero, suc, ◌+◌, ◌-◌, ◌*◌, ◌≤◌, refl, Bool, true, false, List, [], ◌∷◌, ◌++◌, length, take, drop, arith}
use lib.ListN.{get_or}
use lib.ListN.{length-append, length-take}
use lib.Dec.{eqb, ltb}
use borrow.Author.Tests.{ltb-false}
use Rattle.basis.specs.Numbers.{cut_short}
use Rattle.basis.specs.Choice.{pick}
use Rattle.basis.specs.Bytes.{word_bytes, word_at, part}
use Rattle.basis.proofs.Choosing.{by_cases, pick_yes, pick_no}
use Rattle.basis.proofs.Lists.{length_part}
use Rattle.message.specs.declared.Fields.{Fields}
use Rattle.message.specs.Messages.{Table, device_fields, gateway_fields, fields_at}
use Rattle.message.specs.Version.{front}
use Rattle.message.specs.Messages.{DeviceMessage, announce, fragment, GatewayMessage}
use Rattle.message.specs.Messages.{fragment_request, to_device, to_gateway, Reading, refused}
use Rattle.codec.specs.Codec.{read_of}
use Rattle.capture_rules.specs.Capture.{capture_most, Item, item_at, place_after, goes_on, part_of}
use Rattle.capture_rules.proofs.Steps.{is_found}
use Rattle.text.specs.Text.{decimal, hex, number_text, newline}
use Rattle.text.specs.Ascii.{ascii}
use Rattle.text.proofs.Figures.{length_decimal, length_number}
use Rattle.text.proofs.HexFigures.{length_hex}
use Rattle.decoding_rules.specs.Line.{optional, result_text, version_text, code_text, package_text, index_text, data_text, reason, reason_text, end}
use Rattle.decoding_rules.specs.Line.{device_text, gateway_text, read_text, message_text, record_text, fault_text}
use Rattle.decoding_rules.specs.Decode.{line_text, lines_from, out_room, decode_text}

join : (a b : List ℕ) (m n : ℕ) → length a ≤ m → length b ≤ n → length (a ++ b) ≤ m + n
join a b m n h k = omega (arith, length-append a b)

result_most : (r : ℕ) → length (result_text r) ≤ 10
unfolding result_text
result_most r = join (ascii " result ") (hex (r ∷ [])) 8 2 (omega arith) (omega (arith, length_hex (r ∷ [])))

version_most : (v : List ℕ) → length v ≡ 16 → length (version_text v) ≤ 25
unfolding version_text
version_most v l = join (ascii " version ") (take (front v) v) 9 16 (omega arith) (omega (arith, length-take (front v) v, l))

index_most : (i : ℕ) → length (index_text i) ≤ 12
unfolding index_text
index_most i = join (ascii " index ") (decimal i) 7 5 (omega arith) (length_decimal i)

data_most : (t : Bool) (n : ℕ) → length (data_text t n) ≤ 11
unfolding data_text optional pick
data_most true n = join (ascii " data ") (decimal n) 6 5 (omega arith) (length_decimal n)
data_most false n = omega arith

package_most : (s t c : ℕ) → length (package_text s t c) ≤ 33
unfolding package_text code_text
package_most s t c =
    join (ascii " size " ++ decimal s) _ 11 22 (join (ascii " size ") (decimal s) 6 5 (omega arith) (length_decimal s))
    (join (ascii " total " ++ decimal t) _ 12 10 (join (ascii " total ") (decimal t) 7 5 (omega arith) (length_decimal t))
    (join (ascii " code ") (hex (word_bytes c)) 6 4 (omega arith) (omega (arith, length_hex (word_bytes c)))))

reason_most : (n : ℕ) → length (reason n) ≤ 23
unfolding reason pick
reason_most n =
    if-most (eqb n 3) (ascii " no FFFE") _ (omega arith) (if-most (eqb n 4) (ascii " other protocol version") _ (omega arith)
    (if-most (eqb n 5) (ascii " unknown code") _ (omega arith) (if-most (eqb n 6) (ascii " wrong check") _ (omega arith)
    (if-most (eqb n 7) (ascii " wrong length") _ (omega arith) (if-most (eqb n 8) (ascii " bad data") _ (omega arith)
    (if-most (eqb n 20) (ascii " wrong mark") _ (omega arith) (if-most (eqb n 21) (ascii " cut short") [] (omega arith) (omega arith))))))))
  where
    if-most : (t : Bool) (a b : List ℕ) → length a ≤ 23 → length b ≤ 23 → length (pick t a b) ≤ 23
    if-most true a b h k = h
    if-most false a b h k = k

reason_text_most : (n : ℕ) → length (reason_text n) ≤ 29
unfolding reason_text
reason_text_most n = join (ascii " " ++ decimal n) (reason n) 6 23 (join (ascii " ") (decimal n) 1 5 (omega arith) (length_decimal n)) (reason_most n)

result_only : (r : ℕ) → length (result_text r ++ end) ≤ 11
result_only r = omega (arith, length-append (result_text r) end, result_most r)

device_most : (code : ℕ) (d : List ℕ) → length (device_text (device_fields code d)) ≤ 78
unfolding device_fields device_text
device_most code d =
    by_cases P (λ _. omega arith) (λ _. by_cases P (λ _. announced (fields_at d 0) (length_part d 0 16)) (λ _.
    by_cases P (λ _. pieces (get_or d 0 0) (word_at d 1) (drop 3 d)) (λ _. by_cases P (λ _. omega (arith, result_only (get_or d 0 0))) (λ _.
    by_cases P (λ _. omega arith) (λ _. omega (arith, result_only (get_or d 0 0)))))))
  where
    P : DeviceMessage → Type 0
    P m = length (device_text m) ≤ 78

    announced : (f : Fields) → length f.version ≡ 16 → P (announce f)
    announced f l =
        omega (
          arith,
          length-append (version_text f.version) (package_text f.size f.total f.code ++ end),
          length-append (package_text f.size f.total f.code) end,
          version_most f.version l,
          package_most f.size f.total f.code,
        )

    pieces : (r i : ℕ) (bytes : List ℕ) → P (fragment r i bytes)
    pieces r i bytes =
        let rest = index_text i ++ data_text (eqb r 0x00) (length bytes) in
        omega (
          arith,
          length-append (result_text r) (rest ++ end),
          length-append rest end,
          length-append (index_text i) (data_text (eqb r 0x00) (length bytes)),
          result_most r,
          index_most i,
          data_most (eqb r 0x00) (length bytes),
        )

gateway_most : (code : ℕ) (d : List ℕ) → length (gateway_text (gateway_fields code d)) ≤ 78
unfolding gateway_fields gateway_text
gateway_most code d =
    by_cases P (λ _. omega (arith, versioned (get_or d 0 0) (part d 1 16) (length_part d 1 16))) (λ _. by_cases P
    (λ _. omega (arith, result_only (get_or d 0 0))) (λ _.
    by_cases P (λ _. asked (part d 0 16) (word_at d 16) (length_part d 0 16)) (λ _. by_cases P (λ _. omega (arith, result_only (get_or d 0 0))) (λ _.
    by_cases P (λ _. omega (arith, result_only (get_or d 0 0))) (λ _. omega (arith, versioned (get_or d 0 0) (part d 1 16) (length_part d 1 16)))))))
  where
    P : GatewayMessage → Type 0
    P m = length (gateway_text m) ≤ 78

    versioned : (r : ℕ) (v : List ℕ) → length v ≡ 16 → length (result_text r ++ (version_text v ++ end)) ≤ 36
    versioned r v l =
        omega (arith, length-append (result_text r) (version_text v ++ end), length-append (version_text v) end, result_most r, version_most v l)

    asked : (v : List ℕ) (i : ℕ) → length v ≡ 16 → P (fragment_request v i)
    asked v i l =
        omega (arith, length-append (version_text v) (index_text i ++ end), length-append (index_text i) end, version_most v l, index_most i)

read_most : (t : Table) (text : t.Message → List ℕ) → ((code : ℕ) (d : List ℕ) → length (text (t.fields code d)) ≤ 78) → (bytes : List ℕ)
    → length (read_text text (read_of t true true bytes)) ≤ 78
unfolding read_of read_text
read_most t text h bytes = by_cases P (λ _. by_cases P (λ _. h _ _) (λ _. none 8)) (λ _. none _)
  where
    P : Reading t.Message → Type 0
    P r = length (read_text text r) ≤ 78

    none : (n : ℕ) → P (refused n)
    none n = omega (arith, length-append (reason_text n) end, reason_text_most n)

message_most : (t : Bool) (m : List ℕ) → length (message_text t m) ≤ 90
unfolding message_text
message_most true m = join (ascii " to-device") _ 12 78 (omega arith) (read_most to_device device_text device_most m)
message_most false m = join (ascii " from-device") _ 12 78 (omega arith) (read_most to_gateway gateway_text gateway_most m)

record_most : (p : ℕ) (t : Bool) (m : List ℕ) → length (record_text p t m) ≤ 95
unfolding record_text
record_most p t m = join (decimal p) (message_text t m) 5 90 (length_decimal p) (message_most t m)

fault_most : (p n : ℕ) → length (fault_text p n) ≤ 95
unfolding fault_text
fault_most p n = omega (arith, length-append (decimal p) (reason_text n ++ end), length-append (reason_text n) end, length_decimal p, reason_text_most n)

lines_most : (capture : List ℕ) (most at : ℕ) → at ≤ length capture → 4 * length (lines_from capture most at) ≤ 95 * (length capture - at) + 380
unfolding lines_from line_text goes_on pick
lines_most capture zero at h = omega arith
lines_most capture (suc most) at h = by-item (item_at capture at) refl (λ next k. lines_most capture most next k)
  where
    by-item : (i : Item) → item_at capture at ≡ i
        → ((next : ℕ) → next ≤ length capture → 4 * length (lines_from capture most next) ≤ 95 * (length capture - next) + 380)
        → 4 * length (line_text capture at i ++ pick (goes_on i) (lines_from capture most (place_after i at)) []) ≤ 95 * (length capture - at) + 380
    by-item (Item.found d s c) e more =
        let f = is_found capture at e in
        omega (
          arith,
          f.behind,
          f.within,
          length-append (record_text at d (part_of capture s c)) (lines_from capture most (s + c)),
          record_most at d (part_of capture s c),
          more (s + c) f.within,
        )
    by-item Item.end e more = omega arith
    by-item (Item.fault n) e more = omega (arith, length-append (fault_text at n) [], fault_most at n)

pub decode_most : (capture : List ℕ) → length (decode_text capture) ≤ out_room
unfolding decode_text
decode_most capture = by-test (ltb capture_most (length capture)) refl
  where
    by-test : (t : Bool) → ltb capture_most (length capture) ≡ t
        → length (pick t (number_text cut_short newline) (lines_from capture (suc (length capture)) 0)) ≤ out_room
    by-test true e = rw (pick_yes true (number_text cut_short newline) (lines_from capture (suc (length capture)) 0) refl)
        (omega (arith, length_number cut_short newline))
    by-test false e = rw (pick_no false (number_text cut_short newline) (lines_from capture (suc (length capture)) 0) refl)
        (omega (arith, ltb-false capture_most (length capture) e, lines_most capture (suc (length capture)) 0 (omega arith)))
