-- The twelve messages: 01's table under "Recognising a message", a column for each receiver. Assumes nothing.
use Rattle.std.specs.Prelude.{ℕ, ◌+◌, Bool, true, ◌&&◌, List, [], ◌∷◌, ◌++◌, eqb, leb, length, drop, get_or}
use Rattle.basis.specs.Choice.{pick, one_of}
use Rattle.basis.specs.Bytes.{word_at, word_bytes, part}
use Rattle.message.specs.Limits.{size_max, size_ok, total_ok, is_word, device_room, gateway_room}
use Rattle.message.specs.Version.{good_version}
use Rattle.message.specs.declared.Fields.{Fields}

-- ---- the four fields of a package: version, size, total, check code

-- one behind the other, 22 bytes, as the announcement and the device's record hold them
abbrev pub fields_bytes : Fields → List ℕ
fields_bytes f = f.version ++ (word_bytes f.size ++ (word_bytes f.total ++ word_bytes f.code))

-- those that stand at a place; a byte that is not there counts as 0
abbrev pub fields_at : List ℕ → ℕ → Fields
fields_at xs at = record { version = part xs at 16; size = word_at xs (at + 16); total = word_at xs (at + 18); code = word_at xs (at + 20) }

-- ---- a row of the table: the message's code, its data, and whether its fields are those allowed

pub record Row : Type 0 where
  pub code : ℕ
  pub content : List ℕ
  pub valid : Bool

abbrev row : (code : ℕ) (content : List ℕ) (valid : Bool) → Row
row code content valid = record { code = code; content = content; valid = valid }

-- ---- toward the device ("to head")

pub data DeviceMessage : Type 0 where
  query : DeviceMessage
  announce : Fields → DeviceMessage
  fragment : (result index : ℕ) → List ℕ → DeviceMessage
  download_reply : (result : ℕ) → DeviceMessage
  execute : DeviceMessage
  result_reply : (result : ℕ) → DeviceMessage

-- result 00 carries at least 1 and at most a full fragment's bytes; 80 and 81 carry none
unfoldable pub fragment_ok : (result : ℕ) → List ℕ → Bool
fragment_ok result bytes =
    pick (eqb result 0x00) (leb 1 (length bytes) && leb (length bytes) size_max) (one_of result (0x80 ∷ 0x81 ∷ []) && eqb (length bytes) 0)

unfoldable pub device_row : DeviceMessage → Row
device_row query = row 19 [] true
device_row (announce f) = row 20 (fields_bytes f) (good_version f.version && (size_ok f.size && (total_ok f.total && is_word f.code)))
device_row (fragment result index bytes) = row 21 (result ∷ (word_bytes index ++ bytes)) (is_word index && fragment_ok result bytes)
device_row (download_reply result) = row 22 (result ∷ []) (one_of result (0x00 ∷ 0x80 ∷ []))
device_row execute = row 23 [] true
device_row (result_reply result) = row 24 (result ∷ []) (one_of result (0x00 ∷ 0x80 ∷ []))

-- the message that a code and data can only be: the fields at their places
unfoldable pub device_fields : (code : ℕ) → List ℕ → DeviceMessage
device_fields code d =
    pick (eqb code 19) query
    (pick (eqb code 20) (announce (fields_at d 0))
    (pick (eqb code 21) (fragment (get_or d 0 0) (word_at d 1) (drop 3 d))
    (pick (eqb code 22) (download_reply (get_or d 0 0))
    (pick (eqb code 23) execute
    (result_reply (get_or d 0 0))))))

-- ---- toward the gateway

pub data GatewayMessage : Type 0 where
  query_reply : (result : ℕ) (version : List ℕ) → GatewayMessage
  announce_reply : (result : ℕ) → GatewayMessage
  fragment_request : (version : List ℕ) (index : ℕ) → GatewayMessage
  download_report : (result : ℕ) → GatewayMessage
  execute_reply : (result : ℕ) → GatewayMessage
  result_report : (result : ℕ) (version : List ℕ) → GatewayMessage

-- the codes with which an install may be reported (24)
unfoldable pub install_code : ℕ → Bool
install_code result = one_of result (0x00 ∷ 0x01 ∷ 0x04 ∷ 0x05 ∷ 0x09 ∷ 0x0A ∷ 0x7F ∷ [])

unfoldable pub gateway_row : GatewayMessage → Row
gateway_row (query_reply result version) = row 19 (result ∷ version) (one_of result (0x00 ∷ []) && good_version version)
gateway_row (announce_reply result) = row 20 (result ∷ []) (one_of result (0x00 ∷ 0x01 ∷ 0x02 ∷ 0x03 ∷ 0x04 ∷ 0x05 ∷ 0x09 ∷ 0x7F ∷ []))
gateway_row (fragment_request version index) = row 21 (version ++ word_bytes index) (good_version version && is_word index)
gateway_row (download_report result) = row 22 (result ∷ []) (one_of result (0x00 ∷ 0x05 ∷ 0x06 ∷ 0x07 ∷ 0x08 ∷ []))
gateway_row (execute_reply result) = row 23 (result ∷ []) (one_of result (0x00 ∷ 0x01 ∷ 0x04 ∷ 0x05 ∷ 0x09 ∷ []))
gateway_row (result_report result version) = row 24 (result ∷ version) (install_code result && good_version version)

unfoldable pub gateway_fields : (code : ℕ) → List ℕ → GatewayMessage
gateway_fields code d =
    pick (eqb code 19) (query_reply (get_or d 0 0) (part d 1 16))
    (pick (eqb code 20) (announce_reply (get_or d 0 0))
    (pick (eqb code 21) (fragment_request (part d 0 16) (word_at d 16))
    (pick (eqb code 22) (download_report (get_or d 0 0))
    (pick (eqb code 23) (execute_reply (get_or d 0 0))
    (result_report (get_or d 0 0) (part d 1 16))))))

-- ---- a column, and a message or none

-- 01's table for one receiver, and the buffer that its sender needs
pub record Table : Type 1 where
  pub Message : Type 0
  pub code : Message → ℕ
  pub content : Message → List ℕ
  pub valid : Message → Bool
  pub fields : ℕ → List ℕ → Message
  pub room : ℕ

-- the column of messages with these rows
abbrev column : (M : Type 0) → (M → Row) → (fields : ℕ → List ℕ → M) (room : ℕ) → Table
column M row_of fields room =
    record { Message = M; code = λ m. (row_of m).code; content = λ m. (row_of m).content; valid = λ m. (row_of m).valid; fields = fields; room = room }

abbrev pub to_device : Table
to_device = column DeviceMessage device_row device_fields gateway_room

abbrev pub to_gateway : Table
to_gateway = column GatewayMessage gateway_row gateway_fields device_room

-- a message, or the number of the refusal
pub data Reading (M : Type 0) : Type 0 where
  found : M → Reading M
  refused : ℕ → Reading M
