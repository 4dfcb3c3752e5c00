-- The lines that decode prints; the papers ask for none. Messages and numbers are theirs. Each field has its name before it, and a space before that.
-- Assumes nothing.
use Rattle.std.specs.Prelude.{ℕ, Bool, true, false, List, [], ◌∷◌, ◌++◌, eqb, length, take}
use Rattle.basis.specs.Choice.{pick}
use Rattle.basis.specs.Numbers.{bad_start, bad_version, bad_code, bad_check, bad_length, bad_data, bad_mark, cut_short}
use Rattle.basis.specs.Bytes.{word_bytes}
use Rattle.message.specs.Version.{front}
use Rattle.message.specs.Messages.{DeviceMessage, query, announce, fragment, download_reply, execute, result_reply, GatewayMessage, query_reply}
use Rattle.message.specs.Messages.{announce_reply, fragment_request, download_report, execute_reply, result_report, to_device, to_gateway, Reading}
use Rattle.message.specs.Messages.{found, refused}
use Rattle.codec.specs.Codec.{read_of}
use Rattle.text.specs.Text.{newline, decimal, hex}
use Rattle.text.specs.Ascii.{ascii}

-- ---- fields

-- a field that may be missing
unfoldable pub optional : Bool → List ℕ → List ℕ
optional there text = pick there text []

-- a result: two figures in hex
unfoldable pub result_text : ℕ → List ℕ
result_text result = ascii " result " ++ hex (result ∷ [])

-- version text, without its 00
unfoldable pub version_text : List ℕ → List ℕ
version_text version = ascii " version " ++ take (front version) version

-- the check code: four figures in hex
unfoldable pub code_text : ℕ → List ℕ
code_text code = ascii " code " ++ hex (word_bytes code)

-- size, total and code of an announcement
unfoldable pub package_text : (size total code : ℕ) → List ℕ
package_text size total code = (ascii " size " ++ decimal size) ++ ((ascii " total " ++ decimal total) ++ code_text code)

-- the index of a fragment, and how many bytes of data it has; with result 80 or 81 it has none, and no field
unfoldable pub index_text : ℕ → List ℕ
index_text index = ascii " index " ++ decimal index

unfoldable pub data_text : (some : Bool) (count : ℕ) → List ℕ
data_text some count = optional some (ascii " data " ++ decimal count)

-- what a number stands for, in words
unfoldable pub reason : ℕ → List ℕ
reason number =
    pick (eqb number bad_start) (ascii " no FFFE")
    (pick (eqb number bad_version) (ascii " other protocol version")
    (pick (eqb number bad_code) (ascii " unknown code")
    (pick (eqb number bad_check) (ascii " wrong check")
    (pick (eqb number bad_length) (ascii " wrong length")
    (pick (eqb number bad_data) (ascii " bad data")
    (pick (eqb number bad_mark) (ascii " wrong mark")
    (pick (eqb number cut_short) (ascii " cut short") [])))))))

-- a number, and these words
unfoldable pub reason_text : ℕ → List ℕ
reason_text number = (ascii " " ++ decimal number) ++ reason number

abbrev pub end : List ℕ
end = newline ∷ []

-- ---- a message, by name and with its fields

unfoldable pub device_text : DeviceMessage → List ℕ
device_text query = ascii " query" ++ end
device_text (announce f) = ascii " announce" ++ (version_text f.version ++ (package_text f.size f.total f.code ++ end))
device_text (fragment result index bytes) =
    ascii " fragment" ++ (result_text result ++ ((index_text index ++ data_text (eqb result 0x00) (length bytes)) ++ end))
device_text (download_reply result) = ascii " download" ++ (result_text result ++ end)
device_text execute = ascii " execute" ++ end
device_text (result_reply result) = ascii " result" ++ (result_text result ++ end)

unfoldable pub gateway_text : GatewayMessage → List ℕ
gateway_text (query_reply result version) = ascii " query" ++ (result_text result ++ (version_text version ++ end))
gateway_text (announce_reply result) = ascii " announce" ++ (result_text result ++ end)
gateway_text (fragment_request version index) = ascii " fragment" ++ (version_text version ++ (index_text index ++ end))
gateway_text (download_report result) = ascii " download" ++ (result_text result ++ end)
gateway_text (execute_reply result) = ascii " execute" ++ (result_text result ++ end)
gateway_text (result_report result version) = ascii " result" ++ (result_text result ++ (version_text version ++ end))

-- a message, or why there is none
unfoldable pub read_text : {M : Type 0} → (M → List ℕ) → Reading M → List ℕ
read_text text (found m) = text m
read_text text (refused number) = ascii " none" ++ (reason_text number ++ end)

-- ---- lines

-- a message is read as one of its direction, both facts yes
unfoldable pub message_text : (to_device : Bool) (message : List ℕ) → List ℕ
message_text true message = ascii " to-device" ++ read_text device_text (read_of to_device true true message)
message_text false message = ascii " from-device" ++ read_text gateway_text (read_of to_gateway true true message)

-- a record: its place first
unfoldable pub record_text : (place : ℕ) (to_device : Bool) (message : List ℕ) → List ℕ
record_text place to_device message = decimal place ++ message_text to_device message

-- the place at which the reader stops, with 20 or 21
unfoldable pub fault_text : (place number : ℕ) → List ℕ
fault_text place number = decimal place ++ (reason_text number ++ end)
