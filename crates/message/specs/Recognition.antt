-- 01, "Recognising a message", as 02 (2026-01) amends it: the numbers 1 to 7 in their order. A byte that is not there reads as 0, which no field
-- before the check allows, so a message too short to hold a field fails at that field. Assumes nothing.
use Rattle.std.specs.Prelude.{ℕ, ◌-◌, ◌%◌, Bool, ◌&&◌, List, [], ◌∷◌, eqb, leb, length, get_or}
use Rattle.basis.specs.Choice.{refusal}
use Rattle.basis.specs.Numbers.{unsupported, other_protocol, bad_start, bad_version, bad_code, bad_check, bad_length}
use Rattle.basis.specs.Bytes.{word_at}
use Rattle.checksum.specs.Check.{message_check}

-- 3: the first two bytes
unfoldable pub start_holds : List ℕ → Bool
start_holds m = eqb (get_or m 0 0) 0xFF && eqb (get_or m 1 0) 0xFE

-- the protocol version: what is written as the version byte, and what its lower four bits must be
abbrev pub protocol_version : ℕ
protocol_version = 0x01

-- 4: the version byte. Its upper four bits are reserved, and may be any (02, 2026-01)
unfoldable pub version_byte_holds : List ℕ → Bool
version_byte_holds m = eqb (get_or m 2 0 % 16) protocol_version

-- 5: the code
unfoldable pub code_holds : List ℕ → Bool
code_holds m = leb 19 (get_or m 3 0) && leb (get_or m 3 0) 24

-- 6: the check, over the bytes as they came, reserved bits included; 4 to 7 bytes fail here
unfoldable pub check_holds : List ℕ → Bool
check_holds m = leb 8 (length m) && eqb (word_at m 4) (message_check m)

-- 7: the data length
unfoldable pub length_holds : List ℕ → Bool
length_holds m = eqb (word_at m 6) (length m - 8)

-- 0 where the bytes are a PCP message, else the number of the first test that fails
unfoldable pub recognition : (supported pcp : Bool) → List ℕ → ℕ
recognition supported pcp m =
    refusal
    ((unsupported, supported) ∷ (other_protocol, pcp) ∷ (bad_start, start_holds m) ∷ (bad_version, version_byte_holds m) ∷ (bad_code, code_holds m) ∷
    (bad_check, check_holds m) ∷ (bad_length, length_holds m)
    ∷ [])
