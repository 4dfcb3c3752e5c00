-- The gateway's record, its start, and the package in fragments: 01, "The gateway" and "Numbers returned". Assumes nothing.
use Rattle.std.specs.Prelude.{ℕ, ◌+◌, ◌*◌, ◌-◌, ◌/◌, Bool, ◌&&◌, List, [], ◌∷◌, eqb, leb, length, take, drop, replicate}
use Rattle.basis.specs.Choice.{pick, refusal}
use Rattle.basis.specs.Numbers.{handled, bad_memory, short_reply, bad_version_text, bad_size, bad_package, bad_record}
use Rattle.checksum.specs.Check.{check_of}
use Rattle.message.specs.Limits.{gateway_room, size_ok, total_max}
use Rattle.message.specs.Version.{good_version}
use Rattle.message.specs.declared.Fields.{Fields}
use Rattle.gateway_record.specs.declared.Gateway.{Gateway}
use Rattle.gateway_record.specs.declared.Started.{Started}

abbrev pub ask : ℕ
ask = 0

abbrev pub offer : ℕ
offer = 1

abbrev pub serve : ℕ
serve = 2

abbrev pub run : ℕ
run = 3

abbrev pub ended : ℕ
ended = 4

-- ---- the endings, under the names of the C header

abbrev pub success : ℕ
success = 0

abbrev pub already_running : ℕ
already_running = 1

abbrev pub not_accepted : ℕ
not_accepted = 2

abbrev pub download_failed : ℕ
download_failed = 3

abbrev pub not_executed : ℕ
not_executed = 4

abbrev pub upgrade_failed : ℕ
upgrade_failed = 5

-- ---- the package

-- length over size, rounded up
unfoldable pub total_of : (length size : ℕ) → ℕ
total_of length size = (length + (size - 1)) / size

-- neither empty nor longer than 65,535 fragments
unfoldable pub length_ok : (length size : ℕ) → Bool
length_ok length size = leb 1 length && leb length (total_max * size)

-- the bytes of the package's stretch for an index; its place is in the promise of `fragment` (`Stretch`)
unfoldable pub fragment_of : List ℕ → (size index : ℕ) → List ℕ
fragment_of content size index = take size (drop (index * size) content)

-- the total that is announced; a package that 19 refuses has none, 0
abbrev pub announced_total : (length size : ℕ) → ℕ
announced_total length size = pick (length_ok length size) (total_of length size) 0

-- the four fields of a package of that length
abbrev pub package_fields : (version : List ℕ) (size length code : ℕ) → Fields
package_fields version size length code = record { version = version; size = size; total = announced_total length size; code = code }

-- ---- the ways in which a record is made; no rule makes one otherwise

abbrev pub started : (version : List ℕ) (size length code : ℕ) → Gateway
started version size length code = record { phase = ask; ending = 0; fields = package_fields version size length code; length = length }

abbrev pub in_phase : ℕ → Gateway → Gateway
in_phase phase g = record { phase = phase; ending = g.ending; fields = g.fields; length = g.length }

abbrev pub ended_with : ℕ → Gateway → Gateway
ended_with number g = record { phase = ended; ending = number; fields = g.fields; length = g.length }

-- what a start is refused for, in order: 17, 18, 19
abbrev pub start_refusal : (version : List ℕ) (size length : ℕ) → ℕ
start_refusal version size length =
    refusal ((bad_version_text, good_version version) ∷ (bad_size, size_ok size) ∷ (bad_package, length_ok length size) ∷ [])

-- 17, 18, 19, with a record that 29 refuses; the check code is 0, or the check rule over the package, as the caller chose
unfoldable pub start_of : (version : List ℕ) (size : ℕ) (content : List ℕ) (checked : Bool) → Started
start_of version size content checked =
    let n : ℕ = start_refusal version size (length content) in
    pick (eqb n handled)
    (record { number = handled; gateway = started version size (length content) (pick checked (check_of content) 0) })
    (record { number = n; gateway = started (replicate 16 0) 0 0 0 })

-- 29 where it fails: phase, ending number, version, size, length, and the total that follows from the two
unfoldable pub record_ok : Gateway → Bool
record_ok g =
    (leb g.phase ended && leb g.ending upgrade_failed)
    && (good_version g.fields.version
    && (size_ok g.fields.size
    && (length_ok g.length g.fields.size && eqb g.fields.total (total_of g.length g.fields.size))))

-- what a call is refused for before anything is done, in order: 15, 29, 14, by the lengths of the package and of the reply buffer that are lent
abbrev pub call_refusal : Gateway → (content reply : ℕ) → ℕ
call_refusal g content reply =
    refusal ((short_reply, leb gateway_room reply) ∷ (bad_record, record_ok g) ∷ (bad_memory, eqb content g.length) ∷ [])
