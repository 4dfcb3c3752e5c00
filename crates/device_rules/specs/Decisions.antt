-- The tests of an announcement, of a fragment and of an order to install: 01, "The head", as 02 (2026-05, 2026-06) amends it. Assumes nothing.
use Rattle.std.specs.Prelude.{ℕ, ◌+◌, ◌*◌, ◌-◌, Bool, ◌&&◌, ◌||◌, not, List, [], ◌∷◌, eqb, leb, ltb, length, take, drop}
use Rattle.basis.specs.Choice.{pick, refusal, one_of}
use Rattle.basis.specs.Numbers.{bad_index, bad_fragment_length, already_stored, repeat_differs}
use Rattle.basis.specs.Bytes.{same}
use Rattle.checksum.specs.Check.{check_of}
use Rattle.bitmap.specs.Bitmap.{marked}
use Rattle.md5_rules.specs.Md5.{md5_of}
use Rattle.message.specs.declared.Fields.{Fields}
use Rattle.device_record.specs.declared.Device.{Device}
use Rattle.device_record.specs.declared.Expected.{Expected}
use Rattle.device_record.specs.Record.{all_stored, loading, loaded, acked, failed, installing, holding, map_bytes}

-- 20: what it is answered with, tests in order
unfoldable pub announce_result : Device → (condition : ℕ) → Fields → (image map : List ℕ) → ℕ
announce_result d condition f image map =
    pick (leb installing d.phase) 0x01
    (pick (not (eqb condition 0)) condition
    (pick (same f.version d.running) 0x03
    (pick (ltb (length image) (f.size * f.total)) 0x05
    (pick (ltb (length map) (map_bytes f.total)) 0x09
    0x00))))

unfoldable pub same_fields : Fields → Fields → Bool
same_fields f g = same f.version g.version && (eqb f.size g.size && (eqb f.total g.total && eqb f.code g.code))

-- 20: the download that is held goes on
unfoldable pub resumes : Device → Fields → Bool
resumes d f = holding d.phase && (not (eqb f.code 0) && same_fields f d.fields)

-- index total less 1, the last fragment
abbrev pub is_last : Fields → (index : ℕ) → Bool
is_last f index = eqb (index + 1) f.total

-- 21: size long; the last may be 1 to size
unfoldable pub fragment_length : Fields → (index length : ℕ) → Bool
fragment_length f index n = pick (is_last f index) (leb 1 n && leb n f.size) (eqb n f.size)

-- one number for the last index, another for every other
abbrev pub by_index : Fields → (index last other : ℕ) → ℕ
by_index f index last other = pick (is_last f index) last other

-- the last length, once a fragment of n bytes is stored
abbrev pub last_after : Fields → (index n last : ℕ) → ℕ
last_after f index n last = by_index f index n last

-- the bytes of an index that is stored: at its place, size long, those of the last one last length long
abbrev pub stored_bytes : Fields → (last index : ℕ) (image : List ℕ) → List ℕ
stored_bytes f last index image = take (by_index f index last f.size) (drop (index * f.size) image)

-- 21 of an index that is stored: the number 12 with the same bytes and length, the number 23 with others (02, 2026-06)
unfoldable pub repeat_refusal : Fields → (last index : ℕ) (image bytes : List ℕ) → ℕ
repeat_refusal f last index image bytes = pick (same bytes (stored_bytes f last index image)) already_stored repeat_differs

-- 21: the numbers 10, 11, and 12 or 23 in order, else 0
unfoldable pub fragment_refusal : Fields → (last index : ℕ) (image map bytes : List ℕ) → ℕ
fragment_refusal f last index image map bytes =
    refusal
    ((bad_index, ltb index f.total) ∷ (bad_fragment_length, fragment_length f index (length bytes)) ∷
    (repeat_refusal f last index image bytes, not (marked map index))
    ∷ [])

-- the code is 0, or the bytes' check
unfoldable pub check_passes : (code : ℕ) → List ℕ → Bool
check_passes code bytes = eqb code 0 || eqb code (check_of bytes)

-- no digest is set, or it is the bytes' MD5 (02, 2026-05)
unfoldable pub digest_passes : Expected → List ℕ → Bool
digest_passes expected bytes = eqb expected.set 0 || same (md5_of bytes) expected.digest

-- the completed bytes pass both
unfoldable pub passes : (code : ℕ) → Expected → List ℕ → Bool
passes code expected bytes = check_passes code bytes && digest_passes expected bytes

-- all fragments, true length: `last` is that of the last one
abbrev pub true_length : Fields → (last : ℕ) → ℕ
true_length f last = f.size * (f.total - 1) + last

-- the phase once a fragment is stored
unfoldable pub completion : (stored last : ℕ) → Fields → Expected → (image : List ℕ) → ℕ
completion stored last f expected image =
    pick (all_stored stored f.total)
    (pick (passes f.code expected (take (true_length f last) image)) loaded failed)
    loading

-- 23: what it is answered with
unfoldable pub execute_result : (phase condition : ℕ) → ℕ
execute_result phase condition =
    pick (eqb phase installing) 0x00
    (pick (eqb phase loaded || eqb phase acked)
    (pick (one_of condition (1 ∷ 4 ∷ [])) condition (pick (eqb condition 127) 0x01 0x00))
    0x01)
