-- The device's record: 01, "The head" and of "Numbers returned" 29, 14, 17 and the order of refusals, as 02 (2026-05) amends them. Assumes nothing.
use Rattle.std.specs.Prelude.{ℕ, ◌+◌, ◌*◌, ◌/◌, Bool, true, ◌&&◌, not, List, [], ◌∷◌, eqb, leb, length, replicate}
use Rattle.basis.specs.Choice.{pick, refusal, one_of}
use Rattle.basis.specs.Numbers.{handled, no_use, unknown_condition, bad_memory, short_reply, bad_install_code, bad_version_text, bad_record}
use Rattle.message.specs.Limits.{device_room, size_ok, total_ok}
use Rattle.message.specs.Version.{good_version}
use Rattle.message.specs.Messages.{install_code}
use Rattle.message.specs.declared.Fields.{Fields}
use Rattle.device_record.specs.declared.Device.{Device}
use Rattle.device_record.specs.declared.Expected.{Expected}
use Rattle.device_record.specs.declared.Made.{Made}

abbrev pub idle : ℕ
idle = 0

abbrev pub loading : ℕ
loading = 1

abbrev pub loaded : ℕ
loaded = 2

abbrev pub acked : ℕ
acked = 3

abbrev pub failed : ℕ
failed = 4

abbrev pub installing : ℕ
installing = 5

abbrev pub reporting : ℕ
reporting = 6

-- phases 1 to 3: a download is held
unfoldable pub holding : ℕ → Bool
holding phase = leb loading phase && leb phase acked

-- the conditions that a caller may state: ready, busy, weak signal, low power, internal
unfoldable pub condition_ok : ℕ → Bool
condition_ok condition = one_of condition (0 ∷ 1 ∷ 2 ∷ 4 ∷ 127 ∷ [])

-- ---- the digest that the completed bytes must have, if one is set

abbrev pub no_digest : Expected
no_digest = record { set = 0; digest = replicate 16 0 }

abbrev pub digest_set : List ℕ → Expected
digest_set digest = record { set = 1; digest = digest }

-- ---- the ways in which a record is made; no rule makes one otherwise

-- Idle, its target the running version too, all other fields 0
abbrev pub fresh : List ℕ → Device
fresh version =
    record {
      phase = idle;
      running = version;
      fields = record { version = version; size = 0; total = 0; code = 0 };
      stored = 0;
      last = 0;
      outcome = 0;
      expected = no_digest;
    }

abbrev pub in_phase : ℕ → Device → Device
in_phase phase d =
    record {
      phase = phase;
      running = d.running;
      fields = d.fields;
      stored = d.stored;
      last = d.last;
      outcome = d.outcome;
      expected = d.expected;
    }

-- an announcement taken up afresh: a digest that was set is set no more
abbrev pub begun : Fields → Device → Device
begun f d = record { phase = loading; running = d.running; fields = f; stored = 0; last = 0; outcome = d.outcome; expected = no_digest }

-- a fragment more: the phase, the count and the last length with it
abbrev pub with_fragment : (phase stored last : ℕ) → Device → Device
with_fragment phase stored last d =
    record {
      phase = phase;
      running = d.running;
      fields = d.fields;
      stored = stored;
      last = last;
      outcome = d.outcome;
      expected = d.expected;
    }

-- the installer's code kept, and what runs from now on
abbrev pub with_outcome : (code : ℕ) (running : List ℕ) → Device → Device
with_outcome code running d =
    record {
      phase = reporting;
      running = running;
      fields = d.fields;
      stored = d.stored;
      last = d.last;
      outcome = code;
      expected = d.expected;
    }

-- a digest given for the download held, in the place of one that was given before
abbrev pub with_digest : (digest : List ℕ) → Device → Device
with_digest digest d =
    record {
      phase = d.phase;
      running = d.running;
      fields = d.fields;
      stored = d.stored;
      last = d.last;
      outcome = d.outcome;
      expected = digest_set digest;
    }

-- a fresh record from a running version alone; a bad version text is 17, with a record that 29 refuses
unfoldable pub new_of : List ℕ → Made
new_of version =
    pick (good_version version) (record { number = handled; device = fresh version }) (record { number = bad_version_text; device = fresh (replicate 16 0) })

-- ---- 29 and 14

-- all stored: count equals total
abbrev pub all_stored : (stored total : ℕ) → Bool
all_stored stored total = eqb stored total

-- in phases 1 to 6: size and total in range, count at most total and in Loading below it, last length at most size
unfoldable pub download_ok : Device → Bool
download_ok d =
    (size_ok d.fields.size && total_ok d.fields.total)
    && (leb d.stored d.fields.total && (not (eqb d.phase loading && all_stored d.stored d.fields.total) && leb d.last d.fields.size))

-- 29 where it fails: phase, kept code, whether a digest is set (0 or 1) and version texts, and from phase 1 on the download
unfoldable pub record_ok : Device → Bool
record_ok d =
    (leb d.phase reporting && (install_code d.outcome && leb d.expected.set 1))
    && ((good_version d.running && good_version d.fields.version) && pick (eqb d.phase idle) true (download_ok d))

-- the map bytes that a total needs: a bit for each fragment
unfoldable pub map_bytes : ℕ → ℕ
map_bytes total = (total + 7) / 8

-- 14 where it fails: in phases 1 to 3, image or map shorter than the download needs
unfoldable pub memory_ok : Device → (image map : List ℕ) → Bool
memory_ok d image map =
    pick (holding d.phase)
    (leb (d.fields.size * d.fields.total) (length image) && leb (map_bytes d.fields.total) (length map))
    true

-- ---- what each call is refused for before anything is done, in order

-- a message is given: 15, 13, 29, 14
abbrev pub receive_refusal : Device → (condition : ℕ) (image map reply : List ℕ) → ℕ
receive_refusal d condition image map reply =
    refusal
    ((short_reply, leb device_room (length reply)) ∷ (unknown_condition, condition_ok condition) ∷ (bad_record, record_ok d)
    ∷ (bad_memory, memory_ok d image map)
    ∷ [])

-- the next message is asked for: 15, 29, 14
abbrev pub ask_refusal : Device → (image map reply : List ℕ) → ℕ
ask_refusal d image map reply =
    refusal ((short_reply, leb device_room (length reply)) ∷ (bad_record, record_ok d) ∷ (bad_memory, memory_ok d image map) ∷ [])

-- the installer's end: 29, 9, 16
abbrev pub finish_refusal : Device → (code : ℕ) → ℕ
finish_refusal d code = refusal ((bad_record, record_ok d) ∷ (no_use, eqb d.phase installing) ∷ (bad_install_code, install_code code) ∷ [])

-- a digest is given: 29, 9
abbrev pub give_refusal : Device → ℕ
give_refusal d = refusal ((bad_record, record_ok d) ∷ (no_use, eqb d.phase loading) ∷ [])
