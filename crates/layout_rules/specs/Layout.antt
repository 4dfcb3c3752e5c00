-- The records of the device ("head" in 01) and the gateway as bytes in a buffer that a host lends: fixed layouts, every number high byte
-- first. Assumes nothing.
use Rattle.std.specs.Prelude.{ℕ, List, [], ◌∷◌, ◌++◌, leb, length, get_or}
use Rattle.basis.specs.Choice.{pick}
use Rattle.basis.specs.Bytes.{word_at, word_bytes, qword_at, qword_bytes, part, over}
use Rattle.message.specs.Messages.{fields_bytes, fields_at}
use Rattle.device_record.specs.declared.Device.{Device}
use Rattle.device_record.specs.declared.Expected.{Expected}
use Rattle.gateway_record.specs.declared.Gateway.{Gateway}
use Rattle.gateway_record.specs.Record.{package_fields}

-- ---- the device's record: 61 bytes

-- phase, running version, the four fields of the download, stored count, last length, kept code: 44 bytes
unfoldable pub front_bytes : Device → List ℕ
front_bytes d =
    d.phase ∷ [] ++ (d.running ++ (fields_bytes d.fields ++ (word_bytes d.stored ++ (word_bytes d.last ++ (d.outcome ∷ [])))))

abbrev pub front_length : ℕ
front_length = 44

-- behind them (02, 2026-05), whether a digest is set, and the digest
abbrev pub expected_bytes : Expected → List ℕ
expected_bytes e = e.set ∷ e.digest

unfoldable pub device_bytes : Device → List ℕ
device_bytes d = front_bytes d ++ expected_bytes d.expected

abbrev pub device_length : ℕ
device_length = 61

-- the record that stands in the bytes; a byte that is not there counts as 0
unfoldable pub device_at : List ℕ → Device
device_at b =
    record {
      phase = get_or b 0 0;
      running = part b 1 16;
      fields = fields_at b 17;
      stored = word_at b 39;
      last = word_at b 41;
      outcome = get_or b 43 0;
      expected = record { set = get_or b 44 0; digest = part b 45 16 };
    }

-- ---- the gateway's record: 30 bytes

-- phase, ending number, version, size, package length, check code. The total follows from size and length, so that it is not kept
unfoldable pub gateway_bytes : Gateway → List ℕ
gateway_bytes g =
    g.phase ∷ g.ending ∷ [] ++ (g.fields.version ++ (word_bytes g.fields.size ++ (qword_bytes g.length ++ word_bytes g.fields.code)))

abbrev pub gateway_length : ℕ
gateway_length = 30

unfoldable pub gateway_at : List ℕ → Gateway
gateway_at b =
    record {
      phase = get_or b 0 0;
      ending = get_or b 1 0;
      fields = package_fields (part b 2 16) (word_at b 18) (qword_at b 20) (word_at b 28);
      length = qword_at b 20;
    }

-- ---- after a call

-- the buffer in which a record is kept: the record that a call returned, with whatever number, at its front where there is room
unfoldable pub kept : (room : ℕ) (new buffer : List ℕ) → List ℕ
kept room new buffer = pick (leb room (length buffer)) (over new buffer) buffer
