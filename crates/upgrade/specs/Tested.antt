-- The test at completion: on any run from a fresh record with one image and one map, in Loaded, Acked, Installing and Reporting all fragments are
-- stored, and the completed bytes have the package's code as their check, if that is not 0, and the digest as their MD5, if one is set (01, "The
-- head", 21; 02, 2026-05). Assumes nothing.
use Rattle.std.specs.Prelude.{ℕ, ◌≡◌, List, take}
use Rattle.checksum.specs.Check.{check_of}
use Rattle.md5_rules.specs.Md5.{md5_of}
use Rattle.device_record.specs.Record.{idle, loading, failed, new_of}
use Rattle.device_rules.specs.Decisions.{true_length}
use Rattle.upgrade.specs.Fold.{after}
use Rattle.upgrade.specs.Calls.{DeviceCall, DeviceSide}
use Rattle.upgrade.specs.Records.{device_records}

-- Loaded, Acked, Installing and Reporting
pub record Completed (phase : ℕ) : Type 0 where
  pub not_idle : phase ≡ idle → ⊥
  pub not_loading : phase ≡ loading → ⊥
  pub not_failed : phase ≡ failed → ⊥

module _ {F : Type 0} (s : DeviceSide F) where
  -- all fragments, true length
  abbrev pub completed_bytes : s.State → List ℕ
  completed_bytes d = take (true_length (s.device d).fields (s.device d).last) (s.image d)

  pub record Tested (d : s.State) : Type 0 where
    pub all_stored : Completed (s.device d).phase → (s.device d).stored ≡ (s.device d).fields.total
    pub check : Completed (s.device d).phase → ((s.device d).fields.code ≡ 0 → ⊥) → check_of (completed_bytes d) ≡ (s.device d).fields.code
    pub digest : Completed (s.device d).phase → (s.device d).expected.set ≡ 1 → md5_of (completed_bytes d) ≡ (s.device d).expected.digest

  abbrev pub TestedOf : s.State → Type 0
  TestedOf made = (calls : List (DeviceCall F)) → Tested (after (λ d c. (s.does d c).state) made calls)

-- A fresh record, one image and one map, then any list of calls.
abbrev pub CompletedIsTested : Type 0
CompletedIsTested =
    (version image map : List ℕ) → (new_of version).number ≡ 0 →
    TestedOf device_records (record { device = (new_of version).device; image = image; map = map })
