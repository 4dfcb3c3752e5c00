-- The setting of a clean run: both records as it starts with them and goes on with them, and what is known of them. Assumes nothing.
use Prim.Native.Nat.{ℕ, ◌*◌, ◌≤◌}
use native.Mathlib.Omega.{arith}
use mathlib.Core.Path.{◌≡◌, refl}
use mathlib.Core.Bool.{true, false}
use mathlib.Core.List.{List}
use lib.Dec.{leb}
use lib.ListN.{length}
use borrow.Author.Tests.{leb-true, le-leb, eq-eqb}
use Rattle.basis.specs.Bytes.{same}
use Rattle.basis.proofs.Choosing.{and_left, and_right, and_both}
use Rattle.message.specs.Limits.{device_room, gateway_room, size_min, size_max, size_ok, total_ok, total_max, is_word}
use Rattle.message.specs.Version.{good_version}
use Rattle.message.specs.declared.Fields.{Fields}
use Rattle.device_record.specs.declared.Device.{Device}
use Rattle.device_record.specs.declared.Expected.{Expected}
use Rattle.device_record.specs.Record as device
use Rattle.bitmap.specs.Bitmap.{cleared}
use Rattle.device_rules.specs.Rules as device-rules
use Rattle.gateway_record.specs.declared.Gateway.{Gateway}
use Rattle.gateway_record.specs.Record as gateway
use Rattle.gateway_record.proofs.Package.{total_some as some-total, total_most}
use Rattle.upgrade.specs.Records.{DeviceEnd, World}
use Rattle.upgrade.proofs.Count.{Fine}

-- what a clean run is given, and what is known of it: the package passes the code, and the digest that is expected while it is fetched, if one is
pub record Setting : Type 0 where
  pub content : List ℕ
  pub device_reply : World → List ℕ
  pub gateway_reply : World → List ℕ
  pub version : List ℕ
  pub size : ℕ
  pub code : ℕ
  pub expected : Expected
  pub first : DeviceEnd
  pub device_room : (w : World) → device_room ≤ length (device_reply w)
  pub gateway_room : (w : World) → gateway_room ≤ length (gateway_reply w)
  pub version_good : good_version version ≡ true
  pub size_ok : size_ok size ≡ true
  pub length_ok : gateway.length_ok (length content) size ≡ true
  pub code_word : is_word code ≡ true
  pub passes : device-rules.passes code expected content ≡ true
  pub idle : first.device.phase ≡ device.idle
  pub sound : Fine first
  pub another : same version first.device.running ≡ false
  pub image_room : size * gateway.total_of (length content) size ≤ length first.image
  pub map_room : device.map_bytes (gateway.total_of (length content) size) ≤ length first.map

module _ (s : Setting) where
  abbrev pub total : ℕ
  total = gateway.total_of (length s.content) s.size

  abbrev pub fields : Fields
  fields = record { version = s.version; size = s.size; total = total; code = s.code }

  abbrev pub gateway_in : ℕ → Gateway
  gateway_in phase =
      record { phase = phase; ending = 0; fields = fields; length = length s.content }

  abbrev pub device_in : (phase : ℕ) (running : List ℕ) (stored last outcome : ℕ) → Device
  device_in phase running stored last outcome =
      record { phase = phase; running = running; fields = fields; stored = stored; last = last; outcome = outcome; expected = s.expected }

  -- the device's end until the installer ends; with the first k fragments
  abbrev pub end_in : (phase stored last : ℕ) (image map : List ℕ) → DeviceEnd
  end_in phase stored last image map =
      record { device = device_in phase s.first.device.running stored last s.first.device.outcome; image = image; map = map }

  abbrev pub loading_at : (k : ℕ) (image map : List ℕ) → DeviceEnd
  loading_at k image map = end_in device.loading k 0 image map

  -- the device's end once the announcement is taken up, whichever digest is then expected
  abbrev pub begun_with : Expected → DeviceEnd
  begun_with expected =
      record {
        device = record {
          phase = device.loading;
          running = s.first.device.running;
          fields = fields;
          stored = 0;
          last = 0;
          outcome = s.first.device.outcome;
          expected = expected;
        };
        image = s.first.image;
        map = cleared (device.map_bytes total) s.first.map;
      }

  -- the device's end from the installer's on
  abbrev pub updated_in : (phase stored last : ℕ) (image map : List ℕ) → DeviceEnd
  updated_in phase stored last image map = record { device = device_in phase s.version stored last 0; image = image; map = map }

  -- ---- what follows

  pub some : 1 ≤ s.size
  unfolding size_ok
  some = omega (arith, leb-true size_min s.size (and_left _ _ s.size_ok))

  pub size_most : s.size ≤ size_max
  unfolding size_ok
  size_most = leb-true s.size size_max (and_right (leb size_min s.size) _ s.size_ok)

  pub total_some : 1 ≤ total
  unfolding gateway.length_ok
  total_some = some-total (length s.content) s.size some (leb-true 1 (length s.content) (and_left _ _ s.length_ok))

  pub total_fits : total ≤ total_max
  unfolding gateway.length_ok
  total_fits = total_most (length s.content) s.size some (leb-true _ _ (and_right (leb 1 (length s.content)) _ s.length_ok))

  pub total_ok_lem : total_ok total ≡ true
  unfolding total_ok
  total_ok_lem = and_both (le-leb 1 total total_some) (le-leb total total_max total_fits)

  pub gateway_good : (phase : ℕ) → leb phase gateway.ended ≡ true → gateway.record_ok (gateway_in phase) ≡ true
  unfolding gateway.record_ok
  gateway_good phase p = and_both (and_both p refl) (and_both s.version_good (and_both s.size_ok (and_both s.length_ok (eq-eqb total total refl))))
