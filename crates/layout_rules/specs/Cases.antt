-- The layouts in computed cases: records, and how they stand in a buffer. In the first of each end no two bytes are the same, so that it need
-- not keep a record's rules. Assumes nothing.
use Rattle.std.specs.Prelude.{ℕ, List, [], ◌∷◌, ◌++◌}
use Rattle.basis.specs.Cases.{Agree}
use Rattle.device_record.specs.declared.Device.{Device}
use Rattle.gateway_record.specs.declared.Gateway.{Gateway}
use Rattle.gateway_record.specs.Record.{package_fields}
use Rattle.layout_rules.specs.Layout.{device_bytes, device_at, gateway_bytes, gateway_at}

-- the running version, the target, the digest
abbrev pub first : List ℕ
first = 0x10 ∷ 0x11 ∷ 0x12 ∷ 0x13 ∷ 0x14 ∷ 0x15 ∷ 0x16 ∷ 0x17 ∷ 0x18 ∷ 0x19 ∷ 0x1A ∷ 0x1B ∷ 0x1C ∷ 0x1D ∷ 0x1E ∷ 0x1F ∷ []

abbrev pub second : List ℕ
second = 0x20 ∷ 0x21 ∷ 0x22 ∷ 0x23 ∷ 0x24 ∷ 0x25 ∷ 0x26 ∷ 0x27 ∷ 0x28 ∷ 0x29 ∷ 0x2A ∷ 0x2B ∷ 0x2C ∷ 0x2D ∷ 0x2E ∷ 0x2F ∷ []

abbrev pub third : List ℕ
third = 0x30 ∷ 0x31 ∷ 0x32 ∷ 0x33 ∷ 0x34 ∷ 0x35 ∷ 0x36 ∷ 0x37 ∷ 0x38 ∷ 0x39 ∷ 0x3A ∷ 0x3B ∷ 0x3C ∷ 0x3D ∷ 0x3E ∷ 0x3F ∷ []

-- phase, running version; target, size, total, check code; stored count, last length, kept code; whether a digest is set, and the digest
abbrev pub devices : List (Device × List ℕ)
devices = (
  record {
    phase = 0x01;
    running = first;
    fields = record { version = second; size = 0x0203; total = 0x0405; code = 0x0607 };
    stored = 0x0809;
    last = 0x0A0B;
    outcome = 0x0C;
    expected = record { set = 0x0D; digest = third };
  },
  0x01 ∷ (first ++ (second ++ (0x02 ∷ 0x03 ∷ 0x04 ∷ 0x05 ∷ 0x06 ∷ 0x07 ∷ 0x08 ∷ 0x09 ∷ 0x0A ∷ 0x0B ∷ 0x0C ∷ 0x0D ∷ third))),
)
    ∷ []

-- phase, ending number; target, size; package length; check code. The total follows from size and length
abbrev pub gateways : List (Gateway × List ℕ)
gateways = (
  record {
    phase = 0x01;
    ending = 0x02;
    fields = package_fields second 0x0304 0x05060708090A0B0C 0x0D0E;
    length = 0x05060708090A0B0C;
  },
  0x01 ∷ 0x02 ∷ (second ++ (0x03 ∷ 0x04 ∷ 0x05 ∷ 0x06 ∷ 0x07 ∷ 0x08 ∷ 0x09 ∷ 0x0A ∷ 0x0B ∷ 0x0C ∷ 0x0D ∷ 0x0E ∷ [])),
)
    ∷ (
      -- 1,800 bytes in fragments of 772: three
      record {
        phase = 0x02;
        ending = 0x00;
        fields = record { version = second; size = 0x0304; total = 3; code = 0x0D0E };
        length = 0x0708;
      },
      0x02 ∷ 0x00 ∷ (second ++ (0x03 ∷ 0x04 ∷ 0x00 ∷ 0x00 ∷ 0x00 ∷ 0x00 ∷ 0x00 ∷ 0x00 ∷ 0x07 ∷ 0x08 ∷ 0x0D ∷ 0x0E ∷ [])),
    )
    ∷ []

-- what stands behind a record does not count
pub record LayoutCases : Type 0 where
  pub device_is : Agree (λ (r : Device × List ℕ). device_bytes r.0) (λ r. r.1) devices
  pub device_read_is : Agree (λ (r : Device × List ℕ). device_at (r.1 ++ (0x55 ∷ []))) (λ r. r.0) devices
  pub gateway_is : Agree (λ (r : Gateway × List ℕ). gateway_bytes r.0) (λ r. r.1) gateways
  pub gateway_read_is : Agree (λ (r : Gateway × List ℕ). gateway_at (r.1 ++ (0x55 ∷ []))) (λ r. r.0) gateways
