-- The layouts lose nothing: bytes to record and back, and record to bytes and back, are the identity. Assumes nothing.
use Rattle.std.specs.Prelude.{◌≤◌, ◌≡◌, List, ℕ, length, take}
use Rattle.basis.specs.Bytes.{Bytes, over}
use Rattle.device_record.specs.declared.Device.{Device}
use Rattle.gateway_record.specs.declared.Gateway.{Gateway}
use Rattle.gateway_record.specs.Record.{package_fields}
use Rattle.layout_rules.specs.Layout.{device_bytes, device_at, device_length, gateway_bytes, gateway_at, gateway_length}

-- a record's version texts and its digest have 16 bytes each, as in the code
pub record DeviceTexts (d : Device) : Type 0 where
  pub running : length d.running ≡ 16
  pub target : length d.fields.version ≡ 16
  pub digest : length d.expected.digest ≡ 16

-- and the gateway's total is the one that follows from size and length, as a start makes it and every call keeps it
pub record GatewayWhole (g : Gateway) : Type 0 where
  pub target : length g.fields.version ≡ 16
  pub fields : g.fields ≡ package_fields g.fields.version g.fields.size g.length g.fields.code

pub record Identity : Type 0 where
  -- bytes to record and back; so a record put back where it was read from leaves the buffer as it was
  pub device_back : (b : List ℕ) → Bytes b → device_length ≤ length b → device_bytes (device_at b) ≡ take device_length b
  pub device_same : (b : List ℕ) → Bytes b → device_length ≤ length b → over (device_bytes (device_at b)) b ≡ b
  pub gateway_back : (b : List ℕ) → Bytes b → gateway_length ≤ length b → gateway_bytes (gateway_at b) ≡ take gateway_length b
  pub gateway_same : (b : List ℕ) → Bytes b → gateway_length ≤ length b → over (gateway_bytes (gateway_at b)) b ≡ b
  -- record to bytes and back, at the front of any buffer
  pub device_kept : (d : Device) (buffer : List ℕ) → DeviceTexts d → device_at (over (device_bytes d) buffer) ≡ d
  pub gateway_kept : (g : Gateway) (buffer : List ℕ) → GatewayWhole g → gateway_at (over (gateway_bytes g) buffer) ≡ g
  -- the bytes of a record
  pub device_length : (d : Device) → DeviceTexts d → length (device_bytes d) ≡ device_length
  pub gateway_length : (g : Gateway) → length g.fields.version ≡ 16 → length (gateway_bytes g) ≡ gateway_length
