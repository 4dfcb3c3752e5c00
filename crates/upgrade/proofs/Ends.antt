-- What a call over records does, part by part. Assumes nothing.
use Prim.Native.Nat.{ℕ}
use mathlib.Core.Bool.{Bool}
use mathlib.Core.List.{List}
use Rattle.gateway_record.specs.declared.Gateway.{Gateway}
use Rattle.upgrade.specs.Calls.{DeviceCall, GatewayCall}
use Rattle.upgrade.specs.Records.{DeviceEnd, device_does, gateway_does}

abbrev pub device_says : DeviceEnd → DeviceCall Bool → List (List ℕ)
device_says e c = (device_does e c).says

abbrev pub device_number : DeviceEnd → DeviceCall Bool → ℕ
device_number e c = (device_does e c).number

abbrev pub gateway_number : (content : List ℕ) → Gateway → GatewayCall Bool → ℕ
gateway_number content g c = (gateway_does content g c).number

abbrev pub gateway_says : (content : List ℕ) → Gateway → GatewayCall Bool → List (List ℕ)
gateway_says content g c = (gateway_does content g c).says
