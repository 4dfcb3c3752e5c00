-- What a call through the exports does, part by part. Assumes nothing.
use Prim.Native.Nat.{ℕ}
use mathlib.Core.List.{List}
use Rattle.upgrade.specs.Calls.{DeviceCall, GatewayCall}
use Rattle.hosted.specs.Hosts.{DeviceHost, device_host_does, gateway_host_does}

abbrev pub device_host_says : DeviceHost → DeviceCall ℕ → List (List ℕ)
device_host_says h c = (device_host_does h c).says

abbrev pub device_host_number : DeviceHost → DeviceCall ℕ → ℕ
device_host_number h c = (device_host_does h c).number

abbrev pub gateway_host_number : (content bytes : List ℕ) → GatewayCall ℕ → ℕ
gateway_host_number content bytes c = (gateway_host_does content bytes c).number

abbrev pub gateway_host_says : (content bytes : List ℕ) → GatewayCall ℕ → List (List ℕ)
gateway_host_says content bytes c = (gateway_host_does content bytes c).says
