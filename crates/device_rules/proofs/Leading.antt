-- The code in the bytes of a message leads it to its rule. Assumes nothing.
use Rattle.std.proofs.Common.{◌≡◌, ℕ, List, refl, sym}
use Rattle.basis.specs.Choice.{pick}
use Rattle.message.specs.Messages.{DeviceMessage, query, announce, fragment, download_reply, execute, result_reply, found, to_device, device_row}
use Rattle.round_trips.proofs.RoundTrip.{device_round_trip}
use Rattle.device_record.specs.declared.Device.{Device}
use Rattle.device_rules.specs.Rules.{handle}
use Rattle.device_rules.specs.Leading.{by_code, CodesLead}

-- each message is led by its own code
own : (d : Device) (image map reply : List ℕ) (condition : ℕ) (m : DeviceMessage)
    → handle d image map reply condition (found m) ≡ by_code d image map reply condition (to_device.code m) m
unfolding handle device_row pick
own d image map reply condition query = refl
own d image map reply condition (announce f) = refl
own d image map reply condition (fragment result index bytes) = refl
own d image map reply condition (download_reply result) = refl
own d image map reply condition execute = refl
own d image map reply condition (result_reply result) = refl

pub codes_lead : CodesLead
codes_lead d image map reply condition supported pcp bytes m e =
    rw (e, sym (device_round_trip.read_code supported pcp bytes m e)) (own d image map reply condition m)
