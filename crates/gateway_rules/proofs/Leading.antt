-- The code in the bytes of a message leads it to its rule. Assumes nothing.
use Rattle.std.proofs.Common.{◌≡◌, ℕ, List, refl, sym}
use Rattle.basis.specs.Choice.{pick}
use Rattle.message.specs.Messages.{GatewayMessage, query_reply, announce_reply, fragment_request, download_report, execute_reply, result_report}
use Rattle.message.specs.Messages.{found, to_gateway, gateway_row}
use Rattle.round_trips.proofs.RoundTrip.{gateway_round_trip}
use Rattle.gateway_record.specs.declared.Gateway.{Gateway}
use Rattle.gateway_rules.specs.Rules.{handle}
use Rattle.gateway_rules.specs.Leading.{by_code, CodesLead}

-- each message is led by its own code
own : (g : Gateway) (content reply : List ℕ) (m : GatewayMessage) → handle g content reply (found m) ≡ by_code g content reply (to_gateway.code m) m
unfolding handle gateway_row pick
own g content reply (query_reply result version) = refl
own g content reply (announce_reply result) = refl
own g content reply (fragment_request version index) = refl
own g content reply (download_report result) = refl
own g content reply (execute_reply result) = refl
own g content reply (result_report result version) = refl

pub codes_lead : CodesLead
codes_lead g content reply supported pcp bytes m e =
    rw (e, sym (gateway_round_trip.read_code supported pcp bytes m e)) (own g content reply m)
