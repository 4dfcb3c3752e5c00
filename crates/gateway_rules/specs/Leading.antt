-- The code in the bytes of a message leads it to its rule. Assumes nothing.
use Rattle.std.specs.Prelude.{ℕ, ◌≡◌, Bool, List, eqb, get_or}
use Rattle.basis.specs.Choice.{pick}
use Rattle.basis.specs.Numbers.{no_use}
use Rattle.message.specs.Messages.{GatewayMessage, query_reply, announce_reply, fragment_request, download_report, execute_reply, result_report}
use Rattle.message.specs.Messages.{found, to_gateway}
use Rattle.codec.specs.Codec.{read_of}
use Rattle.gateway_record.specs.declared.Gateway.{Gateway}
use Rattle.gateway_rules.specs.Rules.{After, refuse, handle, on_query_reply, on_announce_reply, on_fragment_request}
use Rattle.gateway_rules.specs.Rules.{on_download_report, on_execute_reply, on_result_report}

module _ (g : Gateway) (content reply : List ℕ) where
  -- the rule of a code is that of one message, and has no use for any other
  abbrev only : (own code : ℕ) → After → After
  only own code after = pick (eqb code own) after (refuse g content reply no_use)

  abbrev pub by_code : (code : ℕ) → GatewayMessage → After
  by_code code (query_reply result version) = only 19 code (on_query_reply g content reply version)
  by_code code (announce_reply result) = only 20 code (on_announce_reply g content reply result)
  by_code code (fragment_request version index) = only 21 code (on_fragment_request g content reply version index)
  by_code code (download_report result) = only 22 code (on_download_report g content reply result)
  by_code code (execute_reply result) = only 23 code (on_execute_reply g content reply result)
  by_code code (result_report result version) = only 24 code (on_result_report g content reply result version)

abbrev pub CodesLead : Type 0
CodesLead = (g : Gateway) (content reply : List ℕ) (supported pcp : Bool) (bytes : List ℕ) (m : GatewayMessage)
    → read_of to_gateway supported pcp bytes ≡ found m
    → handle g content reply (read_of to_gateway supported pcp bytes) ≡ by_code g content reply (get_or bytes 3 0) m
