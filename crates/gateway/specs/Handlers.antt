-- What a handler does with any message: those of its code lead to their rule, and of any other it has no use. Assumes nothing.
use Rattle.std.specs.Prelude.{ℕ, List, eqb}
use Rattle.basis.specs.Choice.{pick}
use Rattle.basis.specs.Numbers.{no_use}
use Rattle.message.specs.Messages.{GatewayMessage, found, to_gateway}
use Rattle.gateway_record.specs.declared.Gateway.{Gateway}
use Rattle.gateway_rules.specs.Rules.{After, refuse, handle}

abbrev pub handle_only : (code : ℕ) → Gateway → (content reply : List ℕ) → GatewayMessage → After
handle_only code g content reply m = pick (eqb (to_gateway.code m) code) (handle g content reply (found m)) (refuse g content reply no_use)
