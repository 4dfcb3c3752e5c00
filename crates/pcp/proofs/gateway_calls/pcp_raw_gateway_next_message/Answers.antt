-- The message's length fits beside the number, since no message is longer than its room. Assumes nothing.
use Rattle.exports.proofs.ExportLaws.{gateway_ask_below}
use Rattle.pcp.proofs.gateway_calls.pcp_raw_gateway_next_message.Goals as goal

pub packed-requires : goal.packed-requires
packed-requires c = gateway_ask_below c.args.bytes.now
    c.args.content.now
    c.args.reply.now _
    c.gateway_at-gateway.ensures _ _ (rw c.in-Ok.is at c.next_message.ensures)
