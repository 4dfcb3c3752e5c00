-- The reply's length fits beside the number, since no reply is longer than its room. Assumes nothing.
use Rattle.exports.proofs.ExportLaws.{gateway_reply_below}
use Rattle.pcp.proofs.gateway_calls.pcp_raw_gateway_receive.Goals as goal

pub packed-requires : goal.packed-requires
packed-requires c = gateway_reply_below c.args.bytes.now c.args.content.now c.args.reply.now _ c.gateway_at-gateway.ensures _
    c.args.message.now _
    _ _ c.receive-answer.ensures
