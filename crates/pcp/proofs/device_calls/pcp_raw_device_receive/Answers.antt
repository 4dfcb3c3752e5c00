-- The reply's length fits beside the number, since no reply is longer than its room. Assumes nothing.
use Rattle.exports.proofs.ExportLaws.{device_reply_below}
use Rattle.pcp.proofs.device_calls.pcp_raw_device_receive.Goals as goal

pub packed-requires : goal.packed-requires
packed-requires c = device_reply_below c.args.bytes.now
    c.args.image.now c.args.map.now
    c.args.reply.now _ c.device_at-device.ensures _ _ _ c.args.message.now _ _
    c.args.condition _ c.receive-answer.ensures
