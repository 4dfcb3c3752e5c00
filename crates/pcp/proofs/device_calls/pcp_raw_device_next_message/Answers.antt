-- The message's length fits beside the number, since no message is longer than its room. Assumes nothing.
use Rattle.exports.proofs.ExportLaws.{device_ask_below}
use Rattle.pcp.proofs.device_calls.pcp_raw_device_next_message.Goals as goal

pub packed-requires : goal.packed-requires
packed-requires c = device_ask_below c.args.bytes.now
    c.args.image.now
    c.args.map.now
    c.args.reply.now _
    c.device_at-device.ensures _ _ (rw c.in-Ok.is at c.next_message.ensures)
