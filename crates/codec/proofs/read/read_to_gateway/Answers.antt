-- `codec::read_to_gateway` meets its contract. Assumes nothing.
use Rattle.std.proofs.Common.{◌∙◌, ap}
use Rattle.basis.specs.Bytes.{Bytes}
use Rattle.basis.proofs.Lists.{rest_is}
use Rattle.message.specs.Messages.{to_gateway}
use Rattle.message.specs.Enums.{gateway_message, reading_of}
use Rattle.codec.proofs.Reading.{gateway_same, bytes_drop, whole_is}
use Rattle.codec.proofs.read.read_to_gateway.Goals as goal

pub returns : goal.returns
unfolding Bytes
returns c =
    let rest = rest_is 8 c.args.message.now in
    ap (reading_of gateway_message) (rw rest at c.whole.ensures)
    ∙ whole_is to_gateway gateway_message _ c.args.supported c.args.pcp c.args.message.now c.in_ok-recognise.ensures.number
    (rw (rest, c.byte_at.ensures) at c.gateway_fields.ensures)
    (gateway_same _) (bytes_drop 8 c.args.message.now (λ i. (c.type_inv.message i).fits))
