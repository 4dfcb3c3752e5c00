use Rattle.text.proofs.Pages.{puts_then}
use Rattle.decoding_rules.specs.Line.{message_text}
use Rattle.decoding.proofs.line.put_from_device.Goals as goal

pub returns : goal.returns
unfolding message_text
returns c = puts_then c.in_ok-put.ensures.puts c.put_read_from_device.ensures
