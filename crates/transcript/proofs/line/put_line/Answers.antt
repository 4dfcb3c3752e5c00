use Rattle.text.proofs.Pages.{puts_then}
use Rattle.transcript.specs.Line.{line_text}
use Rattle.transcript.proofs.line.put_line.Goals as goal

pub returns : goal.returns
unfolding line_text
returns c =
    puts_then c.in_ok-put_number.ensures.puts (puts_then c.in_ok-put_number-2.ensures.puts (puts_then c.in_ok-put_number-3.ensures.puts
    (puts_then c.in_ok-put_reply.ensures c.put.ensures.puts)))
