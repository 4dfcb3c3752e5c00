use Rattle.transcript.proofs.Runs.{prints_fault}
use Rattle.transcript.proofs.put_too_long.Goals as goal

pub returns : goal.returns
returns c = prints_fault _ (rw (c.from.ensures, c.number.ensures) at c.put_number.ensures.puts)
