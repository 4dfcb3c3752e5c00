use Rattle.std.proofs.Common.{suc, length}
use Rattle.std.specs.Iterator.Adapters.{enumerate_source, enumerate_count}
use Rattle.capture.specs.Items.{items}
use Rattle.capture.specs.Reader.{left}
use Rattle.transcript.specs.Transcript.{start, text_from}
use Rattle.transcript.specs.Items.{state}
use Rattle.transcript.proofs.Runs.{Played}
use Rattle.transcript.proofs.run.Given as goal

abbrev pub invariant-loop-number : goal.invariant-loop-number
invariant-loop-number l =
    Played l.initial.out l.out (enumerate_count l.number-iterator) (state l.player) (left (enumerate_source l.number-iterator)) (items l.capture 0)
    (text_from l.capture (suc (length l.capture)) 0 0 start)
