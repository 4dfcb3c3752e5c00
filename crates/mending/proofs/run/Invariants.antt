use Rattle.capture.specs.Reader.{still}
use Rattle.mending.proofs.Runs.{Both}
use Rattle.mending.proofs.run.Given as goal

abbrev pub invariant-loop-piece : goal.invariant-loop-piece
invariant-loop-piece l = Both l.capture l.initial.out l.out l.initial.told l.told (still l.piece-iterator)
