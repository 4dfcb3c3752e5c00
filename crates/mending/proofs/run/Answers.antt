use Rattle.std.proofs.Common.{◌∙◌, ap}
use Rattle.capture.specs.declared.CaptureReader.{CaptureReader}
use Rattle.capture.specs.Items.{pieces}
use Rattle.capture.specs.Reader.{still}
use Rattle.mending.proofs.Runs.{both_begin, record_goes, record_stops, stretch_goes, stretch_stops, both_end}
use Rattle.mending.proofs.run.Goals as goal

pub loop-piece-init : goal.loop-piece-init
loop-piece-init c =
    both_begin _ _ _ _
    (ap still c.into_iter-piece-iterator.ensures.into_iter_gives
    ∙ c.mending-piece-items.ensures ∙ ap (λ (r : CaptureReader). pieces r.capture.now r.at) c.new.ensures)

pub loop-piece-preserved-in-Continue-1 : goal.loop-piece-preserved-in-Continue-1
loop-piece-preserved-in-Continue-1 c = record_goes c.loop-piece.invariant (rw c.in-Ok.is at c.in-Some.ensures.steps) c.in_ok-put_record-in-Ok.ensures

pub returns-in_err-put_record-in-Ok : goal.returns-in_err-put_record-in-Ok
returns-in_err-put_record-in-Ok c =
    record_stops c.loop-piece.invariant (rw c.in-Ok.is at c.in-Some.ensures.steps) c.in_err-put_record-in-Ok.ensures c.from_residual.ensures.0

pub loop-piece-preserved : goal.loop-piece-preserved
loop-piece-preserved c = stretch_goes c.loop-piece.invariant (rw c.in-Err.is at c.in-Some.ensures.steps) c.in_ok-tell-in-Err.ensures

pub returns-in_err-tell-in-Err : goal.returns-in_err-tell-in-Err
returns-in_err-tell-in-Err c =
    stretch_stops c.loop-piece.invariant (rw c.in-Err.is at c.in-Some.ensures.steps) c.in_err-tell-in-Err.ensures
    c.from_residual-in_err-tell-in-Err.ensures.0

pub returns : goal.returns
returns c = both_end c.loop-piece.invariant c.in-None.ensures.steps.0
