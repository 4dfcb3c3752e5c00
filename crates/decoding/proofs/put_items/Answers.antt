use Rattle.std.proofs.Common.{ap}
use Rattle.text.proofs.Runs.{goes, stops, ends}
use Rattle.decoding.specs.Items.{items_text}
use Rattle.decoding.proofs.put_items.Goals as goal

pub loop-item-preserved-in-Continue-1 : goal.loop-item-preserved-in-Continue-1
unfolding items_text
loop-item-preserved-in-Continue-1 c = goes c.loop-item.invariant (ap items_text (rw c.in-Ok.is at c.in-Some.ensures.steps)) c.in_ok-put_record-in-Ok.ensures

pub returns-in_err-put_record-in-Ok : goal.returns-in_err-put_record-in-Ok
unfolding items_text
returns-in_err-put_record-in-Ok c =
    stops c.loop-item.invariant _ (ap items_text (rw c.in-Ok.is at c.in-Some.ensures.steps)) c.in_err-put_record-in-Ok.ensures c.from_residual.ensures.0

pub loop-item-preserved : goal.loop-item-preserved
unfolding items_text
loop-item-preserved c =
    goes c.loop-item.invariant (ap items_text (rw c.in-Err.is at c.in-Some.ensures.steps)) c.in_ok-put_fault-in-Err.ensures

pub returns-in_err-put_fault-in-Err : goal.returns-in_err-put_fault-in-Err
unfolding items_text
returns-in_err-put_fault-in-Err c =
    stops c.loop-item.invariant _ (ap items_text (rw c.in-Err.is at c.in-Some.ensures.steps)) c.in_err-put_fault-in-Err.ensures
    c.from_residual-in_err-put_fault-in-Err.ensures.0

pub returns : goal.returns
unfolding items_text
returns c = ends c.loop-item.invariant (ap items_text c.in-None.ensures.steps.0)
