use Rattle.std.proofs.Common.{◌≡◌, ◌∙◌, ap, inl}
use Rattle.std.specs.Iterator.Adapters.{enumerate_source, enumerate_count}
use Rattle.capture.specs.declared.CaptureReader.{CaptureReader}
use Rattle.capture.specs.Items.{items}
use Rattle.capture.specs.Reader.{left}
use Rattle.transcript.proofs.Runs.{text_is, room_enough, played_none, plays, stops, over, counted_fits}
use Rattle.transcript.proofs.run.Goals as goal

none_counted : (c : goal.After-into_iter-number-iterator) → enumerate_count c.into_iter-number-iterator.result ≡ 0
none_counted c = ap enumerate_count c.into_iter-number-iterator.ensures.into_iter_gives ∙ c.enumerate-number-items.ensures.count

all_left : (c : goal.After-into_iter-number-iterator) → left (enumerate_source c.into_iter-number-iterator.result) ≡ items c.args.capture.now 0
all_left c =
    ap (λ r. left (enumerate_source r)) c.into_iter-number-iterator.ensures.into_iter_gives ∙ ap left c.enumerate-number-items.ensures.source
    ∙ ap (λ (r : CaptureReader). items r.capture.now r.at) c.new.ensures

pub loop-number-init : goal.loop-number-init
loop-number-init c = played_none _ (none_counted c) c.new-player.ensures (all_left c) (text_is c.args.capture.now)

pub loop-number-init-derived : goal.loop-number-init-derived
loop-number-init-derived c = ((tt, tt, inl (counted_fits c.args.capture.now c.requires (none_counted c) (all_left c))), tt)

pub loop-number-preserved : goal.loop-number-preserved
loop-number-preserved c =
    let steps = c.in-Some.ensures.steps in
    plays c.loop-number.invariant steps.0 c.in_ok-play.ensures.device c.in_ok-play.ensures.reply steps.1 steps.2 c.in_ok-play.ensures.text

pub returns-in_err-play : goal.returns-in_err-play
returns-in_err-play c =
    let steps = c.in-Some.ensures.steps in
    stops c.loop-number.invariant steps.0 c.in_err-play.ensures.device c.in_err-play.ensures.reply (room_enough c.args.capture.now c.requires) steps.1
    c.in_err-play.ensures.text c.from_residual.ensures.0

pub returns : goal.returns
returns c = over c.loop-number.invariant c.in-None.ensures.steps.0.0
