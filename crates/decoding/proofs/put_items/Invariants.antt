use Rattle.capture.specs.Items.{items}
use Rattle.capture.specs.Reader.{left}
use Rattle.text.proofs.Runs.{Underway}
use Rattle.decoding.specs.Items.{items_text}
use Rattle.decoding.proofs.put_items.Given as goal

abbrev pub invariant-loop-item : goal.invariant-loop-item
invariant-loop-item l = Underway l.initial.out l.out (items_text (left l.item-iterator)) (items_text (items l.capture 0))
