-- What is said to a request for a fragment is a message that the table allows. Assumes nothing.
use Rattle.std.proofs.Common.{arith}
use Rattle.std.proofs.lemmas.Grind.{common_steps}
use Rattle.message.specs.Messages.{device_row}
use Rattle.message.specs.Limits.{size_ok, is_word}
use Rattle.basis.specs.Choice.{pick}
use Rattle.gateway_rules.specs.Decisions.{fragment_result}
use Rattle.gateway_record.specs.Record.{record_ok, fragment_of}
use Rattle.gateway.proofs.Totals.{fragment_there, no_fragment}
use Rattle.gateway.proofs.sound.SoundGateway.on_fragment_request.Goals as goal

pub say-requires-clause-sayable : goal.say-requires-clause-sayable
unfolding device_row is_word
say-requires-clause-sayable c =
    let kept = c.as_record-phase.result in
    let none = no_fragment kept.phase kept.fields c.in-FragmentRequest.version c.in-FragmentRequest.index in
    grind (arith, common_steps, none, c.fragment_result-result.ensures, c.if-result-ne0.true)

pub say-requires-2-clause-sayable : goal.say-requires-2-clause-sayable
unfolding device_row record_ok size_ok is_word fragment_result pick fragment_of
say-requires-2-clause-sayable c =
    let there = fragment_there c.args.content.now c.as_record-phase.result.fields.size c.in-FragmentRequest.index in
    grind (arith, common_steps, there, c.as_record-phase.ensures, c.fragment_result-result.ensures, c.fragment.ensures.bytes, c.requires.package)
