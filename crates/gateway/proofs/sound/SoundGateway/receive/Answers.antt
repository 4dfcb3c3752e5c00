-- Each message goes to its handler, whose rule holds of any package and reply that it is not lent. Assumes nothing.
use Rattle.std.proofs.Common.{arith}
use Rattle.std.proofs.lemmas.Grind.{common_steps}
use Rattle.basis.specs.Choice.{pick, refusal}
use Rattle.message.specs.Messages.{gateway_row}
use Rattle.gateway_rules.specs.Rules.{receive_of}
use Rattle.gateway.proofs.sound.SoundGateway.receive.Goals as goal

pub returns-in-QueryReply-clause-rule : goal.returns-in-QueryReply-clause-rule
unfolding receive_of gateway_row pick refusal
returns-in-QueryReply-clause-rule c = grind (arith, common_steps, c.on_query_reply.ensures.rule c.args.content.now c.args.reply.now)

pub returns-in-AnnounceReply-clause-rule : goal.returns-in-AnnounceReply-clause-rule
unfolding receive_of gateway_row pick refusal
returns-in-AnnounceReply-clause-rule c = grind (arith, common_steps, c.on_announce_reply.ensures.rule c.args.content.now c.args.reply.now)

pub returns-in-DownloadReport-clause-rule : goal.returns-in-DownloadReport-clause-rule
unfolding receive_of gateway_row pick refusal
returns-in-DownloadReport-clause-rule c = grind (arith, common_steps, c.on_download_report.ensures.rule c.args.content.now)

pub returns-in-ExecuteReply-clause-rule : goal.returns-in-ExecuteReply-clause-rule
unfolding receive_of gateway_row pick refusal
returns-in-ExecuteReply-clause-rule c = grind (arith, common_steps, c.on_execute_reply.ensures.rule c.args.content.now c.args.reply.now)

pub returns-in-ResultReport-clause-rule : goal.returns-in-ResultReport-clause-rule
unfolding receive_of gateway_row pick refusal
returns-in-ResultReport-clause-rule c = grind (arith, common_steps, c.on_result_report.ensures.rule c.args.content.now)
