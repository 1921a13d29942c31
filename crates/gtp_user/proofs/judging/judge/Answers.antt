use Rattle.gtp_user.proofs.Judged.{passes, only, fault, first}
use Rattle.gtp_user.proofs.judging.judge.Goals as goal

pub returns-clause-found : goal.returns-clause-found
returns-clause-found c = passes c.args.understood.now c.args.octets.now c.judge_message.result c.judge_message.ensures

pub returns-clause-only : goal.returns-clause-only
returns-clause-only c = only c.args.understood.now c.args.octets.now c.judge_message.result c.judge_message.ensures

pub returns-clause-fault : goal.returns-clause-fault
returns-clause-fault c = fault c.args.understood.now c.args.octets.now c.judge_message.result c.judge_message.ensures

pub returns-clause-first : goal.returns-clause-first
returns-clause-first c = first c.args.understood.now c.args.octets.now c.judge_message.result c.judge_message.ensures
