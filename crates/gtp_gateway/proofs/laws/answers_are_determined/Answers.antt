-- The laws are proved in `Determined`.
use Rattle.gtp_gateway.proofs.Determined.Pair.{receives_one}
use Rattle.gtp_gateway.proofs.Determined.Command.{begins_one, ticks_one}
use Rattle.gtp_gateway.proofs.laws.answers_are_determined.Goals as goal

pub returns-clause-receive : goal.returns-clause-receive
returns-clause-receive c = receives_one _ c.stands.ensures.whole c.stands.ensures.once c.stands.ensures.tied c.stands.ensures.distinct

pub returns-clause-command : goal.returns-clause-command
returns-clause-command c = begins_one _ c.stands.ensures.whole c.stands.ensures.once c.stands.ensures.tied

pub returns-clause-tick : goal.returns-clause-tick
returns-clause-tick c = ticks_one _ c.stands.ensures.distinct
