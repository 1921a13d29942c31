use Rattle.gtp_scenario.specs.Heads.{setup_of, events_at}
use Rattle.gtp_scenario.proofs.StrictHeads.{head_never}
use Rattle.gtp_scenario.proofs.StrictNames.{flaw_never}
use Rattle.gtp_scenario.proofs.Whole.{by_some}
use Rattle.gtp_scenario.proofs.laws.flaws_are_refused.Goals as goal

pub returns-clause-head : goal.returns-clause-head
returns-clause-head c d flaw is setup events = head_never d flaw is (by_some (setup_of d) setup) (by_some (events_at d) events)

pub returns-clause-entry : goal.returns-clause-entry
returns-clause-entry c d flaw is right = flaw_never d flaw is right
