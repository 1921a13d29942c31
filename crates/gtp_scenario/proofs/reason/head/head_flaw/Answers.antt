use Rattle.gtp_scenario.specs.Trees.{view}
use Rattle.gtp_scenario.proofs.Gateways.{head_read}
use Rattle.gtp_scenario.proofs.Objects.{at_none}
use Rattle.gtp_scenario.proofs.reason.head.head_flaw.Goals as goal

pub returns-in-None : goal.returns-in-None
returns-in-None c =
    head_read (view c.args.value.now) (at_none c.in_ok-flaw.field-0 _ _ c.in_ok-flaw.ensures c.in_default.is)
    (at_none c.in_ok-flaw-2.field-0 _ _ c.in_ok-flaw-2.ensures c.in_default-2.is) (at_none c.in_ok-flaw-3.field-0 _ _ c.in_ok-flaw-3.ensures c.in-None.is)
