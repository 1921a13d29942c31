use Rattle.gtp_scenario.proofs.Objects.{at_none}
use Rattle.gtp_scenario.proofs.reason.wrong_flaw.Goals as goal

pub unreachable-requires : goal.unreachable-requires
unreachable-requires c = c.requires (at_none c.in_ok-flaw.field-0 _ _ c.in_ok-flaw.ensures c.in-None.is)
