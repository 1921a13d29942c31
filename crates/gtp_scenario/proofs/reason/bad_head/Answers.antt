use Rattle.gtp_scenario.specs.Trees.{view}
use Rattle.gtp_scenario.proofs.Heading.{head_is_none}
use Rattle.gtp_scenario.proofs.Objects.{at_none}
use Rattle.gtp_scenario.proofs.reason.bad_head.Goals as goal

pub unreachable-requires : goal.unreachable-requires
unreachable-requires c =
    let both = at_none c.in_ok-flaw.field-0 _ _ c.in_ok-flaw.ensures c.in-None.is in
    head_is_none (view c.args.value.now) c.requires both.0 both.1
