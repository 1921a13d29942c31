use Rattle.gtp_scenario.specs.Trees.{view}
use Rattle.gtp_scenario.proofs.Objects.{at_none}
use Rattle.gtp_serve.proofs.Faultless.{never_read}
use Rattle.gtp_serve.proofs.reason.head_flaw.Goals as goal

pub unreachable-requires : goal.unreachable-requires
unreachable-requires c = never_read (view c.args.value.now) (at_none c.in_ok-flaw.field-0 _ _ c.in_ok-flaw.ensures c.in-None.is) c.requires
