use Rattle.std.proofs.Common.{sym, ◌∙◌}
use Rattle.gtp_scenario.specs.Trees.{view}
use Rattle.gtp_scenario.proofs.Objects.{fits_where, at_none}
use Rattle.gtp_scenario.proofs.reason.flaw.flaw_of.Goals as goal

pub returns-in-None : goal.returns-in-None
returns-in-None c =
    fits_where c.args.keys.now (view c.args.value.now) (sym c.is_object.ensures ∙ c.if-not-is_object.false)
    (at_none c.unknown_key.result _ _ c.unknown_key.ensures c.in_default.is) (sym c.in_ok-key.ensures ∙ c.in-None.is)
