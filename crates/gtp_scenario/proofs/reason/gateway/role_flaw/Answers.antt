use Rattle.std.proofs.Common.{refl, sym, ◌∙◌}
use Rattle.gtp_scenario.specs.declared.reason.key.Key.TheVariants as keys
use Rattle.gtp_scenario.specs.Trees.{view}
use Rattle.gtp_scenario.proofs.Objects.{bad_role, no_word}
use Rattle.gtp_scenario.proofs.reason.gateway.role_flaw.Goals as goal

pub returns-then-has : goal.returns-then-has
returns-then-has c = (refl, bad_role (view c.args.value.now) c.requires (sym c.has.ensures ∙ c.if-has.true))

pub returns-else-has : goal.returns-else-has
returns-else-has c = (refl, no_word keys.Role (view c.args.value.now) refl (sym c.has.ensures ∙ c.if-has.false))
