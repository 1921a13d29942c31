use Rattle.std.proofs.Common.{◌≡◌, false, sym, ap, subst, ◌∙◌}
use Rattle.std.specs.Prelude.{is_some}
use Rattle.serde_json.specs.Find.{as_object}
use Rattle.gtp_scenario.specs.Trees.{view}
use Rattle.gtp_scenario.proofs.Objects.{object_found, unknown_found, TellsOf}
use Rattle.gtp_scenario.proofs.reason.flaw.unknown_key.Goals as goal

pub returns-in-Some : goal.returns-in-Some
returns-in-Some c =
    let known = c.args.keys.now in
    let found = c.in-Some.ensures c.value.invariant.0 c.value.invariant.1 in
    subst (λ ts. TellsOf known (view ts) c.unknown_among.result) c.value.view_is
    (unknown_found known c.value.inside.element c.value.invariant found.0 c.unknown_among.result found.1 (c.unknown_among.ensures found.0 found.2))

pub returns-in-None : goal.returns-in-None
returns-in-None c is =
    let none : false ≡ is_some (as_object (view c.args.value.now)) =
    ap is_some (sym c.in-None.is) ∙ object_found c.value.inside.element c.members.result c.value.invariant c.members.ensures
    ∙ ap (λ ts. is_some (as_object (view ts))) c.value.view_is in
    absurd cc
