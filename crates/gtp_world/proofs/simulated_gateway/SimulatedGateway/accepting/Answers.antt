use Rattle.std.proofs.Common.{List, Some, [], ◌∷◌, sym, ◌∙◌, ap, subst}
use Rattle.gtp_machine.specs.Input.{Entry, entry_for}
use Rattle.gtp_machine.specs.World.{By, signed}
use Rattle.gtp_gateway.specs.user.Accepted.{Accepted}
use Rattle.gtp_gateway.specs.user.Receive.{AreEntries}
use Rattle.gtp_world.proofs.simulated_gateway.SimulatedGateway.accepting.Goals as goal

pub returns-clause-accepted : goal.returns-clause-accepted
returns-clause-accepted c list given =
    let node = c.args.self.now.gateway.node in
    let told = subst (λ (a : Accepted). AreEntries node (Some a) list) (sym c.accepted.view_is) (subst (λ k. AreEntries node k list) c.in-Some.is given) in
    let entry = told.0 in
    let of = told.1 in
    let one : Entry → List (By Entry) = λ e. record { role = c.args.node; what = e } ∷ [] in
    c.entry.ensures of.at of.of
    ∙ ap (λ k. one (entry_for c.accepted.inside.bearer k of.of.session.subscriber of.at.bearer.identity)) c.in_ok-payload.ensures.items
    ∙ ap one (sym of.is)
    ∙ ap (signed c.args.node) (sym told.2)
