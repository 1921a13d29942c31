use Rattle.std.proofs.Common.{◌≡◌, ◌+◌, List, ◌∷◌, Option, drop, sym, ◌∙◌, ap, subst}
use Rattle.std.proofs.lemmas.List.{drop_more}
use Rattle.gtp_values.specs.declared.identifiers.Teid.{Teid}
use Rattle.gtp_gateway.specs.declared.receive.delete_bearer_request.identities.NamedBearer.{NamedBearer}
use Rattle.gtp_gateway.specs.declared.parts.Parts.{Parts}
use Rattle.gtp_gateway.specs.receive.DeleteBearerRequest.{without_named, without_each}
use Rattle.gtp_gateway.specs.Parts.{node_of}
use Rattle.gtp_gateway.specs.tables.Stays.{OnlyTablesChange}
use Rattle.gtp_gateway.specs.GatewayState.{state_of}
use Rattle.gtp_gateway.specs.user.Receive.{RequestsWaitOn}
use Rattle.gtp_gateway.proofs.GivenUp.{wait_on}
use Rattle.gtp_gateway.proofs.Stays.{only_tables_twice}
use Rattle.gtp_gateway.proofs.parts.Parts.end_each.Goals.{in-Some, in_default}
use Rattle.gtp_gateway.proofs.parts.Parts.end_each.Goals as goal

pub loop-n-preserved : goal.loop-n-preserved
loop-n-preserved c =
    let old = state_of c.args.self.now in
    let at = c.loop-n.invariant in
    let named = c.args.named.now in
    let n = c.n-item.result in
    let before = node_of c.loop-n.self in
    let rest = drop (c.loop-n.n-index + 1) named in
    let first : drop c.loop-n.n-index named ≡ n ∷ rest = drop_more named c.loop-n.n-index n c.loop-n-test.true ∙ (λ i. sym c.n-item.is i ∷ rest) in
    let one : without_named n.teid before ≡ node_of c.match-n.self = elim c.match-n.branch [
      | in-Some w ↦ ap (λ (o : Option Teid). without_named o before) w.in-Some.is ∙ (sym w.remove_bearer.ensures.node ∙ ap node_of (sym w.self-is))
      | in_default w ↦ ap (λ (o : Option Teid). without_named o before) w.in_default.is ∙ ap node_of (sym w.self-is)
    ] in
    record {
      node = ap (without_each rest) (sym one) ∙ (ap (λ (ns : List NamedBearer). without_each ns before) (sym first) ∙ at.node);
      waits = elim c.match-n.branch [
        | in-Some w ↦ subst (λ (g : Parts). RequestsWaitOn old (state_of g)) (sym w.self-is) (wait_on old (state_of c.loop-n.self) _ at.waits w.remove_bearer.ensures.removes.waits)
        | in_default w ↦ subst (λ (g : Parts). RequestsWaitOn old (state_of g)) (sym w.self-is) at.waits
      ];
      only = elim c.match-n.branch [
        | in-Some w ↦ subst (λ (g : Parts). OnlyTablesChange c.args.self.now g) (sym w.self-is)
            (only_tables_twice c.args.self.now c.loop-n.self w.remove_bearer.new.self at.only w.remove_bearer.ensures.removes.only)
        | in_default w ↦ subst (λ (g : Parts). OnlyTablesChange c.args.self.now g) (sym w.self-is) at.only
      ];
    }
