use Rattle.std.proofs.Common.{List, [], ◌∷◌, ◌++◌, map, take, get_or, ap, subst, sym, ◌∙◌}
use Rattle.std.proofs.lemmas.List.{map_push, take_more}
use Rattle.gtp_gateway.specs.declared.receive.delete_bearer_request.identities.NamedBearer.{NamedBearer}
use Rattle.gtp_gateway.specs.receive.DeleteBearerRequest.{NamesEach, NamesOne, identity_named, number_in}
use Rattle.gtp_gateway.specs.Parts.{node_of}
use Rattle.gtp_gateway.proofs.DeleteBearerRequests.{names_push}
use Rattle.gtp_gateway.proofs.parts.Parts.name_each.Goals as goal

pub loop-identity-preserved : goal.loop-identity-preserved
loop-identity-preserved c =
    let at = c.loop-identity in
    let one : NamedBearer = record { identity = c.identity-item.result; teid = c.bearer_for-teid.result } in
    let read = c.identity-item.result in
    let item = get_or c.args.identities.now at.identity-index read in
    let names =
    names_push (node_of c.args.self.now) c.args.session [] at.named.items one at.invariant.names
    (subst (λ (b : List NamedBearer). NamesOne (node_of c.args.self.now) c.args.session b c.identity-item.result.0 c.bearer_for-teid.result)
    c.as_slice.ensures.value c.bearer_for-teid.ensures) in
    record {
      identities = ap (map identity_named) c.in_ok-push.ensures.items ∙ map_push identity_named at.named.items one ∙ (λ i. at.invariant.identities i ++ number_in (c.identity-item.is i) ∷ [])
          ∙ sym (ap (map number_in) (take_more c.args.identities.now at.identity-index read c.loop-identity-test.true) ∙ map_push number_in (take at.identity-index c.args.identities.now) item);
      names = subst (λ (ns : List NamedBearer). NamesEach (node_of c.args.self.now) c.args.session [] ns) (sym c.in_ok-push.ensures.items) names;
    }
