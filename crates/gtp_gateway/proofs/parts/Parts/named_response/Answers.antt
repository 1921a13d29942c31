use Rattle.std.proofs.Common.{Some, None, map, ◌∙◌, ap, ◌≡◌, List, [], ◌∷◌, refl}
use Rattle.gtp_machine.specs.Element.{cause_of}
use Rattle.gtp_machine.specs.Message.{Delete_bearer_response}
use Rattle.gtp_machine.specs.Reading.{removed_bearer}
use Rattle.gtp_gateway.specs.declared.receive.delete_bearer_request.identities.NamedBearer.{NamedBearer}
use Rattle.gtp_gateway.specs.receive.DeleteBearerRequest.{removed_by, context_by}
use Rattle.gtp_gateway.proofs.parts.Parts.named_response.Goals as goal

-- its contexts, by the bearers that are named
contexts_said : (ns : List NamedBearer) → map removed_bearer (map context_by ns) ≡ map removed_by ns
contexts_said [] = refl
contexts_said (n ∷ ns) = λ i. removed_by n ∷ contexts_said ns i

pub returns-clause-says : goal.returns-clause-says
returns-clause-says c =
    let contexts = ap (map removed_bearer) c.in_ok-contexts.ensures ∙ contexts_said c.args.named.now in
    c.delete_bearer_response.ensures.says ∙ (λ i. Delete_bearer_response
    (record {
      header = c.args.header;
      number = c.args.seq;
      cause = cause_of (c.cause_of_all-cause.ensures i);
      linked = None;
      contexts = contexts i;
      recovery = Some (c.counter-counter.ensures i);
    }))
