use Rattle.std.proofs.Common.{true, false, sym, ◌∙◌}
use Rattle.std.specs.List.{list_any}
use Rattle.gtp_gateway.specs.receive.DeleteBearerRequest.{is_found}
use Rattle.gtp_gateway.proofs.DeleteBearerRequests.{cause_is}
use Rattle.gtp_gateway.proofs.receive.delete_bearer_request.identities.cause_of_all.Goals as goal

pub returns-then-are_all_found : goal.returns-then-are_all_found
returns-then-are_all_found c = cause_is c.args.named.now true (list_any is_found c.args.named.now) (sym c.if-are_all_found.true ∙ c.are_all_found.ensures) (λ i. list_any is_found c.args.named.now)

pub returns-then-is_any_found : goal.returns-then-is_any_found
returns-then-is_any_found c = cause_is c.args.named.now false true (sym c.if-are_all_found.false ∙ c.are_all_found.ensures) (sym c.if-is_any_found.true ∙ c.is_any_found.ensures)

pub returns-else-is_any_found : goal.returns-else-is_any_found
returns-else-is_any_found c = cause_is c.args.named.now false false (sym c.if-are_all_found.false ∙ c.are_all_found.ensures) (sym c.if-is_any_found.false ∙ c.is_any_found.ensures)
