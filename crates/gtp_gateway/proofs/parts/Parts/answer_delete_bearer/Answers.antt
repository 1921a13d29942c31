use Rattle.std.proofs.Common.{◌≡◌, Some, [], map, ◌∙◌}
use Rattle.gtp_machine.specs.Answer.{answered}
use Rattle.gtp_machine.specs.Element.{cause_of}
use Rattle.gtp_machine.specs.Message.{Message, Delete_bearer_response}
use Rattle.gtp_machine.specs.Reading.{control_message, removed_bearer}
use Rattle.gtp_gateway.specs.tables.Change.{changed_by}
use Rattle.gtp_gateway.specs.receive.DeleteBearerRequest.{delete_bearer_effect}
use Rattle.gtp_gateway.specs.Parts.{node_of}
use Rattle.gtp_gateway.specs.GatewayState.{state_of}
use Rattle.gtp_gateway.proofs.Rows.{answers}
use Rattle.gtp_gateway.proofs.parts.Parts.answer_delete_bearer.Goals as goal

pub returns-clause-taken : goal.returns-clause-taken
returns-clause-taken c =
    let old = c.args.self.now in
    let node = node_of old in
    let arrival = c.args.arrival.now in
    let a = c.args.answer.now in
    let message : Message = control_message c.delete_bearer_response-message.result in
    let said : message ≡ Delete_bearer_response (record { header = a.header; number = c.args.seq; cause = cause_of a.cause; linked = a.linked; contexts = []; recovery = Some node.counter }) =
    c.delete_bearer_response-message.ensures.says
    ∙ (λ i. Delete_bearer_response (record {
      header = a.header;
      number = c.args.seq;
      cause = cause_of a.cause;
      linked = a.linked;
      contexts = map removed_bearer (c.new-contexts.ensures.items i);
      recovery = Some (c.counter-counter.ensures i);
    })) in
    answers (λ n e. e ≡ delete_bearer_effect arrival c.args.seq a n) arrival (state_of old) (state_of c.answer.new.self) c.sent.result c.in_ok-out.out
    message a.cause (changed_by a.change node) c.sent.ensures c.in_ok-out.ensures.sent c.in_ok-out.ensures.back c.in_ok-out.ensures.node
    c.in_ok-out.ensures.role
    (λ i. answered arrival (said i) a.cause (changed_by a.change node))
