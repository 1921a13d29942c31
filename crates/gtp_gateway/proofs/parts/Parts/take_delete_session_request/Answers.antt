use Rattle.std.proofs.Common.{◌≡◌, Some, inl, inr, refl, sym, ◌∙◌, subst}
use Rattle.gtp_machine.specs.Answer.{answered}
use Rattle.gtp_machine.specs.Element.{cause_of}
use Rattle.gtp_machine.specs.Message.{Message, Delete_session_response, DeleteSessionRequest}
use Rattle.gtp_machine.specs.Packet.{DeleteSessionJudged, DeleteSessionAsked}
use Rattle.gtp_machine.specs.Reading.{control_message}
use Rattle.gtp_machine.specs.declared.outcome.DropReason.TheVariants.{HeldFull}
use Rattle.gtp_gateway.specs.receive.DeleteSessionRequest.{delete_session_by}
use Rattle.gtp_gateway.specs.tables.Change.{changed_by}
use Rattle.gtp_gateway.specs.Parts.{node_of}
use Rattle.gtp_gateway.specs.GatewayState.{state_of}
use Rattle.gtp_gateway.proofs.Answers.{held_few, held_many}
use Rattle.gtp_gateway.proofs.Columns.{yes, no}
use Rattle.gtp_gateway.proofs.Rows.{drops, answers}
use Rattle.gtp_machine.specs.Choice.{HasHeldRoom}
use Rattle.gtp_machine.specs.Input.{Effect}
use Rattle.gtp_machine.specs.Node.{Arrival, Node}
use Rattle.gtp_gateway.specs.receive.Allocations.{SendsOrOpens, AlwaysSendsOrOpens}
use Rattle.gtp_gateway.proofs.Rules.{follows}
use Rattle.gtp_gateway.proofs.Allocations.{sends, sends_answer}
use Rattle.gtp_gateway.proofs.parts.Parts.take_delete_session_request.Goals as goal

delete_session_judged : (request : Arrival) (d : DeleteSessionRequest) (old : Node) (e : Effect) → DeleteSessionJudged request d old e → SendsOrOpens e
delete_session_judged request d old e r = follows (sends_answer request old) (λ at. follows (sends_answer request old) (λ linked is. sends (λ none. cc) is)) r

delete_session_asked : (request : Arrival) (d : DeleteSessionRequest) (old : Node) → HasHeldRoom old → AlwaysSendsOrOpens (DeleteSessionAsked request d) old
delete_session_asked request d old room e r = follows (λ full is. absurd (full room)) (λ few. delete_session_judged request d old e) r

pub returns-then-is_full-clause-taken : goal.returns-then-is_full-clause-taken
returns-then-is_full-clause-taken c =
    let old = c.args.self.now in
    let d = delete_session_by c.args.request.now in
    let arrival = c.args.arrival.now in
    drops (DeleteSessionAsked arrival d) arrival (state_of old) c.dropped.result HeldFull c.dropped.ensures
    (inl (λ room. held_many old.held.pairs (yes c.is_full.ensures.full c.if-is_full.true) room.few, refl))

pub returns-clause-taken : goal.returns-clause-taken
returns-clause-taken c =
    let old = c.args.self.now in
    let d = delete_session_by c.args.request.now in
    let node = node_of old in
    let arrival = c.args.arrival.now in
    let v = c.judge_delete_session-verdict.result in
    let m : Message = Delete_session_response (record { header = v.header; number = d.number; cause = cause_of v.cause; recovery = Some node.counter }) in
    let said : control_message c.delete_session_response-message.result ≡ m =
    c.delete_session_response-message.ensures.says ∙ (λ i. Delete_session_response
    (record { header = v.header; number = d.number; cause = c.plain_cause.ensures i; recovery = Some (c.counter.ensures i) })) in
    answers (DeleteSessionAsked arrival d) arrival (state_of old) (state_of c.answer.new.self) c.sent.result c.in_ok-out.out
    (control_message c.delete_session_response-message.result) v.cause (changed_by v.change node) c.sent.ensures c.in_ok-out.ensures.sent
    c.in_ok-out.ensures.back c.in_ok-out.ensures.node c.in_ok-out.ensures.role
    (inr (
      record { few = held_few old.held.pairs (no c.is_full.ensures.full c.if-is_full.false) },
      subst (λ (k : Message). DeleteSessionJudged arrival d node (answered arrival k v.cause (changed_by v.change node))) (sym said) (c.judge_delete_session-verdict.ensures.judged arrival),
    ))
