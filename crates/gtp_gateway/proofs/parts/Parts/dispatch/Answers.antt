use Rattle.std.proofs.Common.{◌≡◌, Some, refl, sym, ◌∙◌, ap, ℕ, List, [], ◌∷◌}
use Rattle.std.proofs.lemmas.Result.{IfOk-weaker, on_err_weaker}
use Rattle.gtp_machine.specs.Answer.{echoed}
use Rattle.gtp_machine.specs.Decoded.{message_of, row_in, number_of, cause_at}
use Rattle.gtp_machine.specs.Packet.{CreateSessionAsked, DeleteSessionAsked, CreateBearerAnswered, DeleteBearerAnswered}
use Rattle.gtp_machine.specs.Response.{EchoAnswered}
use Rattle.gtp_machine.specs.Serving.{CreateBearerAsked, CreateSessionAnswered, DeleteSessionAnswered, DeleteBearerAsked}
use Rattle.gtp_machine.specs.declared.message_type.MessageType.{MessageType}
use Rattle.gtp_machine.specs.declared.message_type.MessageType.TheVariants as types
use Rattle.gtp_gateway.specs.receive.DeleteBearerRequest.{delete_bearer_by, identities_of}
use Rattle.gtp_gateway.specs.receive.DeleteSessionRequest.{delete_session_by}
use Rattle.gtp_gateway.specs.GatewayState.{state_of}
use Rattle.gtp_gateway.proofs.ByType.{row_by, row_heard, row_unheard, needs_heard, needs_unheard}
use Rattle.gtp_gateway.proofs.DeleteBearerRequests.{delete_bearer_is}
use Rattle.gtp_gateway.proofs.QueuesAfter.{then_goes}
use Rattle.gtp_gateway.proofs.CreateBearerRequests.{create_bearer_is}
use Rattle.gtp_gateway.proofs.Allocations.{on_err, needs_echo}
use Rattle.gtp_v2.specs.Message.{MessageValue}
use Rattle.gtp_v2.specs.Datagram.{IsMessage}
use Rattle.gtp_machine.specs.Message.{Message, Echo, Delete_session_request, Echo_request, Echo_response, Delete_session_response, Delete_bearer_response}
use Rattle.gtp_machine.specs.MessageType.{type_at}
use Rattle.gtp_machine.proofs.Octets.Readings.{reads_as}
use Rattle.gtp_values.specs.declared.cause.Cause.{Cause}
use Rattle.gtp_ie.specs.Value.{OfCause, OfEbi}
use Rattle.gtp_v2.specs.Viewed.{has_row, row_of}
use Rattle.gtp_machine.specs.Node.{written}
use Rattle.gtp_machine.proofs.Basics.Types.{type_kind}
use Rattle.gtp_gateway.specs.declared.receive.delete_request.DeleteRequest.{DeleteRequest}
use Rattle.gtp_gateway.specs.receive.DeleteRequest.{ReadsDelete}
use Rattle.gtp_gateway.proofs.InPlace.{row_said}
use Rattle.gtp_gateway.proofs.parts.Parts.dispatch.Goals as goal

record IsEcho (message : Echo → Message) (m : MessageValue) : Type 0 where
  pub echo : Echo
  pub is : message_of m ≡ message echo
  pub number : echo.number ≡ m.seq

echo_request_is : (octets : List ℕ) (m : MessageValue) → IsMessage octets m → type_at m.kind ≡ Some types.EchoRequest → IsEcho Echo_request m
echo_request_is octets m is at = record { echo = _; is = reads_as types.EchoRequest octets m is at; number = refl }

echo_response_is : (octets : List ℕ) (m : MessageValue) → IsMessage octets m → type_at m.kind ≡ Some types.EchoResponse → IsEcho Echo_response m
echo_response_is octets m is at = record { echo = _; is = reads_as types.EchoResponse octets m is at; number = refl }

delete_session_request_is :
    (octets : List ℕ) (m : MessageValue) (r : DeleteRequest) → IsMessage octets m → type_at m.kind ≡ Some types.DeleteSessionRequest → ReadsDelete m r
    → message_of m ≡ Delete_session_request (delete_session_by r)
unfolding row_in
delete_session_request_is octets m r is at reads =
    let linked = row_said OfEbi number_of (λ n. refl) (row_of 73 0 m) r.linked (reads.linked (ap (λ k. has_row k 73 0) (type_kind m.kind types.DeleteSessionRequest at))) in
    reads_as types.DeleteSessionRequest octets m is at ∙ (λ i. Delete_session_request (record { header = sym reads.header i; number = sym reads.number i; linked = linked i }))

-- a response, by what is read of it: its header, its number and its cause
record IsResponse {A : Type 0} (message : A → Message) (header_of seq_of : A → ℕ) (cause_of : A → Cause) (m : MessageValue) (c : Cause) : Type 0 where
  pub response : A
  pub is : message_of m ≡ message response
  pub header : header_of response ≡ written m.teid
  pub number : seq_of response ≡ m.seq
  pub cause : cause_of response ≡ c

delete_session_response_is : (octets : List ℕ) (m : MessageValue) (c : Cause) → IsMessage octets m → type_at m.kind ≡ Some types.DeleteSessionResponse
    → row_of 2 0 m ≡ OfCause c ∷ [] → IsResponse Delete_session_response (λ d. d.header) (λ d. d.number) (λ d. d.cause) m c
unfolding row_in
delete_session_response_is octets m c is at read = record { response = _; is = reads_as types.DeleteSessionResponse octets m is at; header = refl; number = refl; cause = ap cause_at read }

delete_bearer_response_is : (octets : List ℕ) (m : MessageValue) (c : Cause) → IsMessage octets m → type_at m.kind ≡ Some types.DeleteBearerResponse
    → row_of 2 0 m ≡ OfCause c ∷ [] → IsResponse Delete_bearer_response (λ d. d.header) (λ d. d.number) (λ d. d.cause) m c
unfolding row_in
delete_bearer_response_is octets m c is at read = record { response = _; is = reads_as types.DeleteBearerResponse octets m is at; header = refl; number = refl; cause = ap cause_at read }

pub returns-in-EchoRequest-clause-taken : goal.returns-in-EchoRequest-clause-taken
returns-in-EchoRequest-clause-taken c =
    let arrival = c.args.arrival.now in
    let says = echo_request_is arrival.octets c.args.view.now.message c.requires.spelled (c.requires.of ∙ ap (λ (p : MessageType). Some p) c.in-EchoRequest.is) in
    IfOk-weaker c.take_echo_request.result _ _ (λ step taken. row_heard arrival c.args.message_type types.EchoRequest _ _ c.args.heard
    (state_of c.args.self.now) c.requires.has c.in-EchoRequest.is says.is (λ n e. e ≡ echoed arrival says.echo n) step
    (state_of c.take_echo_request.new.self) (λ n e row. (row, row))
    (taken says.echo (says.number ∙ sym c.seq.ensures)))
    c.take_echo_request.ensures.taken

pub returns-in-EchoResponse-clause-taken : goal.returns-in-EchoResponse-clause-taken
returns-in-EchoResponse-clause-taken c =
    let arrival = c.args.arrival.now in
    let says = echo_response_is arrival.octets c.args.view.now.message c.requires.spelled (c.requires.of ∙ ap (λ (p : MessageType). Some p) c.in-EchoResponse.is) in
    let heard = state_of c.hear.new.self in
    row_by arrival c.args.message_type types.EchoResponse _ _ c.args.heard (state_of c.args.self.now) c.requires.has c.in-EchoResponse.is says.is
    (EchoAnswered says.echo) heard.role heard.node _ (state_of c.take_echo_response.new.self) c.hear.ensures.only.role c.hear.ensures.node
    (λ n e row. (row, row))
    (c.take_echo_response.ensures.taken arrival says.echo (says.number ∙ sym c.seq-in-EchoResponse.ensures))

pub returns-in-DeleteSessionRequest-clause-taken : goal.returns-in-DeleteSessionRequest-clause-taken
returns-in-DeleteSessionRequest-clause-taken c =
    let arrival = c.args.arrival.now in
    let is =
    delete_session_request_is arrival.octets c.args.view.now.message c.delete_request_in-request.result c.requires.spelled
    (c.requires.of ∙ ap (λ (p : MessageType). Some p) c.in-DeleteSessionRequest.is) c.delete_request_in-request.ensures in
    IfOk-weaker c.take_delete_session_request.result _ _
    (λ step taken. row_unheard arrival c.args.message_type types.DeleteSessionRequest _ _ c.args.heard (state_of c.args.self.now) c.requires.has
    c.in-DeleteSessionRequest.is is c.requires.weighed refl (DeleteSessionAsked arrival (delete_session_by c.delete_request_in-request.result)) step
    (state_of c.take_delete_session_request.new.self) (λ n e row. row)
    taken)
    c.take_delete_session_request.ensures.taken

pub returns-in-DeleteSessionResponse-clause-taken : goal.returns-in-DeleteSessionResponse-clause-taken
returns-in-DeleteSessionResponse-clause-taken c =
    let arrival = c.args.arrival.now in
    let r = c.response_in-response in
    let says =
    delete_session_response_is arrival.octets c.args.view.now.message r.result.cause c.requires.spelled
    (c.requires.of ∙ ap (λ (p : MessageType). Some p) c.in-DeleteSessionResponse.is) r.ensures.cause in
    let heard = state_of c.hear-in-DeleteSessionResponse.new.self in
    row_by arrival c.args.message_type types.DeleteSessionResponse _ _ c.args.heard (state_of c.args.self.now) c.requires.has
    c.in-DeleteSessionResponse.is says.is (DeleteSessionAnswered says.response) heard.role heard.node _
    (state_of c.take_delete_session_response.new.self) c.hear-in-DeleteSessionResponse.ensures.only.role c.hear-in-DeleteSessionResponse.ensures.node
    (λ n e row. row)
    (c.take_delete_session_response.ensures.taken arrival says.response (says.header ∙ sym r.ensures.header) (says.number ∙ sym r.ensures.seq) says.cause)

pub returns-in-DeleteBearerResponse-clause-taken : goal.returns-in-DeleteBearerResponse-clause-taken
returns-in-DeleteBearerResponse-clause-taken c =
    let arrival = c.args.arrival.now in
    let r = c.response_in-response-in-DeleteBearerResponse in
    let says =
    delete_bearer_response_is arrival.octets c.args.view.now.message r.result.cause c.requires.spelled
    (c.requires.of ∙ ap (λ (p : MessageType). Some p) c.in-DeleteBearerResponse.is) r.ensures.cause in
    let heard = state_of c.hear-in-DeleteBearerResponse.new.self in
    row_by arrival c.args.message_type types.DeleteBearerResponse _ _ c.args.heard (state_of c.args.self.now) c.requires.has
    c.in-DeleteBearerResponse.is says.is (DeleteBearerAnswered says.response) heard.role heard.node _
    (state_of c.take_delete_bearer_response.new.self) c.hear-in-DeleteBearerResponse.ensures.only.role c.hear-in-DeleteBearerResponse.ensures.node
    (λ n e row. row)
    (c.take_delete_bearer_response.ensures.taken arrival says.response (says.header ∙ sym r.ensures.header) (says.number ∙ sym r.ensures.seq) says.cause)

pub returns-in-CreateSessionRequest-clause-taken : goal.returns-in-CreateSessionRequest-clause-taken
returns-in-CreateSessionRequest-clause-taken c =
    let arrival = c.args.arrival.now in
    let q = c.create_session_request_in-request.ensures in
    IfOk-weaker c.take_create_session_request.result _ _
    (λ step taken. row_heard arrival c.args.message_type types.CreateSessionRequest _ _ c.args.heard (state_of c.args.self.now) c.requires.has
    c.in-CreateSessionRequest.is q.1 (CreateSessionAsked arrival q.0) step (state_of c.take_create_session_request.new.self) (λ n e row. row)
    (taken q.0 q.2))
    c.take_create_session_request.ensures.taken

pub returns-in-CreateBearerRequest-clause-taken : goal.returns-in-CreateBearerRequest-clause-taken
returns-in-CreateBearerRequest-clause-taken c =
    let arrival = c.args.arrival.now in
    let says =
    create_bearer_is arrival.octets c.args.view.now.message c.create_bearer_request_in-request.result c.requires.spelled
    (c.requires.of ∙ ap (λ (p : MessageType). Some p) c.in-CreateBearerRequest.is) c.create_bearer_request_in-request.ensures in
    IfOk-weaker c.take_create_bearer_request.result _ _
    (λ step taken. row_unheard arrival c.args.message_type types.CreateBearerRequest _ _ c.args.heard (state_of c.args.self.now) c.requires.has
    c.in-CreateBearerRequest.is says.is c.requires.weighed refl (CreateBearerAsked arrival says.request) step
    (state_of c.take_create_bearer_request.new.self) (λ n e row. row)
    (taken says.request says.says))
    c.take_create_bearer_request.ensures.taken

pub returns-in-CreateSessionResponse-clause-taken : goal.returns-in-CreateSessionResponse-clause-taken
returns-in-CreateSessionResponse-clause-taken c =
    let arrival = c.args.arrival.now in
    let reads = c.create_session_response_in-answer.ensures in
    IfOk-weaker c.take_create_session_response.result _ _
    (λ step taken. row_heard arrival c.args.message_type types.CreateSessionResponse _ _ c.args.heard (state_of c.args.self.now) c.requires.has
    c.in-CreateSessionResponse.is reads.is (CreateSessionAnswered reads.response) step (state_of c.take_create_session_response.new.self)
    (λ n e row. row)
    (taken arrival reads.response reads.says))
    c.take_create_session_response.ensures.taken

pub returns-in-DeleteBearerRequest-clause-taken : goal.returns-in-DeleteBearerRequest-clause-taken
returns-in-DeleteBearerRequest-clause-taken c =
    let arrival = c.args.arrival.now in
    let r = c.delete_request_in-request-in-DeleteBearerRequest in
    let q = delete_bearer_by r.result (identities_of c.args.view.now.message) in
    let is = delete_bearer_is arrival.octets c.args.view.now.message r.result c.requires.spelled (c.requires.of ∙ ap (λ (p : MessageType). Some p) c.in-DeleteBearerRequest.is) r.ensures in
    IfOk-weaker c.take_delete_bearer_request.result _ _
    (λ step taken. row_unheard arrival c.args.message_type types.DeleteBearerRequest _ _ c.args.heard (state_of c.args.self.now) c.requires.has
    c.in-DeleteBearerRequest.is is c.requires.weighed refl (DeleteBearerAsked arrival q) step (state_of c.take_delete_bearer_request.new.self)
    (λ n e row. row)
    taken)
    c.take_delete_bearer_request.ensures.taken

pub returns-in-CreateBearerResponse-clause-taken : goal.returns-in-CreateBearerResponse-clause-taken
returns-in-CreateBearerResponse-clause-taken c =
    let arrival = c.args.arrival.now in
    let reads = c.create_bearer_response_in-answer.ensures in
    IfOk-weaker c.take_create_bearer_response.result _ _
    (λ step taken. row_heard arrival c.args.message_type types.CreateBearerResponse _ _ c.args.heard (state_of c.args.self.now) c.requires.has
    c.in-CreateBearerResponse.is reads.is (CreateBearerAnswered reads.response) step (state_of c.take_create_bearer_response.new.self)
    (λ n e row. row)
    (taken arrival reads.response reads.says))
    c.take_create_bearer_response.ensures.taken

pub returns-in-EchoResponse-clause-goes : goal.returns-in-EchoResponse-clause-goes
returns-in-EchoResponse-clause-goes c =
    then_goes c.args.arrival.now (state_of c.args.self.now) (state_of c.hear.new.self) c.take_echo_response.new.self c.hear.ensures.waits
    c.take_echo_response.ensures.waits

pub returns-in-DeleteSessionResponse-clause-goes : goal.returns-in-DeleteSessionResponse-clause-goes
returns-in-DeleteSessionResponse-clause-goes c =
    then_goes c.args.arrival.now (state_of c.args.self.now) (state_of c.hear-in-DeleteSessionResponse.new.self)
    c.take_delete_session_response.new.self c.hear-in-DeleteSessionResponse.ensures.waits c.take_delete_session_response.ensures.waits

pub returns-in-DeleteBearerResponse-clause-goes : goal.returns-in-DeleteBearerResponse-clause-goes
returns-in-DeleteBearerResponse-clause-goes c =
    then_goes c.args.arrival.now (state_of c.args.self.now) (state_of c.hear-in-DeleteBearerResponse.new.self) c.take_delete_bearer_response.new.self
    c.hear-in-DeleteBearerResponse.ensures.waits c.take_delete_bearer_response.ensures.waits

pub returns-in-EchoRequest-clause-memory : goal.returns-in-EchoRequest-clause-memory
returns-in-EchoRequest-clause-memory c =
    let arrival = c.args.arrival.now in
    let says = echo_request_is arrival.octets c.args.view.now.message c.requires.spelled (c.requires.of ∙ ap (λ (p : MessageType). Some p) c.in-EchoRequest.is) in
    let needs = needs_echo (state_of c.args.self.now).role arrival (message_of c.args.view.now.message) _ says.echo in
    on_err c.take_echo_request.result (needs_heard arrival c.args.message_type types.EchoRequest _ _ c.args.heard (state_of c.args.self.now) c.requires.has c.in-EchoRequest.is says.is (needs, needs))

pub returns-in-CreateSessionRequest-clause-memory : goal.returns-in-CreateSessionRequest-clause-memory
returns-in-CreateSessionRequest-clause-memory c =
    let arrival = c.args.arrival.now in
    let q = c.create_session_request_in-request.ensures in
    on_err_weaker c.take_create_session_request.result
    (λ needs. needs_heard arrival c.args.message_type types.CreateSessionRequest _ _ c.args.heard (state_of c.args.self.now) c.requires.has
    c.in-CreateSessionRequest.is q.1 (needs q.0)) c.take_create_session_request.ensures.memory

pub returns-in-DeleteSessionRequest-clause-memory : goal.returns-in-DeleteSessionRequest-clause-memory
returns-in-DeleteSessionRequest-clause-memory c =
    let arrival = c.args.arrival.now in
    let is =
    delete_session_request_is arrival.octets c.args.view.now.message c.delete_request_in-request.result c.requires.spelled
    (c.requires.of ∙ ap (λ (p : MessageType). Some p) c.in-DeleteSessionRequest.is) c.delete_request_in-request.ensures in
    on_err_weaker c.take_delete_session_request.result
    (λ needs. needs_unheard arrival c.args.message_type types.DeleteSessionRequest _ _ c.args.heard (state_of c.args.self.now) c.requires.has
    c.in-DeleteSessionRequest.is is c.requires.weighed refl needs) c.take_delete_session_request.ensures.memory

pub returns-in-CreateBearerRequest-clause-memory : goal.returns-in-CreateBearerRequest-clause-memory
returns-in-CreateBearerRequest-clause-memory c =
    let arrival = c.args.arrival.now in
    let says =
    create_bearer_is arrival.octets c.args.view.now.message c.create_bearer_request_in-request.result c.requires.spelled
    (c.requires.of ∙ ap (λ (p : MessageType). Some p) c.in-CreateBearerRequest.is) c.create_bearer_request_in-request.ensures in
    on_err_weaker c.take_create_bearer_request.result
    (λ needs. needs_unheard arrival c.args.message_type types.CreateBearerRequest _ _ c.args.heard (state_of c.args.self.now) c.requires.has
    c.in-CreateBearerRequest.is says.is c.requires.weighed refl (needs says.request says.says)) c.take_create_bearer_request.ensures.memory

pub returns-in-DeleteBearerRequest-clause-memory : goal.returns-in-DeleteBearerRequest-clause-memory
returns-in-DeleteBearerRequest-clause-memory c =
    let arrival = c.args.arrival.now in
    let r = c.delete_request_in-request-in-DeleteBearerRequest in
    let is = delete_bearer_is arrival.octets c.args.view.now.message r.result c.requires.spelled (c.requires.of ∙ ap (λ (p : MessageType). Some p) c.in-DeleteBearerRequest.is) r.ensures in
    on_err_weaker c.take_delete_bearer_request.result
    (λ needs. needs_unheard arrival c.args.message_type types.DeleteBearerRequest _ _ c.args.heard (state_of c.args.self.now) c.requires.has
    c.in-DeleteBearerRequest.is is c.requires.weighed refl (needs (identities_of c.args.view.now.message)))
    c.take_delete_bearer_request.ensures.memory

pub returns-in-CreateSessionResponse-clause-memory : goal.returns-in-CreateSessionResponse-clause-memory
returns-in-CreateSessionResponse-clause-memory c =
    let arrival = c.args.arrival.now in
    let reads = c.create_session_response_in-answer.ensures in
    on_err_weaker c.take_create_session_response.result
    (λ needs. needs_heard arrival c.args.message_type types.CreateSessionResponse _ _ c.args.heard (state_of c.args.self.now) c.requires.has
    c.in-CreateSessionResponse.is reads.is (needs reads.response reads.says)) c.take_create_session_response.ensures.memory

pub returns-in-CreateBearerResponse-clause-memory : goal.returns-in-CreateBearerResponse-clause-memory
returns-in-CreateBearerResponse-clause-memory c =
    let arrival = c.args.arrival.now in
    let reads = c.create_bearer_response_in-answer.ensures in
    on_err_weaker c.take_create_bearer_response.result
    (λ needs. needs_heard arrival c.args.message_type types.CreateBearerResponse _ _ c.args.heard (state_of c.args.self.now) c.requires.has
    c.in-CreateBearerResponse.is reads.is (needs reads.response reads.says)) c.take_create_bearer_response.ensures.memory
