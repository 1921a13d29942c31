use Rattle.std.proofs.Common.{◌≡◌, None, refl, sym, ◌∙◌, ap, subst}
use Rattle.gtp_v2.specs.Viewed.{Viewed}
use Rattle.gtp_machine.specs.Decoded.{message_of}
use Rattle.gtp_machine.specs.Message.{CreateSessionResponse, CreateBearerRequest, Create_session_response, Create_bearer_request, recovery_of}
use Rattle.gtp_gateway.specs.declared.receive.create_bearer_request.BearerRequest.{BearerRequest}
use Rattle.gtp_gateway.specs.declared.receive.restart_counter.Heard.{Heard}
use Rattle.gtp_gateway.specs.declared.receive.create_session_response.SessionResponse.{SessionResponse}
use Rattle.gtp_gateway.specs.receive.CreateBearerRequest.{SaysCreateBearer}
use Rattle.gtp_gateway.specs.receive.RestartCounter.{weighed_by, report_heard}
use Rattle.gtp_gateway.specs.receive.Piggybacked.{state_after_first, IsSecondTaken, EitherMayRunOut}
use Rattle.gtp_gateway.specs.receive.CreateSessionResponse.{SaysCreateSessionResponse, ReadsCreateSessionResponse, JudgesAnswer}
use Rattle.gtp_gateway.specs.GatewayState.{state_of}
use Rattle.gtp_gateway.specs.receive.Taken.{plain_report, followed_by}
use Rattle.gtp_gateway.proofs.CreateBearerRequests.{IsCreateBearer, create_bearer_is}
use Rattle.gtp_gateway.proofs.Allocations.{on_err}
use Rattle.gtp_gateway.proofs.PairTaken.{pair_received, pair_needs}
use Rattle.gtp_gateway.proofs.parts.Parts.take_pair.Goals as goal

-- what was read of the two messages is what these say
says_answer : (view : Viewed) (r : SessionResponse) (a : CreateSessionResponse) → ReadsCreateSessionResponse view.message r
    → message_of view.message ≡ Create_session_response a → SaysCreateSessionResponse r a
says_answer view r a reads is =
    let both : Create_session_response reads.response ≡ Create_session_response a = sym reads.is ∙ is in
    let same : reads.response ≡ a = cc both in
    subst (SaysCreateSessionResponse r) same reads.says

says_request : (view : Viewed) (r : BearerRequest) (q : CreateBearerRequest) → IsCreateBearer view.message r → message_of view.message ≡ Create_bearer_request q → SaysCreateBearer r q
says_request view r q reads is =
    let both : Create_bearer_request reads.request ≡ Create_bearer_request q = sym reads.is ∙ is in
    let same : reads.request ≡ q = cc both in
    subst (SaysCreateBearer r) same reads.says

pub returns-clause-taken : goal.returns-clause-taken
returns-clause-taken c = λ octets lie a q pair.
    let g = c.args.self.now in
    let old = state_of g in
    let recovery = c.counter_in.result in
    let r = c.create_session_response_in-answer.result in
    let rq = c.create_bearer_request_in-request.result in
    let v = c.judge_answer-verdict.result in
    let is : c.compare_counter-heard.result ≡ weighed_by recovery old.node.known = c.compare_counter-heard.ensures in
    let asks =
    says_request c.args.second.now rq q
    (create_bearer_is c.args.back.now.octets c.args.second.now.message rq lie.3.spelled c.requires.second c.create_bearer_request_in-request.ensures)
    pair.asked in
    pair_received c.args.back.now.source octets lie.0 c.args.back.now.octets lie.1 old c.requires.serving c.requires.peer g.held.pairs refl g.answered
    a q recovery (c.counter_in.ensures ∙ ap recovery_of pair.answer) r
    (says_answer c.args.first.now r a c.create_session_response_in-answer.ensures pair.answer) rq asks v
    (subst (λ (h : Heard). JudgesAnswer r h old.node v) is c.judge_answer-verdict.ensures)
    c.followed_by.result c.in_ok-step.step (state_of c.take_second.new.self)
    (c.followed_by.ensures ∙ (λ i.
    followed_by ((c.hearing.ensures ∙ (λ k. record { out = (c.quiet.ensures k).out; report = report_heard (is k) (c.quiet.ensures k).report })
    ∙ (λ k. record { out = None; report = report_heard (weighed_by recovery old.node.known) (plain_report (c.outcome-outcome.ensures k)) })) i)
    c.in_ok-step.step))
    c.in_ok-step.ensures.unheard
    (subst (λ (h : Heard). IsSecondTaken c.args.back.now rq (state_after_first h v r.response.seq old) c.in_ok-step.step (state_of c.take_second.new.self)) is c.in_ok-step.ensures.taken)

pub returns-in_err-step-clause-memory : goal.returns-in_err-step-clause-memory
returns-in_err-step-clause-memory c = on_err c.from_residual.result (λ octets lie a q pair.
    let g = c.args.self.now in
    let old = state_of g in
    let recovery = c.counter_in.result in
    let r = c.create_session_response_in-answer.result in
    let rq = c.create_bearer_request_in-request.result in
    let v = c.judge_answer-verdict.result in
    let is : c.compare_counter-heard.result ≡ weighed_by recovery old.node.known = c.compare_counter-heard.ensures in
    let asks =
    says_request c.args.second.now rq q
    (create_bearer_is c.args.back.now.octets c.args.second.now.message rq lie.3.spelled c.requires.second c.create_bearer_request_in-request.ensures)
    pair.asked in
    pair_needs c.args.back.now.source octets lie.0 c.args.back.now.octets lie.1 old c.requires.serving c.requires.peer g.held.pairs refl g.answered a
    q recovery (c.counter_in.ensures ∙ ap recovery_of pair.answer) r
    (says_answer c.args.first.now r a c.create_session_response_in-answer.ensures pair.answer) rq asks v
    (subst (λ (h : Heard). JudgesAnswer r h old.node v) is c.judge_answer-verdict.ensures)
    (subst (λ (h : Heard). EitherMayRunOut v c.args.back.now rq (state_after_first h v r.response.seq old)) is c.in_err-step.ensures.memory))
