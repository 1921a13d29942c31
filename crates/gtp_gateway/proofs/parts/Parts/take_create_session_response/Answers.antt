use Rattle.std.proofs.Common.{ℕ, ap, subst}
use Rattle.std.proofs.lemmas.Result.{on_err_weaker}
use Rattle.gtp_machine.specs.Input.{Came_to}
use Rattle.gtp_machine.specs.Serving.{CreateSessionAnswered}
use Rattle.gtp_gateway.specs.receive.RestartCounter.{node_heard}
use Rattle.gtp_gateway.specs.tables.Opening.{effect_by}
use Rattle.gtp_gateway.specs.GatewayState.{state_of}
use Rattle.gtp_gateway.proofs.Opened.{settled, if_ok}
use Rattle.gtp_gateway.proofs.Allocations.{create_session_answered}
use Rattle.gtp_gateway.proofs.parts.Parts.take_create_session_response.Goals as goal

pub returns-clause-taken : goal.returns-clause-taken
returns-clause-taken c =
    let old = state_of c.args.self.now in
    let new = state_of c.apply_verdict.new.self in
    let r = c.args.answer.now in
    let v = c.judge_create_session_response-verdict.result in
    let n = node_heard c.args.heard old.node in
    if_ok (λ step is becomes request a says.
    settled (CreateSessionAnswered a) request c.args.heard old new v r.response.seq step is becomes c.apply_verdict.ensures.only.role
    (subst (λ (i : ℕ). CreateSessionAnswered a n (effect_by v i n)) says.number (c.judge_create_session_response-verdict.ensures.judged a says)))
    c.apply_verdict.result c.apply_verdict.ensures.step c.apply_verdict.ensures.node

pub returns-clause-memory : goal.returns-clause-memory
returns-clause-memory c =
    let v = c.judge_create_session_response-verdict.result in
    let n = node_heard c.args.heard (state_of c.args.self.now).node in
    on_err_weaker c.apply_verdict.result (λ opened a says.
    create_session_answered a n (effect_by v a.number n) (ap (λ o. Came_to o) opened) (c.judge_create_session_response-verdict.ensures.judged a says))
    c.apply_verdict.ensures.memory
