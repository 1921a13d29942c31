use Rattle.std.proofs.Common.{◌<◌, ◌≤◌, List, length, false, true, inl, inr, refl, sym, ap, subst, [], ◌∷◌}
use Rattle.std.proofs.lemmas.Result.{IfOk-weaker}
use Rattle.gtp_machine.specs.Answer.{answered, making}
use Rattle.gtp_machine.specs.Choice.{HasHeldRoom}
use Rattle.gtp_machine.specs.Input.{Effect}
use Rattle.gtp_machine.specs.Message.{Message}
use Rattle.gtp_machine.specs.Node.{Held, Node}
use Rattle.gtp_machine.specs.Packet.{SessionJudged, CreateSessionAsked, session_cause}
use Rattle.gtp_machine.specs.declared.outcome.DropReason.TheVariants.{HeldFull}
use Rattle.gtp_machine.specs.declared.outcome.Outcome.TheVariants.{Dropped}
use Rattle.gtp_gateway.specs.declared.receive.create_session_request.judge.CreateSessionVerdict.{CreateSessionVerdict}
use Rattle.gtp_gateway.specs.declared.receive.restart_counter.Heard.{Heard}
use Rattle.gtp_gateway.specs.declared.parts.Parts.{Parts}
use Rattle.gtp_gateway.specs.receive.CreateSessionRequest.{create_session_effect, IsVerdict}
use Rattle.gtp_gateway.specs.receive.RestartCounter.{node_heard}
use Rattle.gtp_gateway.specs.Parts.{node_of}
use Rattle.gtp_gateway.specs.GatewayState.{state_of}
use Rattle.gtp_gateway.proofs.Answers.{held_few, held_many}
use Rattle.gtp_gateway.proofs.CreateSessionAnswered.{answered_so, refusal_same, grant_same, made_same, both_same, begun_same}
use Rattle.gtp_gateway.proofs.Columns.{yes, no}
use Rattle.gtp_gateway.proofs.Rows.{ends}
use Rattle.gtp_gateway.proofs.Allocations.{on_err}
use Rattle.gtp_gateway.proofs.CreateSessionRequests.{create_session_asked}
use Rattle.gtp_gateway.proofs.Choosings.{lowest_session}
use Rattle.gtp_gateway.proofs.parts.Parts.take_create_session_request.Goals as goal
use Rattle.gtp_gateway.proofs.RestartCounters.{held_stays, config_stays}

-- there is room for one more answer, whatever was heard
room_left : (g : Parts) (heard : Heard) → (4096 ≤ length g.held.pairs → ⊥) → HasHeldRoom (node_heard heard (node_of g))
room_left g heard few = record { few = subst (λ (held : List Held). length held < 4096) (sym (held_stays heard (node_of g))) (held_few g.held.pairs few) }

pub returns-then-is_full-clause-taken : goal.returns-then-is_full-clause-taken
returns-then-is_full-clause-taken c = λ q says.
    let old = c.args.self.now in
    let left = node_heard c.args.heard (node_of old) in
    let arrival = c.args.arrival.now in
    ends (CreateSessionAsked arrival q) arrival (record (state_of old) { node = left }) (state_of c.hear.new.self) c.dropped.result (Dropped HeldFull)
    left c.dropped.ensures c.hear.ensures.node c.hear.ensures.only.role
    (inl (λ room. held_many old.held.pairs (yes c.is_full.ensures.full c.if-is_full.true) (subst (λ (held : List Held). length held < 4096) (held_stays c.args.heard (node_of old)) room.few), refl))

pub returns-in-Refused-clause-taken : goal.returns-in-Refused-clause-taken
returns-in-Refused-clause-taken c =
    let old = state_of c.args.self.now in
    let left = node_heard c.args.heard old.node in
    let arrival = c.args.arrival.now in
    let cause = c.in-Refused.cause in
    let room = room_left c.args.self.now c.args.heard (no c.is_full.ensures.full c.if-is_full.false) in
    IfOk-weaker c.refuse_session.result _ _ (λ step a q says.
    answered_so (CreateSessionAsked arrival q) arrival _ cause.value false left left old step (state_of c.refuse_session.new.self) (config_stays c.args.heard old.node) a
    (inr (
      room,
      subst (λ (m : Message). SessionJudged arrival q left (answered arrival m cause.value left)) (sym (refusal_same c.args.request.now q says c.args.heard old.node cause))
          (subst (λ (v : CreateSessionVerdict). SessionJudged arrival q left (create_session_effect arrival q v left)) c.in-Refused.is (c.judge_create_session.ensures.judged arrival q says)),
    )))
    c.refuse_session.ensures.refused

pub returns-in-Granted-clause-taken : goal.returns-in-Granted-clause-taken
returns-in-Granted-clause-taken c =
    let old = state_of c.args.self.now in
    let left = node_heard c.args.heard old.node in
    let arrival = c.args.arrival.now in
    let r = c.args.request.now in
    let g = c.in-Granted.grant in
    let room = room_left c.args.self.now c.args.heard (no c.is_full.ensures.full c.if-is_full.false) in
    let chosen = subst (λ (v : CreateSessionVerdict). IsVerdict r.default.identity r.pdn.0 v c.args.heard old) c.in-Granted.is c.judge_create_session.ensures.is in
    IfOk-weaker c.grant_session.result _ _ (λ step a q says.
    answered_so (CreateSessionAsked arrival q) arrival _ (session_cause r.pdn.0 g.address) true _ left old step (state_of c.grant_session.new.self) (config_stays c.args.heard old.node) a
    (inr (
      room,
      subst (λ (e : Effect). SessionJudged arrival q left e)
          (λ i. making arrival (sym (grant_same r q says c.args.heard old.node g chosen.identity_is) i ∷ []) (session_cause (says.pdn i) g.address)
          (sym (made_same r q says c.args.heard old.node g chosen.identity_is) i))
          (subst (λ (v : CreateSessionVerdict). SessionJudged arrival q left (create_session_effect arrival q v left)) c.in-Granted.is (c.judge_create_session.ensures.judged arrival q says)),
    )))
    c.grant_session.ensures.granted

pub returns-in-GrantedWith-clause-taken : goal.returns-in-GrantedWith-clause-taken
returns-in-GrantedWith-clause-taken c =
    let old = state_of c.args.self.now in
    let left = node_heard c.args.heard old.node in
    let arrival = c.args.arrival.now in
    let r = c.args.request.now in
    let g = c.in-GrantedWith.grant in
    let x = c.in-GrantedWith.added in
    let room = room_left c.args.self.now c.args.heard (no c.is_full.ensures.full c.if-is_full.false) in
    let chosen = subst (λ (v : CreateSessionVerdict). IsVerdict r.default.identity r.pdn.0 v c.args.heard old) c.in-GrantedWith.is c.judge_create_session.ensures.is in
    IfOk-weaker c.grant_with.result _ _ (λ step a q says.
    answered_so (CreateSessionAsked arrival q) arrival _ (session_cause r.pdn.0 g.address) true _ left old step (state_of c.grant_with.new.self) (config_stays c.args.heard old.node) a
    (inr (
      room,
      subst (λ (e : Effect). SessionJudged arrival q left e)
          (λ i. making arrival (sym (both_same r q says c.args.heard old.node g chosen.0.identity_is x) i) (session_cause (says.pdn i) g.address)
          (sym (begun_same r q says c.args.heard old.node g chosen.0.identity_is x) i))
          (subst (λ (v : CreateSessionVerdict). SessionJudged arrival q left (create_session_effect arrival q v left)) c.in-GrantedWith.is (c.judge_create_session.ensures.judged arrival q says)),
    )))
    c.grant_with.ensures.granted

pub returns-in-GrantedWith-clause-memory : goal.returns-in-GrantedWith-clause-memory
returns-in-GrantedWith-clause-memory c =
    on_err c.grant_with.result
    (λ q. create_session_asked c.args.arrival.now q _ (room_left c.args.self.now c.args.heard (no c.is_full.ensures.full c.if-is_full.false)))

pub returns-in-GrantedWith-clause-choices : goal.returns-in-GrantedWith-clause-choices
returns-in-GrantedWith-clause-choices c =
    let r = c.args.request.now in
    let old = node_of c.args.self.now in
    let chosen = subst (λ (v : CreateSessionVerdict). IsVerdict r.default.identity r.pdn.0 v c.args.heard (state_of c.args.self.now)) c.in-GrantedWith.is c.judge_create_session.ensures.is in
    IfOk-weaker c.grant_with.result _ _
    (λ step a made. lowest_session r.default.identity r.pdn.0 r c.in-GrantedWith.grant c.args.heard old (node_of c.grant_with.new.self) chosen.0
    (ap (λ (n : Node). n.sessions) a.becomes)) c.grant_with.ensures.granted

pub returns-in-Granted-clause-memory : goal.returns-in-Granted-clause-memory
returns-in-Granted-clause-memory c =
    on_err c.grant_session.result
    (λ q. create_session_asked c.args.arrival.now q _ (room_left c.args.self.now c.args.heard (no c.is_full.ensures.full c.if-is_full.false)))

pub returns-in-Granted-clause-choices : goal.returns-in-Granted-clause-choices
returns-in-Granted-clause-choices c =
    let r = c.args.request.now in
    let old = node_of c.args.self.now in
    let chosen = subst (λ (v : CreateSessionVerdict). IsVerdict r.default.identity r.pdn.0 v c.args.heard (state_of c.args.self.now)) c.in-Granted.is c.judge_create_session.ensures.is in
    IfOk-weaker c.grant_session.result _ _
    (λ step a made. lowest_session r.default.identity r.pdn.0 r c.in-Granted.grant c.args.heard old (node_of c.grant_session.new.self) chosen
    (ap (λ (n : Node). n.sessions) a.becomes)) c.grant_session.ensures.granted
