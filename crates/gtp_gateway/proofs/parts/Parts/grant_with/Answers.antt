use Rattle.std.proofs.Common.{◌≡◌, ◌<◌, ℕ, List, Some, true, length, refl, sym, ◌∙◌, ap, subst}
use Rattle.std.specs.FinMap.{insert}
use Rattle.gtp_reliable.specs.Pending.{IsNextFree, Requests}
use Rattle.gtp_reliable.specs.Waiting.{Waiting}
use Rattle.gtp_machine.specs.Config.{Config, control_end}
use Rattle.gtp_machine.specs.Message.{Control}
use Rattle.gtp_machine.specs.Node.{holding}
use Rattle.gtp_machine.specs.declared.outcome.Outcome.TheVariants.{Answered}
use Rattle.gtp_gateway.specs.declared.command.purpose.Purpose.{Purpose}
use Rattle.gtp_gateway.specs.declared.command.purpose.Asked.TheVariants.{CreateBearer}
use Rattle.gtp_gateway.specs.command.SendRequest.{about}
use Rattle.gtp_gateway.specs.receive.CreateSessionRequest.{session_granted, asked_with, made_with}
use Rattle.gtp_gateway.specs.receive.Queues.{IsNewFor}
use Rattle.gtp_gateway.specs.receive.RestartCounter.{node_heard}
use Rattle.gtp_gateway.specs.Parts.{node_of, pending_in}
use Rattle.gtp_gateway.specs.Settings.{Settings}
use Rattle.gtp_gateway.specs.tables.Opening.{waiting_heard}
use Rattle.gtp_gateway.specs.messages.Spelled.{messages_in}
use Rattle.gtp_gateway.specs.GatewayState.{GatewayState, state_of}
use Rattle.gtp_gateway.specs.receive.Taken.{plain_report}
use Rattle.gtp_gateway.specs.user.Receive.{RequestsWaitOn}
use Rattle.gtp_gateway.proofs.QueuesAfter.{tied_of, begun_goes}
use Rattle.gtp_gateway.proofs.Opened.{succeeded}
use Rattle.gtp_gateway.proofs.TemplateBearers.{new_request}
use Rattle.gtp_gateway.proofs.parts.Parts.grant_with.Goals.{After-make_granted_with}
use Rattle.gtp_gateway.proofs.parts.Parts.grant_with.Goals as goal

-- the state, with these requests
abbrev with_requests : GatewayState → Requests Purpose → GatewayState
with_requests s r =
    record s {
      node = record s.node { pending = pending_in r.waiting };
      queues = record s.queues { timers = record s.queues.timers { t3 = r.t3; n3 = r.n3 }; next = r.next; waiting = r.waiting };
    }

-- the answer and the request were prepared, which changed nothing
prepared : (c : After-make_granted_with) → with_requests (state_of c.ready_octets.new.self) c.reserve.new.self ≡ state_of c.args.self.now
prepared c = ap (with_requests (state_of c.ready_octets.new.self)) (succeeded c.reserve.result c.in_ok-map_err.ensures.variant c.reserve.ensures.room) ∙ c.ready_octets.ensures.same

pub begin_kept-requires-clause-prepared : goal.begin_kept-requires-clause-prepared
begin_kept-requires-clause-prepared c =
    let old = state_of c.args.self.now in
    let made = c.in_ok-make_granted_with.ensures in
    let granted = state_of c.make_granted_with.new.self in
    let more = succeeded c.reserve.result c.in_ok-map_err.ensures.variant c.reserve.ensures.room in
    let same = prepared (goal.at.begin_kept-requires-clause-prepared c).After-make_granted_with in
    let next = c.make_granted_with.ensures.next ∙ ap (λ (s : GatewayState). s.queues.next) same in
    let waiting = made.waiting ∙ ap (λ (s : GatewayState). waiting_heard c.args.heard s.node.sessions s.queues.waiting) same in
    record {
      number =
          subst (λ (n : ℕ). IsNextFree n granted.queues.waiting c.args.added.now.seq) (sym next)
          (subst (λ (ws : List (Waiting Purpose)). IsNextFree old.queues.next ws c.args.added.now.seq) (sym waiting) c.requires.add.number);
      count = subst (λ (ws : List (Waiting Purpose)). length ws < 256) (sym waiting) c.requires.add.few;
      room = made.ready (ap (λ (r : Requests Purpose). r.has_room) more);
    }

pub returns-clause-granted : goal.returns-clause-granted
returns-clause-granted c =
    let old = state_of c.args.self.now in
    let r = c.args.request.now in
    let g = c.args.grant.now in
    let a = c.args.added.now in
    let ready = c.in_ok-ready.ensures in
    let encoded = c.in_ok-encoded.ensures in
    let made = c.in_ok-make_granted_with.ensures in
    let same = prepared (goal.at.returns-clause-granted c).After-make_granted_with in
    let config : c.begin_kept.new.self.config.config ≡ old.node.config =
    ap (λ (s : Settings). s.config) (c.begin_kept.ensures.only.config ∙ c.make_granted_with.ensures.only.config)
    ∙ ap (λ (s : GatewayState). s.node.config) same in
    let makes : node_of c.make_granted_with.new.self ≡ made_with r g a (node_heard c.args.heard old.node) =
    made.node ∙ ap (λ (s : GatewayState). made_with r g a (node_heard c.args.heard s.node)) same in
    let left =
    c.begin_kept.ensures.node ∙ (λ i. record (makes i) {
      pending = insert (makes i).pending a.seq
          (about (record { asked = CreateBearer; session = Some g.drawn.control; bearer = Some a.drawn.teid; is_named = c.is_there.result })
          (encoded.alone i));
    }) in
    record {
      sent = c.send_answer-out.result;
      is = c.answered.ensures ∙ (λ i. record { out = Some c.send_answer-out.result; report = record (plain_report (Answered (c.session_cause.ensures i))) { made = true } });
      goes = c.send_answer-out.ensures.sent ∙ (λ i. record { plane = Control; from = control_end (config i).own.control; to = c.args.arrival.now.source; octets = (ready.octets ∙ encoded.spelled) i });
      read = encoded.back;
      becomes = c.send_answer-out.ensures.node ∙ (λ i. holding c.args.arrival.now ((ap messages_in ready.answer ∙ encoded.read) i) (left i));
      role = c.send_answer-out.ensures.role ∙ c.begin_kept.ensures.only.role ∙ c.make_granted_with.ensures.only.role ∙ ap (λ (s : GatewayState). s.role) same;
    }

pub returns-clause-goes : goal.returns-clause-goes
returns-clause-goes c =
    let old = state_of c.args.self.now in
    let a = c.args.added.now in
    let ready = c.in_ok-ready.ensures in
    let granted = state_of c.make_granted_with.new.self in
    let begun = state_of c.begin_kept.new.self in
    let same = prepared (goal.at.returns-clause-goes c).After-make_granted_with in
    let next = c.make_granted_with.ensures.next ∙ ap (λ (s : GatewayState). s.queues.next) same in
    let waiting = c.in_ok-make_granted_with.ensures.waiting ∙ ap (λ (s : GatewayState). waiting_heard c.args.heard s.node.sessions s.queues.waiting) same in
    let free =
    subst (λ (n : ℕ). IsNextFree n granted.queues.waiting a.seq) (sym next)
    (subst (λ (ws : List (Waiting Purpose)). IsNextFree old.queues.next ws a.seq) (sym waiting) c.requires.add.number) in
    let config : c.make_granted_with.new.self.config.config ≡ old.node.config =
    ap (λ (s : Settings). s.config) c.make_granted_with.ensures.only.config ∙ ap (λ (s : GatewayState). s.node.config) same in
    let encoded = c.in_ok-encoded.ensures in
    let g = c.args.grant.now in
    let begun_new : IsNewFor (record {
      number = a.seq;
      purpose = record
          { asked = CreateBearer; session = Some g.drawn.control; bearer = Some a.drawn.teid; is_named = c.is_there.result };
      to = control_end
          c.make_granted_with.new.self.config.config.peer.control;
      octets = c.in_ok-encoded.encoded.second.items;
    }) old = record {
      to = ap (λ (k : Config). control_end k.peer.control) config;
      spelled = encoded.alone_kept;
      other =
          new_request old c.args.grant.now.drawn a c.args.heard c.requires.whole c.requires.add refl _
          (asked_with (session_granted c.args.request.now c.args.grant.now) a old.node) refl encoded.alone;
    } in
    begun_goes c.args.arrival.now old granted begun (state_of c.send_answer-out.new.self) a.seq _ _ _ c.in_ok-ready.ready.answer.items
    (subst (λ (s : GatewayState). RequestsWaitOn s granted) same c.make_granted_with.ensures.waits) free begun_new c.begin_kept.ensures.queues
    c.send_answer-out.ensures.queues (tied_of c.send_answer-out.new.self)
