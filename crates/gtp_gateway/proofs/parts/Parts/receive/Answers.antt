use Rattle.std.proofs.Common.{◌≡◌, ℕ, List, Result, Ok, Err, refl, sym, subst}
use Rattle.std.specs.Prelude.{IsSome, IfErr}
use Rattle.std.proofs.lemmas.Result.{IfOk-weaker}
use Rattle.gtp_values.specs.declared.address.Endpoint.{Endpoint}
use Rattle.gtp_machine.specs.Message.{Plane, Control}
use Rattle.gtp_gateway.specs.declared.parts.Parts.{Parts}
use Rattle.gtp_gateway.specs.declared.step.Step.{Step}
use Rattle.gtp_gateway.specs.declared.user.reply.Reply.{Reply}
use Rattle.gtp_gateway.specs.Parts.{arrival_of, node_of}
use Rattle.gtp_gateway.specs.receive.Received.{IsReceived, MayRunOut}
use Rattle.gtp_gateway.specs.user.Reply.{replied, IsReplyBy}
use Rattle.gtp_gateway.specs.GatewayState.{state_of}
use Rattle.gtp_gateway.specs.user.Receive.{UserComes, IsUserTaken}
use Rattle.gtp_gateway.proofs.QueuesAfter.{tied_of}
use Rattle.gtp_gateway.proofs.Receiving.{control_received, as_received, as_timed}
use Rattle.gtp_gateway.proofs.UserRows.{replies}
use Rattle.gtp_gateway.proofs.parts.Parts.receive.Goals as goal

if_err : {X E : Type 0} {A : Type 0} (r : Result X E) → A → IfErr r (λ _. A)
if_err (Ok x) a = tt
if_err (Err e) a = a

pub returns-in-Control-clause-received : goal.returns-in-Control-clause-received
returns-in-Control-clause-received c =
    let old = state_of c.args.self.now in
    let new = state_of c.receive_control.new.self in
    let octets = c.args.octets.now in
    subst (λ (p : Plane). IsReceived p c.args.source octets old c.from.result new) (sym c.in-Control.is)
    (subst (λ (r : Step). IsReceived Control c.args.source octets old r new) (sym c.from.ensures)
    (control_received (arrival_of c.args.source octets) old c.in_ok-step-in-Control.step new c.in_ok-step-in-Control.ensures.taken))

pub returns-in-Control-clause-packet : goal.returns-in-Control-clause-packet
returns-in-Control-clause-packet c =
    let old = state_of c.args.self.now in
    let new = state_of c.receive_control.new.self in
    subst (λ (r : Step). IsSome r.accepted → new ≡ old) (sym c.from.ensures) (λ some. absurd cc)

-- the reply is what the datagram comes to
taken : (source : Endpoint) (octets : List ℕ) (old new : Parts) (reply : Reply) (step : Step)
    → UserComes source octets (state_of old) (node_of old) (replied reply (node_of old)) → state_of new ≡ state_of old
    → IsReplyBy reply new.config.config step → IsUserTaken source octets (state_of old) step (state_of new)
taken source octets old new reply step takes same sends = replies (UserComes source octets (state_of old)) (state_of old) reply step (state_of new) refl takes same sends

pub returns-clause-received : goal.returns-clause-received
returns-clause-received c =
    IfOk-weaker c.reply_user.result _ _ (λ step sends.
    as_received c.args.plane c.args.source c.args.octets.now (state_of c.args.self.now) (state_of c.judge_user.new.self) step step c.in-User.is refl
    (taken c.args.source c.args.octets.now c.args.self.now c.judge_user.new.self c.in-Replies.reply step c.in-Replies.ensures.0
    c.in-Replies.ensures.1 sends)) c.reply_user.ensures

pub returns-clause-queues : goal.returns-clause-queues
returns-clause-queues c =
    IfOk-weaker c.reply_user.result _ _ (λ step sends.
    as_timed c.args.plane c.args.source c.args.octets.now (state_of c.args.self.now) (state_of c.judge_user.new.self) step step c.in-User.is refl
    (taken c.args.source c.args.octets.now c.args.self.now c.judge_user.new.self c.in-Replies.reply step c.in-Replies.ensures.0
    c.in-Replies.ensures.1 sends) (tied_of c.judge_user.new.self)) c.reply_user.ensures

pub returns-clause-memory : goal.returns-clause-memory
returns-clause-memory c =
    let old = state_of c.args.self.now in
    if_err c.reply_user.result (subst (λ (p : Plane). MayRunOut p c.args.source c.args.octets.now old) (sym c.in-User.is) (replied c.in-Replies.reply old.node, c.in-Replies.ensures.0, λ none. cc))
