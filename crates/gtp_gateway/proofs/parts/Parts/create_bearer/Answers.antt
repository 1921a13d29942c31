use Rattle.std.proofs.Common.{◌≡◌, inr, ℕ, List, Result, refl}
use Rattle.gtp_values.specs.declared.qos.Qos.{Qos}
use Rattle.gtp_machine.specs.declared.role.Role.TheVariants.{Packet}
use Rattle.gtp_machine.specs.declared.outcome.Refusal.TheVariants.{TeidsUsed}
use Rattle.gtp_machine.specs.Choice.{HasDraws}
use Rattle.gtp_machine.specs.Command.{WhereRoom, BeginsBearer}
use Rattle.gtp_machine.specs.Input.{Effect, Create_bearer, refused}
use Rattle.gtp_machine.specs.Node.{Session}
use Rattle.gtp_machine.specs.Ordered.{Unless}
use Rattle.gtp_gateway.specs.declared.fault.CommandFault.{CommandFault}
use Rattle.gtp_gateway.specs.declared.sent.Begun.{Begun}
use Rattle.gtp_gateway.specs.command.Command.{IsLastRefused, IsRefusedWhere}
use Rattle.gtp_gateway.specs.command.CreateBearer.{request_to_create_bearer}
use Rattle.gtp_gateway.specs.GatewayState.{GatewayState, state_of}
use Rattle.gtp_gateway.proofs.ActiveSessions.{reaches, goes_active, refused_first}
use Rattle.gtp_gateway.proofs.Columns.{stops, goes}
use Rattle.gtp_gateway.proofs.Commands.{done_by}
use Rattle.gtp_gateway.proofs.Refusals.{asks_on}
use Rattle.gtp_gateway.proofs.RequestsToSend.{as_err, last}
use Rattle.gtp_gateway.proofs.parts.Parts.create_bearer.Goals.{After-next_number}
use Rattle.gtp_gateway.proofs.parts.Parts.create_bearer.Goals as goal

-- what is left of the command for an active session
abbrev rest : GatewayState → ℕ → List ℕ → Qos → Effect → Session → Type 0
rest s session tft qos e at =
    Unless (HasDraws s.node 1) (e ≡ refused s.node TeidsUsed) (λ draws.
    WhereRoom s.node e (BeginsBearer s.node session at tft qos e))

pub returns-in_err-at-clause-refused : goal.returns-in_err-at-clause-refused
returns-in_err-at-clause-refused c =
    let s = state_of c.args.self.now in
    refused_first Packet s c.args.session (rest s c.args.session c.args.tft.now c.args.qos.now) c.in_err-at.field-0.0 c.from_residual.result c.from_residual.ensures.1 c.in_err-at.ensures.refused

pub returns-in_default-clause-refused : goal.returns-in_default-clause-refused
returns-in_default-clause-refused c = λ why.
    let s = state_of c.args.self.now in
    goes_active Packet s c.args.session (rest s c.args.session c.args.tft.now c.args.qos.now) c.in_ok-at.at _ c.in_ok-at.ensures.active why
    (stops s.node _ TeidsUsed refl c.in_default.ensures.none why)

-- where a TEID is left, the last rule decides
by_last : (c : After-next_number) (r : Result Begun CommandFault) → IsLastRefused (state_of c.args.self.now) r
    → IsRefusedWhere (Create_bearer c.args.session c.args.tft.now c.args.qos.now) (state_of c.args.self.now) r
by_last c r rule = λ why.
    let s = state_of c.args.self.now in
    let session = c.args.session in
    let at = c.in_ok-at.at in
    let tft = c.args.tft.now in
    let qos = c.args.qos.now in
    goes_active Packet s session (rest s session tft qos) at r c.in_ok-at.ensures.active why
    (goes s.node r TeidsUsed why c.in-Some.ensures.some.left (λ _.
    last s r (BeginsBearer s.node session at tft qos) why rule (λ begins. asks_on why begins.gives refl)))

pub returns-in_err-seq-clause-refused : goal.returns-in_err-seq-clause-refused
returns-in_err-seq-clause-refused c =
    let r = c.from_residual-in_err-seq in
    by_last (goal.at.returns-in_err-seq-clause-refused c).After-next_number r.result (as_err (state_of c.args.self.now) c.in_err-seq.field-0.0 r.result r.ensures.1 c.in_err-seq.ensures.refused)

pub returns-clause-refused : goal.returns-clause-refused
returns-clause-refused c = by_last (goal.at.returns-clause-refused c).After-next_number c.send_request.result c.send_request.ensures.refused

pub returns-clause-done : goal.returns-clause-done
returns-clause-done c =
    let old = state_of c.args.self.now in
    let session = c.args.session in
    let tft = c.args.tft.now in
    let qos = c.args.qos.now in
    let drawn = c.in-Some.drawn in
    let seq = c.in_ok-seq.seq in
    done_by (Create_bearer session tft qos) seq _ (request_to_create_bearer drawn c.args.session c.in_ok-at.at tft qos seq old.node) c.send_request.result old (state_of c.send_request.new.self)
    c.in_ok-request.ensures.says (λ teid. refl)
    (λ e room asks. reaches Packet old session (rest old session tft qos) c.in_ok-at.at e c.in_ok-at.ensures.active
    (inr (c.in-Some.ensures.some.left, inr (room, record { user = drawn.teid; number = seq; user_free = c.in-Some.ensures.some.free; number_free = asks.number_free; gives = asks.gives }))))
    c.send_request.ensures.done
