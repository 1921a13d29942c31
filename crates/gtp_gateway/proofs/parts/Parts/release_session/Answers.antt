use Rattle.std.proofs.Common.{inr, refl, ℕ}
use Rattle.gtp_machine.specs.declared.role.Role.TheVariants.{Packet}
use Rattle.gtp_machine.specs.Command.{ReleasesSession}
use Rattle.gtp_machine.specs.Input.{Release_session, refused}
use Rattle.gtp_gateway.specs.command.ReleaseSession.{request_to_release_session}
use Rattle.gtp_gateway.specs.Parts.{node_of}
use Rattle.gtp_gateway.specs.GatewayState.{state_of}
use Rattle.gtp_gateway.proofs.ActiveSessions.{Asked, reaches, refused_first, last_refused}
use Rattle.gtp_gateway.proofs.Commands.{done_by}
use Rattle.gtp_gateway.proofs.Refusals.{asks_on}
use Rattle.gtp_gateway.proofs.RequestsToSend.{as_err}
use Rattle.gtp_machine.specs.Node.{Session, Node}
use Rattle.gtp_machine.specs.declared.outcome.Refusal.{Refusal}
use Rattle.gtp_gateway.proofs.parts.Parts.release_session.Goals as goal

release_goes_on : (old : Node) (session : ℕ) (at : Session) (why : Refusal) → ReleasesSession old session at (refused old why) → ⊥
release_goes_on old session at why closes = asks_on why closes.gives refl

pub returns-in_err-at-clause-refused : goal.returns-in_err-at-clause-refused
returns-in_err-at-clause-refused c =
    let s = state_of c.args.self.now in
    let session = c.args.session in
    refused_first Packet s session (Asked Packet s session (ReleasesSession s.node session) (release_goes_on s.node session)) c.in_err-at.field-0.0
    c.from_residual.result c.from_residual.ensures.1 c.in_err-at.ensures.refused

pub returns-in_err-seq-clause-refused : goal.returns-in_err-seq-clause-refused
returns-in_err-seq-clause-refused c =
    last_refused Packet (state_of c.args.self.now) c.args.session (ReleasesSession (node_of c.args.self.now) c.args.session)
    (release_goes_on (node_of c.args.self.now) c.args.session) c.in_ok-at.at c.from_residual-in_err-seq.result c.in_ok-at.ensures.active
    (as_err (state_of c.args.self.now) c.in_err-seq.field-0.0 c.from_residual-in_err-seq.result c.from_residual-in_err-seq.ensures.1 c.in_err-seq.ensures.refused)

pub returns-clause-refused : goal.returns-clause-refused
returns-clause-refused c =
    last_refused Packet (state_of c.args.self.now) c.args.session (ReleasesSession (node_of c.args.self.now) c.args.session)
    (release_goes_on (node_of c.args.self.now) c.args.session) c.in_ok-at.at c.send_request.result c.in_ok-at.ensures.active
    c.send_request.ensures.refused

pub returns-clause-done : goal.returns-clause-done
returns-clause-done c =
    let s = state_of c.args.self.now in
    let session = c.args.session in
    let seq = c.in_ok-seq.seq in
    done_by (Release_session session) seq _ (request_to_release_session session c.in_ok-at.at seq) c.send_request.result s
    (state_of c.send_request.new.self) c.request_to_release_session-request.ensures.says (λ teid. refl)
    (λ e room asks.
    reaches Packet s session (Asked Packet s session (ReleasesSession s.node session) (release_goes_on s.node session)) c.in_ok-at.at e
    c.in_ok-at.ensures.active (inr (room, record { number = seq; number_free = asks.number_free; gives = asks.gives })))
    c.send_request.ensures.done
