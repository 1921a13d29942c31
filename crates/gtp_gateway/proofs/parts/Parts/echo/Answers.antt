use Rattle.std.proofs.Common.{inr, refl}
use Rattle.gtp_machine.specs.Command.{SendsEcho}
use Rattle.gtp_machine.specs.Input.{Send_echo, refused}
use Rattle.gtp_gateway.specs.GatewayState.{state_of}
use Rattle.gtp_gateway.specs.command.Echo.{request_to_echo}
use Rattle.gtp_gateway.proofs.Commands.{done_by}
use Rattle.gtp_gateway.proofs.Refusals.{asks_on}
use Rattle.gtp_gateway.proofs.RequestsToSend.{as_err, last}
use Rattle.gtp_machine.specs.Node.{Node}
use Rattle.gtp_machine.specs.declared.outcome.Refusal.{Refusal}
use Rattle.gtp_gateway.proofs.parts.Parts.echo.Goals as goal

echo_goes_on : (old : Node) (why : Refusal) → SendsEcho old (refused old why) → ⊥
echo_goes_on old why sends = asks_on why sends.gives refl

pub returns-in_err-seq-clause-refused : goal.returns-in_err-seq-clause-refused
returns-in_err-seq-clause-refused c = λ why.
    let old = state_of c.args.self.now in
    last old _ (SendsEcho old.node) why
    (as_err (state_of c.args.self.now) c.in_err-seq.field-0.0 c.from_residual.result c.from_residual.ensures.1 c.in_err-seq.ensures.refused)
    (echo_goes_on old.node why)

pub returns-clause-refused : goal.returns-clause-refused
returns-clause-refused c = λ why.
    let old = state_of c.args.self.now in
    last old c.send_request.result (SendsEcho old.node) why c.send_request.ensures.refused (echo_goes_on old.node why)

pub returns-clause-done : goal.returns-clause-done
returns-clause-done c =
    let old = state_of c.args.self.now in
    let seq = c.in_ok-seq.seq in
    done_by Send_echo seq _ (request_to_echo seq old.node) c.send_request.result old (state_of c.send_request.new.self)
    c.request_to_echo-request.ensures.says (λ teid. refl)
    (λ e room asks. inr (room, record { number = seq; number_free = asks.number_free; gives = asks.gives })) c.send_request.ensures.done
