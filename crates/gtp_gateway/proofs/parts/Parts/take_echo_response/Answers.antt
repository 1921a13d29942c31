use Rattle.std.proofs.Common.{None, ℕ, sym, subst, ◌≡◌, true, refl}
use Rattle.gtp_machine.specs.Response.{IsEcho, EndsRequest}
use Rattle.gtp_machine.specs.declared.outcome.Outcome.TheVariants.{Alive}
use Rattle.gtp_gateway.specs.declared.command.purpose.Asked.TheVariants.{Echo}
use Rattle.gtp_gateway.specs.GatewayState.{state_of}
use Rattle.gtp_gateway.specs.receive.Row.{IsRow}
use Rattle.gtp_gateway.proofs.Ending.{ended}
use Rattle.gtp_gateway.proofs.Pendings.{asked_there, asked_here}
use Rattle.gtp_machine.specs.Message.{Message, Echo_request}
use Rattle.gtp_gateway.specs.declared.command.purpose.Purpose.{Purpose}
use Rattle.gtp_gateway.specs.declared.command.purpose.Asked.{Asked}
use Rattle.gtp_gateway.specs.command.SendRequest.{about}
use Rattle.gtp_gateway.specs.receive.Response.{FitsAsked}
use Rattle.gtp_gateway.specs.messages.Spelled.{is_asked, is_for}
use Rattle.gtp_gateway.proofs.parts.Parts.take_echo_response.Goals as goal

echo_there : (purpose : Purpose) (m : Message) → is_for purpose m ≡ true → FitsAsked Echo None purpose → IsEcho (about purpose m)
echo_there purpose m meant fits = by m (asked_there purpose Echo m fits meant)
  where
    by : (m : Message) → is_asked Echo purpose m ≡ true → IsEcho (about purpose m)
    by (Echo_request q) is = record { request = q; asked = refl }
    by m is = absurd cc

echo_here : (purpose : Purpose) (m : Message) → is_for purpose m ≡ true → IsEcho (about purpose m) → FitsAsked Echo None purpose
echo_here purpose m meant fits = by purpose.asked (asked_here purpose m (Echo_request fits.request) fits.asked meant)
  where
    by : (a : Asked) → is_asked a purpose (Echo_request fits.request) ≡ true → a ≡ Echo
    by Echo is = refl
    by a is = absurd cc

pub returns-clause-taken : goal.returns-clause-taken
returns-clause-taken c = λ request a number.
    let old = c.args.self.now in
    subst (λ (n : ℕ). IsRow (λ node. EndsRequest node n (λ at. IsEcho at.pending) Alive) request old.role (state_of old).node c.end_request.result (state_of c.end_request.new.self)) (sym number)
    (ended old c.args.seq Echo None Alive request IsEcho (λ purpose m meant. (echo_there purpose m meant, echo_here purpose m meant))
    c.end_request.result (state_of c.end_request.new.self) c.end_request.ensures.ended)
