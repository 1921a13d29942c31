use Rattle.std.proofs.Common.{Some, ℕ, sym, subst, ◌≡◌, true, refl}
use Rattle.gtp_machine.specs.Packet.{FitsDeleteBearer}
use Rattle.gtp_machine.specs.Response.{EndsRequest}
use Rattle.gtp_machine.specs.declared.outcome.Outcome.TheVariants.{Closed}
use Rattle.gtp_gateway.specs.declared.command.purpose.Asked.TheVariants.{DeleteBearer}
use Rattle.gtp_gateway.specs.GatewayState.{state_of}
use Rattle.gtp_gateway.specs.receive.Row.{IsRow}
use Rattle.gtp_gateway.proofs.Ending.{ended}
use Rattle.gtp_gateway.proofs.Pendings.{asked_there, asked_here, IsTold, told_of, names_here, names_there}
use Rattle.gtp_machine.specs.Message.{Message, DeleteBearerResponse, Delete_bearer_request}
use Rattle.gtp_gateway.specs.declared.command.purpose.Purpose.{Purpose}
use Rattle.gtp_gateway.specs.declared.command.purpose.Asked.{Asked}
use Rattle.gtp_gateway.specs.declared.receive.response.Response.{Response}
use Rattle.gtp_gateway.specs.command.SendRequest.{about}
use Rattle.gtp_gateway.specs.receive.Response.{FitsAsked}
use Rattle.gtp_gateway.specs.messages.Spelled.{is_asked, is_for}
use Rattle.gtp_gateway.proofs.parts.Parts.take_delete_bearer_response.Goals as goal

delete_bearer_there : (purpose : Purpose) (m : Message) (r : Response) (d : DeleteBearerResponse) → is_for purpose m ≡ true → d.header ≡ r.header → d.cause ≡ r.cause
    → FitsAsked DeleteBearer (Some r) purpose → FitsDeleteBearer (about purpose m) d
delete_bearer_there purpose m r d meant at of (is, names) = by m (asked_there purpose DeleteBearer m is meant)
  where
    by : (m : Message) → is_asked DeleteBearer purpose m ≡ true → FitsDeleteBearer (about purpose m) d
    by (Delete_bearer_request q) told = record { request = q; asked = refl; named = names_there purpose (Delete_bearer_request q) r d.header d.cause told at of names }
    by m told = absurd cc

delete_bearer_here : (purpose : Purpose) (m : Message) (r : Response) (d : DeleteBearerResponse) → is_for purpose m ≡ true → d.header ≡ r.header → d.cause ≡ r.cause
    → FitsDeleteBearer (about purpose m) d → FitsAsked DeleteBearer (Some r) purpose
delete_bearer_here purpose m r d meant at of fits =
    let is = by purpose.asked (asked_here purpose m (Delete_bearer_request fits.request) fits.asked meant) in
    (is.0, names_here purpose m r d.header d.cause (told_of purpose m (Delete_bearer_request fits.request) fits.asked is.1) at of fits.named)
  where
    by : (a : Asked) → is_asked a purpose (Delete_bearer_request fits.request) ≡ true → (a ≡ DeleteBearer) × IsTold purpose (Delete_bearer_request fits.request)
    by DeleteBearer told = (refl, told)
    by a told = absurd cc

pub returns-clause-taken : goal.returns-clause-taken
returns-clause-taken c = λ request d at number of.
    let r = c.args.response.now in
    let old = c.args.self.now in
    subst (λ (n : ℕ).
    IsRow (λ node. EndsRequest node n (λ at. FitsDeleteBearer at.pending d) Closed) request old.role (state_of old).node c.end_request.result
    (state_of c.end_request.new.self)) (sym number)
    (ended old r.seq DeleteBearer (Some r) Closed request (λ p. FitsDeleteBearer p d) (λ purpose m meant. (delete_bearer_there purpose m r d meant at of, delete_bearer_here purpose m r d meant at of))
    c.end_request.result (state_of c.end_request.new.self) c.end_request.ensures.ended)
