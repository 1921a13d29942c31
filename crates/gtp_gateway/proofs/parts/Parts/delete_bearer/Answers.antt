use Rattle.std.proofs.Common.{rules, ◌≡◌, ◌↔◌, inr, Result, refl, sym, ◌∙◌, subst}
use Rattle.gtp_machine.specs.declared.role.Role.{Role}
use Rattle.gtp_machine.specs.declared.role.Role.TheVariants.{Packet}
use Rattle.gtp_machine.specs.Command.{BearerDeleted, ClosesBearer}
use Rattle.gtp_machine.specs.Input.{Delete_bearer, refused}
use Rattle.gtp_machine.specs.declared.outcome.Refusal.TheVariants.{NoSuchContext, NotActive}
use Rattle.gtp_gateway.specs.declared.fault.CommandFault.{CommandFault}
use Rattle.gtp_gateway.specs.declared.sent.Begun.{Begun}
use Rattle.gtp_gateway.specs.command.Command.{IsLastRefused, IsRefusedWhere}
use Rattle.gtp_gateway.specs.command.DeleteBearer.{request_to_delete_bearer}
use Rattle.gtp_gateway.specs.GatewayState.{state_of}
use Rattle.gtp_gateway.proofs.Columns.{yes, no, Told, ends_named, ends_session, stops, goes, goes_session}
use Rattle.gtp_gateway.proofs.Commands.{done_by}
use Rattle.gtp_gateway.proofs.DedicatedBearers.{goes_named}
use Rattle.gtp_gateway.proofs.Refusals.{asks_on}
use Rattle.gtp_gateway.proofs.RequestsToSend.{no_memory, as_err, last}
use Rattle.gtp_gateway.proofs.parts.Parts.delete_bearer.Goals.{After-next_number}
use Rattle.gtp_gateway.proofs.parts.Parts.delete_bearer.Goals as goal

pub returns-then-not-are_active-clause-refused : goal.returns-then-not-are_active-clause-refused
returns-then-not-are_active-clause-refused c = λ why.
    let role : (state_of c.args.self.now).role ≡ Packet = search rules in
    let old = state_of c.args.self.now in
    let node = old.node in
    let session = c.args.session in
    let identity = c.args.identity in
    let d = c.in-Some-dedicated in
    subst (λ (role : Role). Told _ why ↔ BearerDeleted role session identity node (refused node why)) (sym role)
    (goes_session node _ (ends_session session identity node (refused node why)) session c.in-Some.at NoSuchContext why (sym c.get.ensures ∙ c.in-Some.is)
    (goes_named old c.requires.whole session identity _ (ends_named session identity node (refused node why) c.in-Some.at) d.named NoSuchContext why d.ensures.some
    (stops node _ NotActive refl (no c.are_active.ensures c.if-not-are_active.true) why)))

-- of an active bearer of an active session the last rule decides
by_last : (c : After-next_number) (r : Result Begun CommandFault) → IsLastRefused (state_of c.args.self.now) r
    → IsRefusedWhere (Delete_bearer c.args.session c.args.identity) (state_of c.args.self.now) r
by_last c r rule = λ why.
    let s = state_of c.args.self.now in
    let session = c.args.session in
    let identity = c.args.identity in
    let at = c.in-Some.at in
    let d = c.in-Some-dedicated.named in
    let role : s.role ≡ Packet = search rules in
    subst (λ (x : Role). Told r why ↔ BearerDeleted x session identity s.node (refused s.node why)) (sym role)
    (goes_session s.node r (ends_session session identity s.node (refused s.node why)) session at NoSuchContext why (sym c.get.ensures ∙ c.in-Some.is)
    (goes_named s c.requires.whole session identity r (ends_named session identity s.node (refused s.node why) at) d NoSuchContext why c.in-Some-dedicated.ensures.some
    (goes s.node r NotActive why (yes c.are_active.ensures c.if-not-are_active.false) (λ _.
    last s r (ClosesBearer s.node session at identity d.teid d.bearer) why rule (λ closes. asks_on why closes.gives refl)))))

pub returns-in_err-seq-clause-refused : goal.returns-in_err-seq-clause-refused
returns-in_err-seq-clause-refused c =
    by_last (goal.at.returns-in_err-seq-clause-refused c).After-next_number c.from_residual.result
    (as_err (state_of c.args.self.now) c.in_err-seq.field-0.0 c.from_residual.result c.from_residual.ensures.1 c.in_err-seq.ensures.refused)

pub returns-in_err-request-clause-refused : goal.returns-in_err-request-clause-refused
returns-in_err-request-clause-refused c =
    let r = c.from_residual-in_err-request in
    by_last (goal.at.returns-in_err-request-clause-refused c).After-next_number r.result (no_memory (state_of c.args.self.now) c.in_ok-seq.ensures.room r.result r.ensures.1)

pub returns-clause-refused : goal.returns-clause-refused
returns-clause-refused c = by_last (goal.at.returns-clause-refused c).After-next_number c.send_request.result c.send_request.ensures.refused

pub returns-clause-done : goal.returns-clause-done
returns-clause-done c =
    let role : (state_of c.args.self.now).role ≡ Packet = search rules in
    let old = state_of c.args.self.now in
    let session = c.args.session in
    let identity = c.args.identity in
    let d = c.in-Some-dedicated in
    let is = d.ensures.some in
    let seq = c.in_ok-seq.seq in
    done_by (Delete_bearer session identity) seq _ (request_to_delete_bearer d.named c.args.session c.in-Some.at identity seq) c.send_request.result
    old (state_of c.send_request.new.self) c.in_ok-request.ensures.says (λ teid. refl)
    (λ e room asks. subst (λ (role : Role). BearerDeleted role session identity old.node e) (sym role)
    (inr (
      record { session = c.in-Some.at; stands = sym c.get.ensures ∙ c.in-Some.is },
      inr (
        record { key = d.named.teid; at = record { bearer = d.named.bearer; stands = is.stands }; of = is.of; dedicated = is.dedicated; has = is.has },
        inr (yes c.are_active.ensures c.if-not-are_active.false, inr (room, record { number = seq; number_free = asks.number_free; gives = asks.gives })),
      ),
    )))
    c.send_request.ensures.done
