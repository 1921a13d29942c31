use Rattle.std.proofs.Common.{rules, ◌≡◌, ◌↔◌, inr, Result, refl, sym, subst}
use Rattle.gtp_machine.specs.declared.role.Role.{Role}
use Rattle.gtp_machine.specs.declared.role.Role.TheVariants.{Serving}
use Rattle.gtp_machine.specs.Command.{SessionBegun, BeginsSession}
use Rattle.gtp_machine.specs.Input.{Specification, Create_session, refused}
use Rattle.gtp_machine.specs.declared.outcome.Refusal.TheVariants.{SessionsFull, TeidsUsed}
use Rattle.gtp_gateway.specs.declared.fault.CommandFault.{CommandFault}
use Rattle.gtp_gateway.specs.declared.sent.Begun.{Begun}
use Rattle.gtp_gateway.specs.command.Command.{IsLastRefused, IsRefusedWhere}
use Rattle.gtp_gateway.specs.command.Request.{Request}
use Rattle.gtp_gateway.specs.tables.Change.{CanChange}
use Rattle.gtp_gateway.specs.Parts.{node_of}
use Rattle.gtp_gateway.specs.command.CreateSession.{specification, request_to_create_session}
use Rattle.gtp_gateway.specs.GatewayState.{state_of}
use Rattle.gtp_gateway.proofs.Columns.{yes, no, Told, stops, goes}
use Rattle.gtp_gateway.proofs.Commands.{done_by}
use Rattle.gtp_gateway.proofs.Refusals.{asks_on}
use Rattle.gtp_gateway.proofs.RequestsToSend.{as_err, last}
use Rattle.gtp_gateway.proofs.parts.Parts.create_session.Goals.{After-next_number}
use Rattle.gtp_gateway.proofs.parts.Parts.create_session.Goals as goal

pub returns-then-not-has_session_room-clause-refused : goal.returns-then-not-has_session_room-clause-refused
returns-then-not-has_session_room-clause-refused c = λ why.
    let role : (state_of c.args.self.now).role ≡ Serving = search rules in
    let node = node_of c.args.self.now in
    let spec : Specification = specification c.args.spec.now in
    subst (λ (role : Role). Told _ why ↔ SessionBegun role spec node (refused node why)) (sym role)
    (stops node _ SessionsFull refl (no c.has_session_room.ensures c.if-not-has_session_room.true) why)

pub returns-in_default-clause-refused : goal.returns-in_default-clause-refused
returns-in_default-clause-refused c = λ why.
    let role : (state_of c.args.self.now).role ≡ Serving = search rules in
    let node = node_of c.args.self.now in
    let spec : Specification = specification c.args.spec.now in
    subst (λ (role : Role). Told _ why ↔ SessionBegun role spec node (refused node why)) (sym role)
    (goes node _ SessionsFull why (yes c.has_session_room.ensures c.if-not-has_session_room.false) (λ room.
    stops node _ TeidsUsed refl c.in_default.ensures.none why))

-- where there is room for a session and two TEIDs are left, the last rule decides
by_last : (c : After-next_number) (r : Result Begun CommandFault) → IsLastRefused (state_of c.args.self.now) r
    → IsRefusedWhere (Create_session (specification c.args.spec.now)) (state_of c.args.self.now) r
by_last c r rule = λ why.
    let s = state_of c.args.self.now in
    let spec : Specification = specification c.args.spec.now in
    let role : s.role ≡ Serving = search rules in
    subst (λ (x : Role). Told r why ↔ SessionBegun x spec s.node (refused s.node why)) (sym role)
    (goes s.node r SessionsFull why (yes c.has_session_room.ensures c.if-not-has_session_room.false) (λ _.
    goes s.node r TeidsUsed why c.in-Some.ensures.some.left (λ _.
    last s r (BeginsSession s.node spec) why rule (λ begins. asks_on why begins.gives refl))))

pub returns-in_err-seq-clause-refused : goal.returns-in_err-seq-clause-refused
returns-in_err-seq-clause-refused c =
    by_last (goal.at.returns-in_err-seq-clause-refused c).After-next_number c.from_residual.result
    (as_err (state_of c.args.self.now) c.in_err-seq.field-0.0 c.from_residual.result c.from_residual.ensures.1 c.in_err-seq.ensures.refused)

pub returns-clause-refused : goal.returns-clause-refused
returns-clause-refused c = by_last (goal.at.returns-clause-refused c).After-next_number c.send_request.result c.send_request.ensures.refused

pub returns-clause-done : goal.returns-clause-done
returns-clause-done c =
    let role : (state_of c.args.self.now).role ≡ Serving = search rules in
    let old = state_of c.args.self.now in
    let spec : Specification = specification c.args.spec.now in
    let drawn = c.in-Some.drawn in
    let two = c.in-Some.ensures.some in
    let seq = c.in_ok-seq.seq in
    done_by (Create_session spec) seq _ (request_to_create_session drawn c.args.spec.now seq old.node) c.send_request.result old (state_of c.send_request.new.self)
    c.in_ok-request.ensures.says (λ teid. refl)
    (λ e room asks. subst (λ (role : Role). SessionBegun role spec old.node e) (sym role)
    (inr (
      yes c.has_session_room.ensures c.if-not-has_session_room.false,
      inr (
        two.left,
        inr (
          room,
          record {
            control = drawn.control;
            user = drawn.user;
            number = seq;
            control_free = two.control_free;
            user_free =
                two.user_free;
            apart = two.apart;
            number_free = asks.number_free;
            gives = asks.gives;
          },
        ),
      ),
    )))
    c.send_request.ensures.done

-- the TEIDs that were drawn can be used
pub send_request-requires-clause-can : goal.send_request-requires-clause-can
send_request-requires-clause-can c =
    let two = c.in-Some.ensures.some in
    subst (λ (x : Request). CanChange x.change (node_of c.args.self.now)) (sym c.in_ok-request.ensures.says)
    (record { draws_are = two.are; room = (yes c.has_session_room.ensures c.if-not-has_session_room.false).few; control_above = two.control_above; user_above = two.user_above })
