use Rattle.std.proofs.Common.{◌≡◌, ⊎_elim, refl, sym, subst}
use Rattle.gtp_user.specs.declared.message.UserBody.{UserBody}
use Rattle.gtp_user.specs.declared.message.UserBody.TheVariants as bodies
use Rattle.gtp_machine.specs.Input.{dropped}
use Rattle.gtp_machine.specs.Reading.{user_body_message}
use Rattle.gtp_machine.specs.User.{UserTaken}
use Rattle.gtp_machine.specs.declared.outcome.DropReason.TheVariants.{Unexpected}
use Rattle.gtp_gateway.specs.declared.user.receive.Judged.{Judged}
use Rattle.gtp_gateway.specs.GatewayState.{state_of}
use Rattle.gtp_gateway.specs.user.Receive.{plain_step, IsTakenBy, IsJudgedBy}
use Rattle.gtp_gateway.proofs.UserRows.{drops}
use Rattle.gtp_gateway.proofs.parts.Parts.judge_message.Goals as goal

pub returns-in-Packet : goal.returns-in-Packet
returns-in-Packet c =
    let old = state_of c.args.self.now in
    subst (λ (b : UserBody). IsJudgedBy (UserTaken old.role c.args.source.now (user_body_message c.args.seq b)) old c.judge_packet.result old) (sym c.in-Packet.is) c.judge_packet.ensures

pub returns-in-EndMarker : goal.returns-in-EndMarker
returns-in-EndMarker c =
    let old = state_of c.args.self.now in
    let new = state_of c.take_end_marker.new.self in
    subst
    (λ (b : UserBody). IsTakenBy (UserTaken old.role c.args.source.now (user_body_message c.args.seq b)) old (plain_step c.take_end_marker.result) new)
    (sym c.in-EndMarker.is) c.take_end_marker.ensures

pub returns-in-ErrorIndication : goal.returns-in-ErrorIndication
returns-in-ErrorIndication c =
    let old = state_of c.args.self.now in
    let new = state_of c.take_error_indication.new.self in
    subst (λ (b : UserBody).
    IsTakenBy (UserTaken old.role c.args.source.now (user_body_message c.args.seq b)) old (plain_step c.take_error_indication.result) new)
    (sym c.in-ErrorIndication.is) c.take_error_indication.ensures

pub returns-in-EchoResponse : goal.returns-in-EchoResponse
returns-in-EchoResponse c =
    let old = state_of c.args.self.now in
    let Drops : UserBody → Type 0 = λ b. UserTaken old.role c.args.source.now (user_body_message c.args.seq b) old.node (dropped old.node Unexpected) in
    let when : (b : UserBody) → c.args.body ≡ b → Drops b → Drops c.args.body = λ b is so. subst Drops (sym is) so in
    let takes : Drops c.args.body =
    ⊎_elim (λ is. when bodies.EchoResponse is refl)
    (λ rest. ⊎_elim (λ n. when (bodies.Notification n.0) n.1 refl) (λ o. when (bodies.Other o.0 o.1 o.2) o.3 refl) rest) c.in-EchoResponse.is in
    subst (λ (j : Judged). IsJudgedBy (UserTaken old.role c.args.source.now (user_body_message c.args.seq c.args.body)) old j old) (sym c.dropped.ensures)
    (drops (UserTaken old.role c.args.source.now (user_body_message c.args.seq c.args.body)) old refl Unexpected takes)
