use Rattle.std.proofs.Common.{inl, inr, refl, not}
use Rattle.gtp_machine.specs.User.{HasRemote, ErrorCame, broken}
use Rattle.gtp_machine.specs.declared.outcome.DropReason.TheVariants.{Unexpected}
use Rattle.gtp_machine.specs.declared.outcome.Outcome.TheVariants.{Broken}
use Rattle.gtp_gateway.specs.user.ErrorIndication.{goes_with_remote}
use Rattle.gtp_gateway.specs.GatewayState.{state_of}
use Rattle.gtp_gateway.proofs.UserRows.{plain, drops}
use Rattle.gtp_gateway.proofs.parts.Parts.take_error_indication.Goals as goal

pub returns-in_default : goal.returns-in_default
returns-in_default c =
    drops (ErrorCame c.args.remote) (state_of c.args.self.now) refl Unexpected (inl (λ named. c.in_default.ensures.none named.key named.at.bearer named.at.stands named.named, refl))

pub returns : goal.returns
returns c =
    let old = state_of c.args.self.now in
    let new = state_of c.end_bearers_of_remote.new.self in
    let remote = c.args.remote in
    let at = c.in-Some.ensures.found in
    let named : HasRemote old.node remote = record { key = c.in-Some.field-0; at = record { bearer = at.bearer; stands = at.stands }; named = at.has } in
    plain (ErrorCame remote) old Broken (broken old.node remote) new (λ is. cc) (inr (named, refl)) c.end_bearers_of_remote.ensures.node
    c.end_bearers_of_remote.ensures.role (λ other. absurd (other refl))
    (record { stays = λ w. not (goes_with_remote c.args.self.now.bearers remote w.purpose); queues = c.end_bearers_of_remote.ensures.queues; pending = refl })
