use Rattle.std.proofs.Common.{inl, inr, refl, sym, ◌∙◌, subst}
use Rattle.std.specs.FinMap.{insert}
use Rattle.gtp_machine.specs.Choice.{HasBearer}
use Rattle.gtp_machine.specs.User.{EndCame, ended_bearer}
use Rattle.gtp_machine.specs.declared.role.Role.{Role}
use Rattle.gtp_machine.specs.declared.role.Role.TheVariants.{Serving, Packet}
use Rattle.gtp_machine.specs.declared.outcome.DropReason.TheVariants.{ContextNotActive, Unexpected}
use Rattle.gtp_machine.specs.declared.outcome.Outcome.TheVariants.{Dropped, Ended}
use Rattle.gtp_gateway.specs.GatewayState.{state_of}
use Rattle.gtp_gateway.specs.user.Receive.{plain_step, IsTakenBy}
use Rattle.gtp_gateway.proofs.Columns.{yes, no}
use Rattle.gtp_gateway.proofs.UserRows.{none_there, all_wait, plain, drops}
use Rattle.gtp_gateway.proofs.parts.Parts.take_end_marker.Goals as goal

pub returns-in-Packet : goal.returns-in-Packet
returns-in-Packet c =
    let old = state_of c.args.self.now in
    subst (λ (role : Role). IsTakenBy (EndCame role c.args.target) old (plain_step (Dropped Unexpected)) old) (sym c.in-Packet.is)
    (drops (EndCame Packet c.args.target) old refl Unexpected refl)

pub returns-in_default : goal.returns-in_default
returns-in_default c =
    let old = state_of c.args.self.now in
    let target = c.args.target in
    subst (λ (role : Role). IsTakenBy (EndCame role target) old (plain_step (Dropped Unexpected)) old) (sym c.in-Serving.is)
    (drops (EndCame Serving target) old refl Unexpected (inl (none_there old.node target (sym c.get.ensures ∙ c.in_default.is), refl)))

pub returns-then-not-is_active : goal.returns-then-not-is_active
returns-then-not-is_active c =
    let old = state_of c.args.self.now in
    let target = c.args.target in
    let at : HasBearer old.node target = record { bearer = c.in-Some.at; stands = sym c.get.ensures ∙ c.in-Some.is } in
    subst (λ (role : Role). IsTakenBy (EndCame role target) old (plain_step (Dropped ContextNotActive)) old) (sym c.in-Serving.is)
    (drops (EndCame Serving target) old refl ContextNotActive (inr (at, inl (no c.is_active.ensures c.if-not-is_active.true, refl))))

pub returns : goal.returns
returns c =
    let old = state_of c.args.self.now in
    let new = state_of c.replace_bearer.new.self in
    let target = c.args.target in
    let at : HasBearer old.node target = record { bearer = c.in-Some.at; stands = sym c.get.ensures ∙ c.in-Some.is } in
    subst (λ (role : Role). IsTakenBy (EndCame role target) old (plain_step Ended) new) (sym c.in-Serving.is)
    (plain (EndCame Serving target) old Ended (record old.node { bearers = insert old.node.bearers target (ended_bearer c.in-Some.at) }) new
    (λ is. cc) (inr (at, inr (yes c.is_active.ensures c.if-not-is_active.false, refl))) c.replace_bearer.ensures.node
    c.replace_bearer.ensures.only.role (λ _. c.replace_bearer.ensures.queues) (all_wait old new c.replace_bearer.ensures.queues refl))
