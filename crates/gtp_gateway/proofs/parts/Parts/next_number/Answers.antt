use Rattle.std.proofs.Common.{◌<◌, ◌≤◌, List, length, refl, subst}
use Rattle.gtp_reliable.specs.Pending.{IsNextFree}
use Rattle.gtp_reliable.specs.Waiting.{Waiting}
use Rattle.gtp_gateway.specs.declared.command.purpose.Purpose.{Purpose}
use Rattle.gtp_gateway.specs.Parts.{node_of}
use Rattle.gtp_gateway.specs.GatewayState.{state_of}
use Rattle.gtp_gateway.proofs.Refusals.{has_room, has_none}
use Rattle.gtp_gateway.proofs.RequestsToSend.{begun, full}
use Rattle.gtp_gateway.proofs.UserRows.{filter_all}
use Rattle.gtp_gateway.proofs.parts.Parts.next_number.Goals as goal

pub returns-in-Some-clause-number : goal.returns-in-Some-clause-number
returns-in-Some-clause-number c =
    let old = c.args.self.now.pending in
    subst (λ (ws : List (Waiting Purpose)). IsNextFree old.next ws c.in-Some.seq) (filter_all old.waiting) c.in-Some.ensures.some

pub returns-in-Some-clause-few : goal.returns-in-Some-clause-few
returns-in-Some-clause-few c = subst (λ (ws : List (Waiting Purpose)). length ws < 256) (filter_all c.args.self.now.pending.waiting) c.in-Some.ensures.few

pub returns-in-Some-clause-room : goal.returns-in-Some-clause-room
returns-in-Some-clause-room c = has_room (node_of c.args.self.now) c.args.self.now.pending.waiting c.number_after.ensures.distinct refl (returns-in-Some-clause-few c)

pub returns-in-Some-clause-refused : goal.returns-in-Some-clause-refused
returns-in-Some-clause-refused c = begun (state_of c.args.self.now) (returns-in-Some-clause-room c) c.in-Some.seq

pub returns-in-None-clause-refused : goal.returns-in-None-clause-refused
returns-in-None-clause-refused c =
    let old = c.args.self.now in
    full (state_of old) (has_none (node_of old) old.pending.waiting c.number_after.ensures.distinct refl
    (subst (λ (ws : List (Waiting Purpose)). 256 ≤ length ws) (filter_all old.pending.waiting) c.in-None.ensures.none))
