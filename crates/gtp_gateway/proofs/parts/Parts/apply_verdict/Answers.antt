use Rattle.std.proofs.Common.{◌≡◌, refl, sym, subst}
use Rattle.std.specs.Prelude.{filter}
use Rattle.gtp_gateway.specs.declared.parts.Parts.{Parts}
use Rattle.gtp_gateway.specs.GatewayState.{GatewayState, state_of}
use Rattle.gtp_gateway.specs.user.Receive.{RequestsWaitOn}
use Rattle.gtp_gateway.proofs.GivenUp.{wait_on}
use Rattle.gtp_gateway.proofs.parts.Parts.apply_verdict.Goals.{in-Drops, in-Finishes, in-OpensSession+in_ok-open_bearer-in-OpensSession, in-OpensBearer+in_ok-open_bearer-in-OpensBearer}
use Rattle.gtp_gateway.proofs.parts.Parts.apply_verdict.Goals as goal

-- what waits on does so from any station with the same queues
from : (a b c : GatewayState) → a.queues ≡ b.queues → RequestsWaitOn b c → RequestsWaitOn a c
from a b c same on = record { stays = on.stays; queues = subst (λ t. c.queues ≡ record t { waiting = filter on.stays t.waiting }) (sym same) on.queues; pending = on.pending }

pub returns-clause-waits : goal.returns-clause-waits
returns-clause-waits c =
    let old = state_of c.args.self.now in
    elim c.match-verdict.branch [
      | in-Drops w ↦ subst (λ (g : Parts). RequestsWaitOn old (state_of g)) (sym w.self-is) w.hear.ensures.waits
      | in-Finishes w ↦ subst (λ (g : Parts). RequestsWaitOn old (state_of g)) (sym w.self-is) (wait_on old _ _ w.hear-in-Finishes.ensures.waits w.finish.ensures.removes.waits)
      | in-OpensSession+in_ok-open_bearer-in-OpensSession w ↦ subst (λ (g : Parts). RequestsWaitOn old (state_of g)) (sym w.self-is)
          (wait_on old (state_of w.open_bearer.new.self) _ w.open_bearer.ensures.waits
          (from (state_of w.open_bearer.new.self) _ _ refl w.finish_number.ensures.removes.waits))
      | in-OpensBearer+in_ok-open_bearer-in-OpensBearer w ↦ subst (λ (g : Parts). RequestsWaitOn old (state_of g)) (sym w.self-is)
          (wait_on old _ _ w.open_bearer-in-OpensBearer.ensures.waits w.finish_number-in-OpensBearer.ensures.removes.waits)
    ]
