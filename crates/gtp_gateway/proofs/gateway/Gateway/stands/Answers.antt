use Rattle.std.proofs.Common.{subst}
use Rattle.gtp_machine.specs.Determined.{OneAnswerPerRequest}
use Rattle.gtp_gateway.specs.GatewayState.{GatewayState, NodeMatchesQueues, state_of}
use Rattle.gtp_gateway.proofs.Determined.Told.{held_once}
use Rattle.gtp_gateway.proofs.QueuesAfter.{tied_of}
use Rattle.gtp_gateway.proofs.gateway.Gateway.stands.Goals as goal

pub returns-clause-tied : goal.returns-clause-tied
returns-clause-tied c = subst NodeMatchesQueues c.self.view_is (tied_of c.self.inside.parts)

pub returns-clause-once : goal.returns-clause-once
returns-clause-once c =
    subst (λ (s : GatewayState). OneAnswerPerRequest s.node) c.self.view_is
    (held_once (state_of c.self.inside.parts) (tied_of c.self.inside.parts) c.is_full-held_full.ensures.always.apart)
