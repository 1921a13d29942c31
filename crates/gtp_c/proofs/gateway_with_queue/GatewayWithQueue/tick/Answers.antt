use Rattle.std.proofs.Common.{rules, arith, ◌++◌, List, ap, ◌∙◌, sym, subst}
use Rattle.gtp_gateway.specs.GatewayState.{GatewayState}
use Rattle.gtp_gateway.specs.Tick.{IsTicked, QueuesAfterTick}
use Rattle.gtp_gateway.specs.declared.sent.Sent.{Sent}
use Rattle.gtp_c.proofs.gateway_with_queue.GatewayWithQueue.tick.Goals as goal

pub returns-in-Ok-clause-done : goal.returns-in-Ok-clause-done
returns-in-Ok-clause-done c =
    let k = c.room_for-status.ensures.kept in let old = c.args.self.now.gateway in
    λ _. record {
      ticked = c.in-Ok.ticked;
      is_ticked = subst (λ (g : GatewayState). IsTicked old c.in-Ok.ticked g) (sym c.put_all.ensures.gateway)
          (subst (λ (g : GatewayState). IsTicked g c.in-Ok.ticked c.tick.new.self) k.0 c.in-Ok.ensures.ticked);
      counts = subst (λ (g : GatewayState). QueuesAfterTick old g) (sym c.put_all.ensures.gateway) (subst (λ (g : GatewayState). QueuesAfterTick g c.tick.new.self) k.0 c.in-Ok.ensures.counts);
      few = c.in-Ok.ensures.few;
      few_forgotten = c.in-Ok.ensures.few_forgotten;
      room = omega (arith, k.2, c.put_all.ensures.room);
      waiting = c.put_all.ensures.waiting ∙ ap (λ (xs : List Sent). xs ++ c.in-Ok.ticked.resent.items) k.1;
      tells = search rules;
    }
