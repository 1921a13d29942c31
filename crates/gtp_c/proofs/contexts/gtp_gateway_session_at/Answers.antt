use Rattle.std.proofs.Common.{rules, subst, sym}
use Rattle.std.specs.Prelude.{Option}
use Rattle.gtp_c.specs.Contexts.{SessionAt}
use Rattle.gtp_c.specs.declared.gateway_with_queue.GatewayWithQueue.{GatewayWithQueue}
use Rattle.gtp_c.proofs.contexts.gtp_gateway_session_at.Goals as goal

pub returns-in-Some : goal.returns-in-Some
returns-in-Some c =
    record {
      found =
          λ _. subst (λ (v : Option GatewayWithQueue). SessionAt c.args.place c.of.result v) c.get_mut-gateway.ensures.value
          (record { teid = c.in-Some.found.0; session = c.in-Some.found.1; found = sym c.in-Some.ensures; is = c.of.ensures });
      none = search rules;
      untold = search rules;
      kept = search rules;
      empty = search rules;
      known = search rules;
    }
