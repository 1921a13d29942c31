use Rattle.std.proofs.Common.{rules, refl}
use Rattle.gtp_c.proofs.gateway_with_queue.GatewayWithQueue.take.Goals as goal

pub returns-then-status-eq-DONE-clause-taken : goal.returns-then-status-eq-DONE-clause-taken
returns-then-status-eq-DONE-clause-taken c =
    λ z. record {
      sent = c.in-Some.sent.now;
      shows = record { waited = search rules; first = c.in-Some.ensures.lookup; says = c.of.ensures };
      written = search rules;
      taken = (refl, search rules, search rules);
    }

pub returns-else-status-eq-DONE-clause-small : goal.returns-else-status-eq-DONE-clause-small
returns-else-status-eq-DONE-clause-small c =
    λ z. record {
      sent = c.in-Some.sent.now;
      shows = record { waited = search rules; first = c.in-Some.ensures.lookup; says = c.of.ensures };
      small = search rules;
    }
