use Rattle.std.proofs.Common.{rules, ◌≡◌, inl, inr, refl, sym, ◌∙◌}
use Rattle.gtp_machine.specs.declared.outcome.Refusal.TheVariants.{NotActive}
use Rattle.gtp_gateway.specs.GatewayState.{state_of}
use Rattle.gtp_gateway.proofs.ActiveSessions.{here}
use Rattle.gtp_gateway.proofs.Columns.{no}
use Rattle.gtp_gateway.proofs.parts.Parts.active_session.Goals as goal

pub returns-then-not-is_active-clause-refused : goal.returns-then-not-is_active-clause-refused
returns-then-not-is_active-clause-refused c =
    let s = state_of c.args.self.now in
    let role : s.role ≡ c.args.only = search rules in
    record {
      why = NotActive;
      is = refl;
      first = here c.args.only s.role s.node _ _ role (inr (record { session = c.in-Some.at; stands = sym c.get.ensures ∙ c.in-Some.is }, inl (no c.is_active.ensures c.if-not-is_active.true, refl)));
    }
