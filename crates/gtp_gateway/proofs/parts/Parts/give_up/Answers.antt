use Rattle.std.proofs.Common.{refl, sym, ◌∙◌}
use Rattle.gtp_gateway.specs.command.SendRequest.{about}
use Rattle.gtp_gateway.specs.GatewayState.{state_of}
use Rattle.gtp_gateway.proofs.Pendings.{waits, none_waits_at}
use Rattle.gtp_gateway.proofs.UserRows.{all_wait}
use Rattle.gtp_gateway.proofs.parts.Parts.give_up.Goals as goal

pub returns-in_default-clause-node : goal.returns-in_default-clause-node
returns-in_default-clause-node c = (λ at. none_waits_at c.args.self.now.pending.waiting c.args.seq at.pending (sym c.waiting.ensures ∙ c.in_default.is) at.waits, refl)

pub returns-in_default-clause-waits : goal.returns-in_default-clause-waits
returns-in_default-clause-waits c = all_wait (state_of c.args.self.now) (state_of c.args.self.now) refl refl

pub returns-clause-node : goal.returns-clause-node
returns-clause-node c =
    let old = c.args.self.now in
    let purpose = c.in-Some.purpose in
    let w = waits old.config.config.peer.control old.pending.waiting c.args.seq purpose old.asked (sym c.waiting.ensures ∙ c.in-Some.is) in
    (record { pending = about purpose w.message; waits = w.stands }, c.finish.ensures.node)
