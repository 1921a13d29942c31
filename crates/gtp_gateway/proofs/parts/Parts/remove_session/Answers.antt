use Rattle.std.proofs.Common.{rules, ℕ, Bool, false, ◌∙◌, ap}
use Rattle.std.specs.Prelude.{not, ◌||◌, ◌==◌}
use Rattle.gtp_tables.specs.declared.context.Bearer.{Bearer}
use Rattle.gtp_machine.specs.Node.{PendingRequest}
use Rattle.gtp_machine.specs.Removal.{on}
use Rattle.gtp_gateway.specs.Parts.{pending_in, node_of}
use Rattle.gtp_gateway.proofs.Removed.{pending_kept, asked_stay, session_kept}
use Rattle.gtp_gateway.proofs.parts.Parts.remove_session.Goals as goal

pub returns-clause-node : goal.returns-clause-node
returns-clause-node c =
    let old = c.args.self.now in
    let session : ℕ = c.args.session in
    let stays : PendingRequest → Bool = λ p. not (on (λ t. t == session) p.session || on (λ t. false) p.bearer) in
    let pending = ap pending_in c.finish_where.ensures.waiting ∙ pending_kept stays old.pending.waiting c.finish_where.ensures.always.distinct in
    let sessions = ap (λ r. r.table) c.remove.ensures ∙ session_kept old.sessions.table session in
    let bearers = c.remove_of_session.ensures in
    λ i. record (node_of old) { sessions = sessions i; bearers = bearers i; pending = pending i }

pub invariant_of-self-clause-asked : goal.invariant_of-self-clause-asked
invariant_of-self-clause-asked c = asked_stay _ _ _ _ c.finish_where.ensures.waiting c.args.self.now.asked
