use Rattle.std.proofs.Common.{ℕ, Bool, false, refl, ◌∙◌, ap}
use Rattle.std.specs.Prelude.{not, ◌||◌, ◌==◌}
use Rattle.gtp_tables.specs.declared.context.Session.{Session}
use Rattle.gtp_machine.specs.Node.{PendingRequest}
use Rattle.gtp_machine.specs.Removal.{on}
use Rattle.gtp_gateway.specs.Parts.{pending_in, node_of}
use Rattle.gtp_gateway.proofs.Removed.{pending_kept, asked_stay, all_kept, bearer_kept}
use Rattle.gtp_gateway.proofs.parts.Parts.remove_bearer.Goals as goal

pub returns-clause-node : goal.returns-clause-node
returns-clause-node c =
    let old = c.args.self.now in
    let bearer : ℕ = c.args.bearer in
    let stays : PendingRequest → Bool = λ p. not (on (λ t. false) p.session || on (λ t. t == bearer) p.bearer) in
    let pending = ap pending_in c.finish_where.ensures.waiting ∙ pending_kept stays old.pending.waiting c.finish_where.ensures.always.distinct in
    let bearers = c.remove.ensures ∙ bearer_kept old.bearers bearer in
    let sessions = all_kept (λ t (s : Session). not false) old.sessions.table (λ q s. refl) in
    λ i. record (node_of old) { sessions = sessions i; bearers = bearers i; pending = pending i }

pub invariant_of-self-clause-asked : goal.invariant_of-self-clause-asked
invariant_of-self-clause-asked c = asked_stay _ _ _ _ c.finish_where.ensures.waiting c.args.self.now.asked
