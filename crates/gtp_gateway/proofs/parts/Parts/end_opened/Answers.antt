use Rattle.std.proofs.Common.{Bool, false, ◌∙◌, ap}
use Rattle.std.specs.Prelude.{not, ◌||◌}
use Rattle.std.specs.FinMap.{get}
use Rattle.gtp_tables.specs.Contexts.{is_opened}
use Rattle.gtp_machine.specs.Node.{PendingRequest}
use Rattle.gtp_machine.specs.Removal.{on}
use Rattle.gtp_gateway.specs.Parts.{pending_in, node_of}
use Rattle.gtp_gateway.proofs.Removed.{pending_kept, asked_stay}
use Rattle.gtp_gateway.proofs.parts.Parts.end_opened.Goals as goal

pub returns-clause-node : goal.returns-clause-node
returns-clause-node c =
    let old = c.args.self.now in
    let stays : PendingRequest → Bool = λ p. not (on (λ t. is_opened (get old.sessions.table t)) p.session || on (λ t. false) p.bearer) in
    let pending = ap pending_in c.finish_where.ensures.waiting ∙ pending_kept stays old.pending.waiting c.finish_where.ensures.always.distinct in
    λ i. record (node_of old) { sessions = (c.end_opened.ensures.sessions i).table; bearers = c.end_opened.ensures.bearers i; pending = pending i }

pub invariant_of-self-clause-asked : goal.invariant_of-self-clause-asked
invariant_of-self-clause-asked c = asked_stay _ _ _ _ c.finish_where.ensures.waiting c.args.self.now.asked
