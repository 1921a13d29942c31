use Rattle.std.proofs.Common.{ℕ, Bool, ◌∙◌, ap}
use Rattle.std.specs.Prelude.{not, ◌||◌}
use Rattle.std.specs.FinMap.{get}
use Rattle.gtp_tables.specs.Index.{names}
use Rattle.gtp_tables.specs.Rows.{Rows}
use Rattle.gtp_machine.specs.Node.{Session, PendingRequest}
use Rattle.gtp_machine.specs.Removal.{on}
use Rattle.gtp_machine.specs.User.{default_among}
use Rattle.gtp_gateway.specs.Parts.{pending_in, node_of}
use Rattle.gtp_gateway.proofs.Removed.{pending_kept, asked_stay}
use Rattle.gtp_gateway.proofs.parts.Parts.end_bearers_of_remote.Goals as goal

pub invariant_of-self-clause-asked : goal.invariant_of-self-clause-asked
invariant_of-self-clause-asked c = asked_stay _ _ _ _ c.finish_where.ensures.waiting c.args.self.now.asked

pub returns-clause-node : goal.returns-clause-node
returns-clause-node c =
    let old = c.args.self.now in
    let remote = c.args.remote in
    let goes : ℕ → Bool = λ t. default_among remote t old.bearers in
    let stays : PendingRequest → Bool = λ p. not (on goes p.session || on (λ t. names remote (get old.bearers t)) p.bearer) in
    let pending = ap pending_in c.finish_where.ensures.waiting ∙ pending_kept stays old.pending.waiting c.finish_where.ensures.always.distinct in
    let sessions = ap (λ (r : Rows Session). r.table) c.end_of_remote.ensures.sessions in
    let bearers = c.end_of_remote.ensures.bearers in
    λ i. record (node_of old) { sessions = sessions i; bearers = bearers i; pending = pending i }
