use Rattle.std.proofs.Common.{◌∙◌, ap}
use Rattle.gtp_gateway.specs.Parts.{pending_in, node_of}
use Rattle.gtp_gateway.proofs.Removed.{asked_stay, pending_removed}
use Rattle.gtp_gateway.proofs.parts.Parts.finish_number.Goals as goal

pub returns-clause-node : goal.returns-clause-node
returns-clause-node c =
    let old = c.args.self.now in
    let pending = ap pending_in c.finish.ensures.waiting ∙ pending_removed old.pending.waiting c.args.seq in
    λ i. record (node_of old) { pending = pending i }

pub invariant_of-self-clause-asked : goal.invariant_of-self-clause-asked
invariant_of-self-clause-asked c = asked_stay _ _ _ _ c.finish.ensures.waiting c.args.self.now.asked
