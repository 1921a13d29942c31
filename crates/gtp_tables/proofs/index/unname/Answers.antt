use Rattle.std.proofs.Common.{◌∙◌, cond, false}
use Rattle.std.specs.BTreeSet.{contains}
use Rattle.gtp_tables.specs.Index.{pair_cmp}
use Rattle.gtp_tables.proofs.Named.{pair_tied}
use Rattle.gtp_tables.proofs.index.unname.Goals as goal

pub returns : goal.returns
returns c = λ r o. c.remove.ensures.updates.0 (r, o) ∙ (λ i. cond (pair_tied (c.args.remote, c.args.own) (r, o) i) false (contains pair_cmp c.args.index.now (r, o)))
