use Rattle.std.proofs.Common.{◌∙◌, cond, true}
use Rattle.std.specs.BTreeSet.{contains}
use Rattle.gtp_tables.specs.Index.{pair_cmp}
use Rattle.gtp_tables.proofs.Named.{pair_tied}
use Rattle.gtp_tables.proofs.index.name.Goals as goal

pub returns-clause-ok : goal.returns-clause-ok
returns-clause-ok c = λ r o. c.in_ok-insert.ensures.updates.0 (r, o) ∙ (λ i. cond (pair_tied (c.args.remote, c.args.own) (r, o) i) true (contains pair_cmp c.args.index.now (r, o)))
