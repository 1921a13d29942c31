use Rattle.std.specs.Prelude.{not}
use Rattle.std.specs.Fn.{FnReturnsAt}
use Rattle.std.proofs.Common.{rules, ◌≡◌, ◌∙◌, ap}
use Rattle.indexmap.proofs.CallerLemmas.{filter-RetainsPairs}
use Rattle.gtp_values.proofs.Tests.{told_not}
use Rattle.gtp_tables.proofs.table.drop_where.Goals as goal

pub returns-clause-entries : goal.returns-clause-entries
returns-clause-entries g c = λ goes right.
    let told = told_not goes (FnReturnsAt g.F.Fn c.args.test) right in
    filter-RetainsPairs _ _ _ (λ k v b w f call. (
      let same : call.value.now ≡ v =
          search rules in told _ b _ call.called.met.1.0.1 call.called.met.1.0.2 ∙ ap (λ (x : g.row.V.Denot). not (goes x)) same,
      search rules,
      search rules,
    )) _ _ c.retain.ensures.filtered
