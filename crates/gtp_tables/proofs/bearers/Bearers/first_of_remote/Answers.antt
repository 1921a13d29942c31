use Rattle.std.proofs.Common.{◌∙◌, sym, subst}
use Rattle.std.proofs.lemmas.Option.{IfSome_then}
use Rattle.gtp_tables.specs.declared.context.Bearer.{Bearer}
use Rattle.gtp_values.specs.FiniteMap.{FiniteMap}
use Rattle.gtp_tables.specs.Index.{HasRemote, IsUnnamed}
use Rattle.gtp_tables.proofs.Named.{has_remote, is_unnamed, named_by, IfNone_then}
use Rattle.gtp_tables.proofs.bearers.Bearers.first_of_remote.Goals as goal

pub returns-clause-found : goal.returns-clause-found
returns-clause-found c = IfSome_then c.first_named.result c.first_named.ensures.found (λ teid found.
    subst (λ (m : FiniteMap Bearer). HasRemote m c.args.remote teid) c.self.view_is
    (has_remote c.self.inside.table.table c.args.remote teid (sym (c.self.invariant.indexed c.args.remote teid) ∙ found)))

pub returns-clause-lowest : goal.returns-clause-lowest
returns-clause-lowest c = IfSome_then c.first_named.result c.first_named.ensures.lowest (λ teid lowest t has.
    let there : HasRemote c.self.inside.table.table c.args.remote t = subst (λ (m : FiniteMap Bearer). HasRemote m c.args.remote t) (sym c.self.view_is) has in
    lowest t (c.self.invariant.indexed c.args.remote t ∙ named_by c.self.inside.table.table c.args.remote t there))

pub returns-clause-none : goal.returns-clause-none
returns-clause-none c = IfNone_then c.first_named.result c.first_named.ensures.none (λ none.
    subst (λ (m : FiniteMap Bearer). IsUnnamed m c.args.remote) c.self.view_is
    (is_unnamed c.self.inside.table.table c.args.remote (λ o. sym (c.self.invariant.indexed c.args.remote o) ∙ none o)))
