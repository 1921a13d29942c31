use Rattle.std.proofs.Common.{◌≡◌, true, false, ◌∙◌, sym, subst}
use Rattle.std.proofs.lemmas.Option.{IfSome_then}
use Rattle.gtp_tables.specs.declared.context.Bearer.{Bearer}
use Rattle.gtp_values.specs.FiniteMap.{FiniteMap}
use Rattle.gtp_tables.specs.Index.{HasRemote}
use Rattle.gtp_tables.proofs.Named.{has_remote, named_by, IfNone_then}
use Rattle.gtp_tables.proofs.bearers.Bearers.next_of_remote.Goals as goal

pub returns-clause-found : goal.returns-clause-found
returns-clause-found c = IfSome_then c.next_named.result c.next_named.ensures.found (λ teid found.
    subst (λ (m : FiniteMap Bearer). HasRemote m c.args.remote teid) c.self.view_is
    (has_remote c.self.inside.table.table c.args.remote teid (sym (c.self.invariant.indexed c.args.remote teid) ∙ found)))

pub returns-clause-next : goal.returns-clause-next
returns-clause-next c = IfSome_then c.next_named.result c.next_named.ensures.lowest (λ teid lowest t less has.
    let there : HasRemote c.self.inside.table.table c.args.remote t = subst (λ (m : FiniteMap Bearer). HasRemote m c.args.remote t) (sym c.self.view_is) has in
    lowest t less (c.self.invariant.indexed c.args.remote t ∙ named_by c.self.inside.table.table c.args.remote t there))

pub returns-clause-none : goal.returns-clause-none
returns-clause-none c = IfNone_then c.next_named.result c.next_named.ensures.none (λ none t less has.
    let there : HasRemote c.self.inside.table.table c.args.remote t = subst (λ (m : FiniteMap Bearer). HasRemote m c.args.remote t) (sym c.self.view_is) has in
    let same : false ≡ true = sym (none t less) ∙ (c.self.invariant.indexed c.args.remote t ∙ named_by c.self.inside.table.table c.args.remote t there) in
    absurd cc)
