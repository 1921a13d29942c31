use Rattle.std.proofs.Common.{◌∙◌, sym, ap}
use Rattle.std.proofs.lemmas.Option.{IfSome_then}
use Rattle.std.specs.FinMap.{get}
use Rattle.gtp_tables.specs.declared.context.Bearer.{Bearer}
use Rattle.gtp_values.specs.FiniteMap.{FiniteMap}
use Rattle.gtp_tables.specs.BySession.{is_of}
use Rattle.gtp_tables.proofs.Named.{IfNone_then}
use Rattle.gtp_tables.proofs.bearers.Bearers.next_of_session.Goals as goal

pub returns-clause-found : goal.returns-clause-found
returns-clause-found c = IfSome_then c.next_named.result c.next_named.ensures.found (λ teid found.
    ap (λ (m : FiniteMap Bearer). is_of c.args.session (get m teid)) (sym c.self.view_is) ∙ (sym (c.self.invariant.sessions c.args.session teid) ∙ found))

pub returns-clause-next : goal.returns-clause-next
returns-clause-next c = IfSome_then c.next_named.result c.next_named.ensures.lowest (λ teid lowest t less is.
    lowest t less (c.self.invariant.sessions c.args.session t ∙ (ap (λ (m : FiniteMap Bearer). is_of c.args.session (get m t)) c.self.view_is ∙ is)))

pub returns-clause-none : goal.returns-clause-none
returns-clause-none c = IfNone_then c.next_named.result c.next_named.ensures.none (λ none t less.
    ap (λ (m : FiniteMap Bearer). is_of c.args.session (get m t)) (sym c.self.view_is) ∙ (sym (c.self.invariant.sessions c.args.session t) ∙ none t less))
