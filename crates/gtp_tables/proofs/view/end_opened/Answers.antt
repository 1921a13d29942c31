use Rattle.std.proofs.Common.{◌∙◌, ap, sym, rules}
use Rattle.std.specs.Prelude.{not}
use Rattle.std.specs.FinMap.{get}
use Rattle.gtp_tables.specs.declared.context.Session.{Session}
use Rattle.gtp_values.specs.FiniteMap.{FiniteMap}
use Rattle.gtp_tables.specs.Contexts.{is_pending, is_opened}
use Rattle.gtp_tables.proofs.Seen.{pending_stay}
use Rattle.gtp_tables.proofs.view.end_opened.Goals as goal

pub remove_where-requires-clause-decides : goal.remove_where-requires-clause-decides
remove_where-requires-clause-decides c = (λ b. is_opened (get c.args.sessions.now.table b.session), λ x b h. search rules)

pub remove_where-requires-2-clause-decides : goal.remove_where-requires-2-clause-decides
remove_where-requires-2-clause-decides c = (λ s. not (is_pending s.state), λ x b h. search rules)

pub returns-clause-sessions : goal.returns-clause-sessions
returns-clause-sessions c =
    c.remove_where-2.ensures (λ s. not (is_pending s.state)) (λ x b h. search rules)
    ∙ ap (λ (t : FiniteMap Session). record c.args.sessions.now { table = t }) (sym (pending_stay (record { sessions = c.args.sessions.now.table; bearers = c.args.bearers.now })))

pub returns-clause-bearers : goal.returns-clause-bearers
returns-clause-bearers c = c.remove_where.ensures (λ b. is_opened (get c.args.sessions.now.table b.session)) (λ x b h. search rules)
