use Rattle.std.proofs.Common.{◌≡◌, ◌∙◌, ap, sym, None, Some, Option}
use Rattle.std.specs.FinMap.{get}
use Rattle.gtp_values.specs.FiniteMap.{FiniteMap}
use Rattle.gtp_tables.specs.Rows.{Rows}
use Rattle.gtp_machine.specs.Node.{Session, Bearer}
use Rattle.gtp_gateway.proofs.ErrorIndications.{sessions_of_none, bearers_of_none, sessions_of_default, bearers_of_default, sessions_of_dedicated}
use Rattle.gtp_gateway.proofs.ErrorIndications.{bearers_of_dedicated, without_sessions_of, without_bearers_of}
use Rattle.gtp_gateway.proofs.user.error_indication.end_bearer.Goals as goal

pub returns-in_default-clause-sessions : goal.returns-in_default-clause-sessions
returns-in_default-clause-sessions c =
    let old : Rows Session = c.args.sessions.now in
    let none : get c.args.bearers.now c.args.teid ≡ None = sym c.get.ensures ∙ c.in_default.is in
    ap (λ (t : FiniteMap Session). record old { table = t }) (sessions_of_none old.table ∙ ap (λ (o : Option Bearer). without_sessions_of o old.table) (sym none))

pub returns-in_default-clause-bearers : goal.returns-in_default-clause-bearers
returns-in_default-clause-bearers c =
    let none : get c.args.bearers.now c.args.teid ≡ None = sym c.get.ensures ∙ c.in_default.is in
    bearers_of_none c.args.teid c.args.bearers.now none ∙ ap (λ (o : Option Bearer). without_bearers_of c.args.teid o c.args.bearers.now) (sym none)

pub returns-in-Default-clause-sessions : goal.returns-in-Default-clause-sessions
returns-in-Default-clause-sessions c =
    let old : Rows Session = c.args.sessions.now in
    let some : get c.args.bearers.now c.args.teid ≡ Some c.in-Some.bearer = sym c.get.ensures ∙ c.in-Some.is in
    c.remove.ensures
    ∙ ap (λ (t : FiniteMap Session). record old { table = t }) (sessions_of_default c.args.teid c.in-Some.bearer old.table c.in-Default.is
    ∙ ap (λ (o : Option Bearer). without_sessions_of o old.table) (sym some))

pub returns-in-Default-clause-bearers : goal.returns-in-Default-clause-bearers
returns-in-Default-clause-bearers c =
    let m = c.args.bearers.now in
    let some : get m c.args.teid ≡ Some c.in-Some.bearer = sym c.get.ensures ∙ c.in-Some.is in
    c.remove_of_session.ensures ∙ (bearers_of_default c.args.teid c.in-Some.bearer m some c.in-Default.is ∙ ap (λ (o : Option Bearer). without_bearers_of c.args.teid o m) (sym some))

pub returns-in-Dedicated-clause-sessions : goal.returns-in-Dedicated-clause-sessions
returns-in-Dedicated-clause-sessions c =
    let old : Rows Session = c.args.sessions.now in
    let some : get c.args.bearers.now c.args.teid ≡ Some c.in-Some.bearer = sym c.get.ensures ∙ c.in-Some.is in
    ap (λ (t : FiniteMap Session). record old { table = t }) (sessions_of_dedicated c.args.teid c.in-Some.bearer old.table c.in-Dedicated.is
    ∙ ap (λ (o : Option Bearer). without_sessions_of o old.table) (sym some))

pub returns-in-Dedicated-clause-bearers : goal.returns-in-Dedicated-clause-bearers
returns-in-Dedicated-clause-bearers c =
    let m = c.args.bearers.now in
    let some : get m c.args.teid ≡ Some c.in-Some.bearer = sym c.get.ensures ∙ c.in-Some.is in
    c.remove-in-Dedicated.ensures ∙ (bearers_of_dedicated c.args.teid c.in-Some.bearer m c.in-Dedicated.is ∙ ap (λ (o : Option Bearer). without_bearers_of c.args.teid o m) (sym some))
