use Rattle.std.proofs.Common.{◌≡◌, ◌<◌, ◌≤◌, ◌∙◌, ℕ, Option, Some, ap, subst}
use Rattle.std.specs.Prelude.{IfSome, IfNone}
use Rattle.gtp_values.specs.declared.identifiers.Teid.{Teid}
use Rattle.gtp_values.specs.FiniteMap.{FiniteMap}
use Rattle.gtp_tables.specs.Index.{HasRemote}
use Rattle.gtp_tables.specs.Rows.{Rows}
use Rattle.gtp_machine.specs.Node.{Session, Bearer}
use Rattle.gtp_gateway.proofs.ErrorIndications.{bearers_left, sessions_left, all_left, sessions_all_left, bearers_after, sessions_after, bearers_at_end, sessions_at_end}
use Rattle.gtp_gateway.proofs.user.error_indication.end_of_remote.Goals as goal

pub loop-next-init : goal.loop-next-init
loop-next-init c =
    let m = c.args.bearers.now in
    let next = c.first_of_remote-next.result in
    let lowest = c.first_of_remote-next.ensures.lowest in
    let none = c.first_of_remote-next.ensures.none in
    record {
      sessions = ap (λ (t : FiniteMap Session). record c.args.sessions.now { table = t }) (sessions_all_left m c.args.remote next c.args.sessions.now.table lowest none);
      bearers = all_left m c.args.remote next lowest none;
      has = c.first_of_remote-next.ensures.found;
    }

pub loop-next-preserved : goal.loop-next-preserved
loop-next-preserved c =
    let m = c.args.bearers.now in
    let old = c.args.sessions.now in
    let remote = c.args.remote in
    let teid = c.in-Some.teid in
    let now = c.loop-next.bearers in
    let has : HasRemote now remote teid = subst (λ (o : Option Teid). IfSome o (λ t. HasRemote now remote t)) c.in-Some.is c.loop-next.invariant.has in
    let left : now ≡ bearers_left m remote (Some teid) = subst (λ (o : Option Teid). now ≡ bearers_left m remote o) c.in-Some.is c.loop-next.invariant.bearers in
    let sessions : c.loop-next.sessions ≡ record old { table = sessions_left m old.table remote (Some teid) } =
    subst (λ (o : Option Teid). c.loop-next.sessions ≡ record old { table = sessions_left m old.table remote o }) c.in-Some.is
    c.loop-next.invariant.sessions in
    let next = c.next_of_remote-next.result in
    let after = c.next_of_remote-next.ensures.after in
    let lowest = subst (λ (x : FiniteMap Bearer). IfSome next (λ n. (t : ℕ) → teid < t → HasRemote x remote t → n ≤ t)) c.end_bearer.ensures.bearers c.next_of_remote-next.ensures.next in
    let none = subst (λ (x : FiniteMap Bearer). IfNone next ((t : ℕ) → teid < t → HasRemote x remote t → ⊥)) c.end_bearer.ensures.bearers c.next_of_remote-next.ensures.none in
    let gone = sessions_after m old.table remote teid now left has next after lowest none c.loop-next.sessions.table (ap (λ (r : Rows Session). r.table) sessions) in
    record {
      sessions = c.end_bearer.ensures.sessions ∙ (λ i. record (sessions i) { table = gone i });
      bearers = c.end_bearer.ensures.bearers ∙ bearers_after m old.table remote teid now left has next after lowest none;
      has = c.next_of_remote-next.ensures.found;
    }

pub returns-clause-sessions : goal.returns-clause-sessions
returns-clause-sessions c =
    let m = c.args.bearers.now in
    let old = c.args.sessions.now in
    subst (λ (o : Option Teid). c.loop-next.sessions ≡ record old { table = sessions_left m old.table c.args.remote o }) c.in_default.is c.loop-next.invariant.sessions
    ∙ ap (λ (t : FiniteMap Session). record old { table = t }) (sessions_at_end m c.args.remote old.table)

pub returns-clause-bearers : goal.returns-clause-bearers
returns-clause-bearers c =
    let m = c.args.bearers.now in
    subst (λ (o : Option Teid). c.loop-next.bearers ≡ bearers_left m c.args.remote o) c.in_default.is c.loop-next.invariant.bearers ∙ bearers_at_end m c.args.remote
