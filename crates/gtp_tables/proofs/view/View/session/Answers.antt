use Rattle.std.proofs.Common.{◌∙◌, ap, sym}
use Rattle.std.specs.FinMap.{get}
use Rattle.gtp_tables.specs.declared.context.Session.{Session}
use Rattle.gtp_values.specs.FiniteMap.{FiniteMap}
use Rattle.gtp_tables.specs.Contexts.{Contexts, is_seen}
use Rattle.gtp_tables.proofs.Seen.{seen_sessions, stands_kept, gone_kept, none_kept}
use Rattle.gtp_tables.proofs.view.View.session.Goals as goal
use Rattle.gtp_tables.proofs.view.View.session.Goals.{in_default-via-in-Some+else-is_seen, in_default-via-in_default}

pub returns-in-Some : goal.returns-in-Some
returns-in-Some c =
    let all : Contexts = record { sessions = c.self.inside.sessions.now.table; bearers = c.self.inside.bearers.now } in
    let t = c.args.teid in
    sym (ap (λ (k : Contexts). get k.sessions t) (sym c.self.view_is)
    ∙ (ap (λ (m : FiniteMap Session). get m t) (seen_sessions c.self.inside.restarted all)
    ∙ stands_kept (is_seen c.self.inside.restarted) all.sessions t c.in-Some.session (sym c.in-Some.ensures) (sym c.is_seen.ensures ∙ c.if-is_seen.true)))

pub returns-in_default : goal.returns-in_default
returns-in_default c =
    let all : Contexts = record { sessions = c.self.inside.sessions.now.table; bearers = c.self.inside.bearers.now } in
    let t = c.args.teid in
    sym (ap (λ (k : Contexts). get k.sessions t) (sym c.self.view_is)
    ∙ (ap (λ (m : FiniteMap Session). get m t) (seen_sessions c.self.inside.restarted all)
    ∙ elim c.in_default.branch [
      | in_default-via-in-Some+else-is_seen w ↦ gone_kept (is_seen c.self.inside.restarted) all.sessions t w.in-Some.session (sym w.in-Some.ensures) (sym w.is_seen.ensures ∙ w.if-is_seen.false)
      | in_default-via-in_default w ↦ none_kept (is_seen c.self.inside.restarted) all.sessions t (sym w.in_default.ensures)
    ]))
