use Rattle.std.proofs.Common.{◌<◌, ◌+◌, ◌∙◌, sym, ap, map, subst}
use Rattle.std.specs.Prelude.{All}
use Rattle.std.specs.List.{AllByRecursion}
use Rattle.gtp_reliable.specs.Waiting.{Waiting, sent_again, given_up}
use Rattle.gtp_reliable.specs.Pending.{Requests, IsQuiet, resends, given_ups}
use Rattle.gtp_reliable.specs.Rows.{seen}
use Rattle.gtp_reliable.proofs.Told.{waiting_of}
use Rattle.gtp_reliable.proofs.Ages.{each, from_age, due_age}
use Rattle.gtp_reliable.proofs.Dues.{calm_sends, calm_gives}
use Rattle.gtp_reliable.proofs.pending.Pending.due.Goals as goal

pub due-requires : goal.due-requires
due-requires g c = record { times = c.self.invariant.0.limits.0; turn = c.self.invariant.1 }

pub returns-in_err-due-clause-quiet : goal.returns-in_err-due-clause-quiet
returns-in_err-due-clause-quiet g c = λ q.
    let t3 = c.self.inside.t3 in
    let ws = map (seen c.self.inside.ticks) c.self.inside.rows.rows in
    let all : All (λ w. w.waited + 1 < t3) (waiting_of c.self.inside.ticks c.self.inside.rows.rows) = subst (λ (r : Requests _). IsQuiet r) (sym c.self.view_is) q in
    let calm : AllByRecursion (λ w. w.waited + 1 < t3) ws =
    from_age (λ (w : Waiting _). w.waited + 1 < t3) ws
    (each (λ (w : Waiting _). w.waited + 1 < t3) (waiting_of c.self.inside.ticks c.self.inside.rows.rows) all) in
    let bad = c.in_err-due.ensures.quiet calm in
    absurd cc

pub returns-clause-resend : goal.returns-clause-resend
returns-clause-resend g c =
    let t3 = c.self.inside.t3 in
    let n3 = c.self.inside.n3 in
    c.in_ok-due.ensures.resend
    ∙ (sym (due_age t3 (sent_again t3 n3) (calm_sends t3 n3) (map (seen c.self.inside.ticks) c.self.inside.rows.rows) c.self.invariant.1)
    ∙ ap (λ (v : Requests _). resends v) c.self.view_is)

pub returns-clause-gave_up : goal.returns-clause-gave_up
returns-clause-gave_up g c =
    let t3 = c.self.inside.t3 in
    let n3 = c.self.inside.n3 in
    c.in_ok-due.ensures.gave_up
    ∙ (sym (due_age t3 (given_up t3 n3) (calm_gives t3 n3) (map (seen c.self.inside.ticks) c.self.inside.rows.rows) c.self.invariant.1)
    ∙ ap (λ (v : Requests _). given_ups v) c.self.view_is)
