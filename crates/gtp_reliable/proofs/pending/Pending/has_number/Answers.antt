use Rattle.std.proofs.Common.{rules, ◌≡◌, ◌∙◌, ap}
use Rattle.std.specs.Prelude.{is_some}
use Rattle.gtp_reliable.specs.Pending.{Requests, is_pending}
use Rattle.gtp_reliable.specs.Rows.{row_of}
use Rattle.gtp_reliable.proofs.Told.{pending_is}
use Rattle.gtp_reliable.proofs.pending.Pending.has_number.Goals as goal

pub returns : goal.returns
returns g c =
    let there : c.is_some.result ≡ is_some (row_of c.args.number c.self.inside.rows.rows) = search rules in
    there
    ∙ (pending_is c.self.inside.ticks c.self.inside.rows.rows c.args.number
    ∙ ap (λ (v : Requests _). is_pending c.args.number v.waiting) c.self.view_is)
