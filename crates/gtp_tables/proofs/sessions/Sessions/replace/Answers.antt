use Rattle.std.proofs.Common.{◌∙◌, ◌<◌, ◌^◌, ap, arith}
use Rattle.std.specs.FinMap.{insert, remove, values, len}
use Rattle.gtp_tables.specs.declared.context.Session.{Session}
use Rattle.gtp_tables.specs.Rows.{Rows}
use Rattle.gtp_tables.proofs.Alike.{values_fit}
use Rattle.gtp_tables.proofs.Counted.{put_in}
use Rattle.gtp_tables.proofs.sessions.Sessions.replace.Goals as goal

pub note-requires : goal.note-requires
note-requires c =
    let m = c.self.inside.table.table in
    let fits : len (insert m c.args.teid c.args.session) < 2 ^ 64 = omega (arith, c.len.type_inv, c.len.ensures ∙ ap (λ (r : Rows Session). len r.table) c.replace.ensures) in
    (values (remove m c.args.teid), c.forget.ensures, values_fit m c.args.teid c.args.session (2 ^ 64) fits)

pub invariant_of-self : goal.invariant_of-self
invariant_of-self c =
    let m = c.self.inside.table.table in
    put_in m c.replace.new.self.table c.args.teid c.args.session c.note.new.places (ap (λ (r : Rows Session). r.table) c.replace.ensures)
    (c.note.ensures (values (remove m c.args.teid)) c.forget.ensures)
