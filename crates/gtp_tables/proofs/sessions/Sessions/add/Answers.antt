use Rattle.std.proofs.Common.{◌≡◌, ◌∙◌, ◌<◌, ◌^◌, ap, sym, subst, arith}
use Rattle.std.specs.FinMap.{insert, remove, values, len}
use Rattle.gtp_values.specs.FiniteMap.{FiniteMap, Each}
use Rattle.gtp_tables.specs.declared.context.Session.{Session}
use Rattle.gtp_tables.specs.Rows.{Rows}
use Rattle.gtp_tables.specs.PoolPlaces.{AreCountedIn}
use Rattle.gtp_tables.proofs.Alike.{none_removed, values_fit}
use Rattle.gtp_tables.proofs.Counted.{put_in}
use Rattle.gtp_tables.proofs.sessions.Sessions.add.Goals as goal

pub note-requires : goal.note-requires
note-requires c =
    let m = c.self.inside.table.table in
    let none : remove m c.args.teid ≡ m = none_removed m c.args.teid (subst (λ (r : Rows Session). Each (λ key _. key < c.args.teid) r.table) (sym c.self.view_is) c.requires.rises) in
    let fits : len (insert m c.args.teid c.args.session) < 2 ^ 64 = omega (arith, c.len.type_inv, c.len.ensures ∙ ap len c.add.ensures.table) in
    (values (remove m c.args.teid), subst (λ (n : FiniteMap Session). AreCountedIn (values n) c.self.inside.places) (sym none) c.self.invariant, values_fit m c.args.teid c.args.session (2 ^ 64) fits)

pub invariant_of-self : goal.invariant_of-self
invariant_of-self c =
    let m = c.self.inside.table.table in
    let none : remove m c.args.teid ≡ m = none_removed m c.args.teid (subst (λ (r : Rows Session). Each (λ key _. key < c.args.teid) r.table) (sym c.self.view_is) c.requires.rises) in
    put_in m c.add.new.self.table c.args.teid c.args.session c.note.new.places c.add.ensures.table (c.note.ensures (values (remove m c.args.teid))
    (subst (λ (n : FiniteMap Session). AreCountedIn (values n) c.self.inside.places) (sym none) c.self.invariant))
