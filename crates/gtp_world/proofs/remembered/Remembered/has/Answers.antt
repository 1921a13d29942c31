use Rattle.std.proofs.Common.{List, sym, ◌∙◌, ap, subst}
use Rattle.gtp_values.specs.FiniteMap.{Among}
use Rattle.gtp_machine.specs.Node.{Arrival}
use Rattle.gtp_world.specs.Indexes.{Arrivals, asked}
use Rattle.gtp_world.proofs.Indexes.{looked_up}
use Rattle.gtp_world.proofs.SameKeys.{asked_same}
use Rattle.gtp_world.proofs.remembered.Remembered.has.Goals as goal

pub returns : goal.returns
returns c =
    let a = c.args.request.now in
    let list_is = ap (λ (p : Arrivals). p.list) c.self.view_is in
    let d = looked_up asked _ asked_same _ c.self.inside.index.keys a c.self.invariant.index in (
      λ is. subst (λ (l : List Arrival). Among (asked a) l) list_is (d.0 (sym c.contains.ensures ∙ is)),
      λ has. c.contains.ensures ∙ d.1 (subst (λ (l : List Arrival). Among (asked a) l) (sym list_is) has),
    )
