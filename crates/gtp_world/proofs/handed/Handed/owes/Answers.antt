use Rattle.std.proofs.Common.{List, sym, ◌∙◌, ap, subst}
use Rattle.gtp_values.specs.FiniteMap.{Among}
use Rattle.gtp_machine.specs.Input.{Entry}
use Rattle.gtp_machine.specs.World.{By}
use Rattle.gtp_world.specs.Indexes.{Packets, owed_by}
use Rattle.gtp_world.proofs.Indexes.{looked_up}
use Rattle.gtp_world.proofs.SameKeys.{entry_same}
use Rattle.gtp_world.proofs.handed.Handed.owes.Goals as goal

pub returns : goal.returns
returns c =
    let a = c.args.accepted.now in
    let list_is = ap (λ (p : Packets). p.list) c.self.view_is in
    let d = looked_up owed_by _ entry_same _ c.self.inside.expected.keys a c.self.invariant.index in (
      λ is. subst (λ (l : List (By Entry)). Among (owed_by a) l) list_is (d.0 (sym c.contains.ensures ∙ is)),
      λ has. c.contains.ensures ∙ d.1 (subst (λ (l : List (By Entry)). Among (owed_by a) l) (sym list_is) has),
    )
