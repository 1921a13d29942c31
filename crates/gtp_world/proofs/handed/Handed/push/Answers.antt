use Rattle.std.proofs.Common.{◌<◌, List, [], ◌∷◌, ◌++◌, map, sym, ◌∙◌, ap, subst, arith}
use Rattle.std.proofs.lemmas.List.{map-append}
use Rattle.gtp_machine.specs.Input.{Entry as Packet}
use Rattle.gtp_machine.specs.World.{By}
use Rattle.gtp_world.specs.Indexes.{Packets, IsIndexed, entry_by, owed_by}
use Rattle.gtp_world.specs.declared.log.Entry.{Entry}
use Rattle.gtp_world.proofs.Indexes.{one_more}
use Rattle.gtp_world.proofs.SameKeys.{entry_same}
use Rattle.gtp_world.proofs.handed.Handed.push.Goals as goal

pub invariant_of-self : goal.invariant_of-self
invariant_of-self c =
    let old = c.self.inside in
    let has = c.self.invariant in
    let expected = c.packet.inside.expected in
    let list_is =
    ap (map entry_by) c.push_reserved.ensures.items ∙ map-append entry_by old.entries.items (c.packet.inside.entry ∷ [])
    ∙ ap (λ (p : By Packet). map entry_by old.entries.items ++ (p ∷ [])) (sym c.packet.invariant) in
    let grown = one_more owed_by _ entry_same (map entry_by old.entries.items) old.expected.keys expected has.index in
    let index = subst (λ (ks : List Entry). IsIndexed (map entry_by old.entries.items ++ (owed_by expected ∷ [])) (map owed_by ks)) (sym c.insert_reserved.ensures.keys) grown in
    let some : 0 < old.room = subst (λ (p : Packets). 0 < p.room) (sym c.self.view_is) c.requires in
    let len = c.push_reserved.ensures.len in
    let capacity = c.push_reserved.ensures.capacity in
    let was_room = has.room in
    let was_spare = has.spare in
    let is_spare = c.insert_reserved.ensures.spare in
    record {
      index = subst (λ (l : List (By Packet)). IsIndexed l (map owed_by c.insert_reserved.new.index.keys)) (sym list_is) index;
      room = omega (arith, some, len, capacity, was_room);
      spare = omega (arith, some, was_spare, is_spare);
    }
