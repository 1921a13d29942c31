use Rattle.std.proofs.Common.{◌<◌, List, [], ◌∷◌, ◌++◌, map, sym, ◌∙◌, ap, subst, arith}
use Rattle.gtp_machine.specs.Node.{Arrival}
use Rattle.gtp_gateway.specs.Tick.{arrivals_of}
use Rattle.gtp_world.specs.Indexes.{Arrivals, IsIndexed, asked}
use Rattle.gtp_world.specs.declared.request_key.RequestKey.{RequestKey}
use Rattle.gtp_world.proofs.Indexes.{one_more}
use Rattle.gtp_world.proofs.Logs.{arrivals_kept}
use Rattle.gtp_world.proofs.SameKeys.{asked_same}
use Rattle.gtp_world.proofs.remembered.Remembered.push.Goals as goal

pub invariant_of-self : goal.invariant_of-self
invariant_of-self c =
    let old = c.self.inside in
    let has = c.self.invariant in
    let key = c.args.key in
    let was = arrivals_of old.requests.items in
    let list_is = ap arrivals_of c.push_reserved.ensures.items ∙ arrivals_kept old.requests.items (c.args.request ∷ []) ∙ ap (λ (a : Arrival). was ++ (a ∷ [])) (sym c.requires.key) in
    let grown = one_more asked _ asked_same was old.index.keys key has.index in
    let index = subst (λ (ks : List RequestKey). IsIndexed (was ++ (asked key ∷ [])) (map asked ks)) (sym c.insert_reserved.ensures.keys) grown in
    let some : 0 < old.room = subst (λ (p : Arrivals). 0 < p.room) (sym c.self.view_is) c.requires.room in
    let len = c.push_reserved.ensures.len in
    let capacity = c.push_reserved.ensures.capacity in
    let was_room = has.room in
    let was_spare = has.spare in
    let is_spare = c.insert_reserved.ensures.spare in
    record {
      index = subst (λ (l : List Arrival). IsIndexed l (map asked c.insert_reserved.new.index.keys)) (sym list_is) index;
      room = omega (arith, some, len, capacity, was_room);
      spare = omega (arith, some, was_spare, is_spare);
    }
