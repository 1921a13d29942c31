use Rattle.std.proofs.Common.{◌≤◌, List, ◌++◌, map, length, sym, ◌∙◌, ap, subst, arith}
use Rattle.std.proofs.lemmas.List.{length-map}
use Rattle.gtp_machine.specs.Node.{Arrival}
use Rattle.gtp_gateway.specs.Tick.{arrivals_of}
use Rattle.gtp_world.specs.Indexes.{Arrivals, IsIndexed, asked}
use Rattle.gtp_world.specs.declared.request_key.RequestKey.{RequestKey}
use Rattle.gtp_world.proofs.Indexes.{all_more}
use Rattle.gtp_world.proofs.Logs.{arrivals_kept, as_many_arrivals}
use Rattle.gtp_world.proofs.SameKeys.{asked_same}
use Rattle.gtp_world.proofs.remembered.Remembered.append.Goals as goal

pub invariant_of-self : goal.invariant_of-self
invariant_of-self c =
    let old = c.self.inside in
    let more = c.more.inside in
    let was = arrivals_of old.requests.items in
    let those = arrivals_of more.requests.items in
    let list_is = ap arrivals_of c.push_all_reserved.ensures.items ∙ arrivals_kept old.requests.items more.requests.items in
    let grown = all_more asked _ asked_same was those old.index.keys more.index.keys c.self.invariant.index c.more.invariant.index in
    let index = subst (λ (ks : List RequestKey). IsIndexed (was ++ those) (map asked ks)) (sym c.insert_all_reserved.ensures.keys) grown in
    let asked_for : length those ≤ c.args.self.now.room = subst (λ (p : Arrivals). length p.list ≤ c.args.self.now.room) (sym c.more.view_is) c.requires in
    let fits : length those ≤ old.room = subst (λ (p : Arrivals). length those ≤ p.room) (sym c.self.view_is) asked_for in
    let long = as_many_arrivals more.requests.items in
    let counted = more.requests.ok.0 in
    let count = c.len.ensures in
    let keys = length-map more.index.keys asked in
    let few = c.more.invariant.index.few in
    let len = c.push_all_reserved.ensures.len in
    let capacity = c.push_all_reserved.ensures.capacity in
    let was_room = c.self.invariant.room in
    let was_spare = c.self.invariant.spare in
    let is_spare = c.insert_all_reserved.ensures.spare in
    record {
      index = subst (λ (l : List Arrival). IsIndexed l (map asked c.insert_all_reserved.new.index.keys)) (sym list_is) index;
      room = omega (arith, fits, long, counted, count, len, capacity, was_room);
      spare = omega (arith, fits, long, counted, count, keys, few, was_spare, is_spare);
    }
