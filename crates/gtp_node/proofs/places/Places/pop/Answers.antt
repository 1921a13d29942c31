use Rattle.std.proofs.Common.{rules, ◌≡◌, ◌++◌, [], ◌∷◌, ap, sym, ◌∙◌, cond, Some, None, length}
use Rattle.std.specs.BTreeMap.{get}
use Rattle.gtp_node.specs.Places.{first_by}
use Rattle.gtp_node.proofs.First.{pop_keeps, pop_stays}
use Rattle.gtp_node.proofs.places.Places.pop.Goals as goal

pub invariant_of-self-then-eq : goal.invariant_of-self-then-eq
invariant_of-self-then-eq g c q =
    let eq = g.K.PartialEq.eq in
    let x = c.in-Some.key in
    let ys = c.pop.new.self.items in
    let at = get g.K.Ord.cmp c.self.inside.first in
    let at' = get g.K.Ord.cmp c.remove.new.self in
    let items : c.self.inside.order.items ≡ ys ++ x ∷ [] = c.in-Some.ensures.items in
    let here : at x ≡ Some (length ys) = search rules in
    pop_keeps eq g.met.K.Eq.laws at at' x ys (λ k. c.self.invariant k ∙ ap (λ zs. first_by eq k zs) items) here
    (λ k. c.remove.ensures.updates.0 k ∙ ap (λ b. cond b None (at k)) (sym (g.met.K.Ord.matches_eq x k))) q

pub invariant_of-self-else-eq : goal.invariant_of-self-else-eq
invariant_of-self-else-eq g c q =
    let eq = g.K.PartialEq.eq in
    let x = c.in-Some.key in
    let ys = c.pop.new.self.items in
    let at = get g.K.Ord.cmp c.self.inside.first in
    let items : c.self.inside.order.items ≡ ys ++ x ∷ [] = c.in-Some.ensures.items in
    let other : at x ≡ Some (length ys) → ⊥ = λ here. search rules in
    pop_stays eq g.met.K.Eq.laws at at x ys (λ k. c.self.invariant k ∙ ap (λ zs. first_by eq k zs) items) other q
